use Rattle.std.proofs.Common.{length, ◌-◌, ◌≡◌, ℕ, ◌%◌, ◌<◌, ◌≤◌, slice_index, bit_or}
use Rattle.sm_bits.proofs.words.unite.Given as goal

abbrev pub invariant-loop-at : goal.invariant-loop-at
invariant-loop-at l = record {
  within : l.at ≤ length l.words;
  rows : l.at % 8 ≡ 0;
  done : (k : ℕ) → k < l.at → slice_index l.words k ≡ bit_or (slice_index l.fn.words k) (slice_index l.other k);
  left : (k : ℕ) → l.at ≤ k → slice_index l.words k ≡ slice_index l.fn.words k;
}

abbrev pub decreases-loop-at : goal.decreases-loop-at
decreases-loop-at l = length l.initial.words - l.at
