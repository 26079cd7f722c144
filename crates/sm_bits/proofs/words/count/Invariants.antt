use Rattle.std.proofs.Common.{length, ◌-◌, ◌*◌, ◌≡◌, ◌%◌, ◌≤◌, take, sum_by, count_ones}
use Rattle.sm_bits.proofs.words.count.Given as goal

abbrev pub invariant-loop-at : goal.invariant-loop-at
invariant-loop-at l = record {
  within : l.at ≤ length l.words;
  rows : l.at % 8 ≡ 0;
  small : l.total ≤ 64 * l.at;
  done : l.total ≡ sum_by count_ones (take l.at l.words);
}

abbrev pub decreases-loop-at : goal.decreases-loop-at
decreases-loop-at l = length l.initial.words - l.at
