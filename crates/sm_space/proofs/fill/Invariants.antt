use Rattle.std.proofs.Common.{◌≡◌, ℕ, ◌<◌, false, length, replicate}
use Rattle.sm_bits.specs.Places.{has}
use Rattle.sm_space.specs.Free.{free_of}
use Rattle.sm_space.proofs.fill.Given as goal

abbrev pub invariant-loop-number : goal.invariant-loop-number
invariant-loop-number l = record {
  long : length l.all ≡ l.end;
  done : (k : ℕ) → k < l.number → has l.all k ≡ has (free_of (replicate l.end false)) k;
}
