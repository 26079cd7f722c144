use Rattle.std.proofs.Common.{◌≡◌, ℕ, ◌+◌, ◌<◌, ◌||◌, true, get_or, length}
use Rattle.sm_bits.specs.Places.{has}
use Rattle.sm_defs.specs.Image.{stands}
use Rattle.volume_store.proofs.marks.mark.Given as goal

abbrev pub invariant-loop-rest : goal.invariant-loop-rest
invariant-loop-rest l = record {
  long : length l.set ≡ length l.fn.set;
  inside : (i : ℕ) → get_or l.rest i 0 < length l.fn.set;
  more : (n : ℕ) → has l.fn.set n ≡ true → has l.set n ≡ true;
  each : (n : ℕ) → (has l.set n || stands n l.rest) ≡ (has l.fn.set n || stands n l.map);
  place : l.at + length l.rest ≡ length l.map;
}

abbrev pub decreases-loop-rest : goal.decreases-loop-rest
decreases-loop-rest l = length l.rest
