use Rattle.std.proofs.Common.{◌≡◌, ℕ, ◌≤◌, ◌||◌, length, take}
use Rattle.sm_bits.specs.Places.{has}
use Rattle.sm_defs.specs.Image.{stands}
use Rattle.sm_select.proofs.mirror.add_all.Given as goal

abbrev pub invariant-loop-number : goal.invariant-loop-number
invariant-loop-number l = record {
  long : length l.set ≡ length l.fn.set;
  hole : has l.set 0 ≡ has l.fn.set 0;
  each : (n : ℕ) → 1 ≤ n → has l.set n ≡ (has l.fn.set n || stands n (take l.number-index l.map));
}
