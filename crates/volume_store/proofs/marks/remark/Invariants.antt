use Rattle.std.proofs.Common.{◌≡◌, ℕ, ◌-◌, ◌<◌, ◌≤◌, ◌||◌, true, length, take, drop}
use Rattle.sm_bits.specs.Places.{has}
use Rattle.sm_defs.specs.Image.{stands}
use Rattle.volume_store.proofs.marks.remark.Given as goal

abbrev pub invariant-loop-at : goal.invariant-loop-at
invariant-loop-at l = record {
  long : length l.set ≡ length l.fn.set;
  hole : has l.set 0 ≡ true;
  within : l.at ≤ length l.map;
  each : (n : ℕ) → 1 ≤ n → n < length l.fn.set → has l.set n ≡ (stands n (take l.at l.map) || stands n (drop l.at l.before));
}

abbrev pub decreases-loop-at : goal.decreases-loop-at
decreases-loop-at l = length l.map - l.at
