use Rattle.std.proofs.Common.{◌≡◌, length}
use Rattle.sm_transfer.proofs.LandedLemmas.{IsRun}
use Rattle.sm_transfer.proofs.landed.land_below.Given as goal

abbrev pub invariant-loop-index : goal.invariant-loop-index
invariant-loop-index l = record {
  long : length l.marks ≡ length l.initial.marks;
  run : IsRun l.marks l.index;
}
