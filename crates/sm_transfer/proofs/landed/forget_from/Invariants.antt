use Rattle.std.proofs.Common.{◌≡◌, length}
use Rattle.sm_transfer.proofs.LandedLemmas.{IsCleared}
use Rattle.sm_transfer.proofs.landed.forget_from.Given as goal

abbrev pub invariant-loop-index : goal.invariant-loop-index
invariant-loop-index l = record {
  long : length l.marks ≡ length l.initial.marks;
  run : IsCleared l.marks l.from l.index;
}
