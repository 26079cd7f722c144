use Rattle.std.proofs.Common.{◌≡◌, ◌<◌, ℕ, slice_get, Some}
use Rattle.sm_disk.specs.Disk.{IsSynced}
use Rattle.sm_node.specs.Turning.{SparesTurn}
use Rattle.sm_node.proofs.restarting.restart_spares.Given as goal

pub record Kept (A B : Type 0) : Type 0 where
  pub turns : A
  pub synced : B

abbrev pub invariant-loop-at : goal.invariant-loop-at
invariant-loop-at g l =
    Kept (SparesTurn g.D.Disk.state l.fn.spares l.spares) ((k : ℕ) (x : _) → k < l.at → slice_get l.spares k ≡ Some (Some x) → IsSynced (g.D.Disk.state x))
