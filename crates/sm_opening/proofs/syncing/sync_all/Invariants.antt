use Rattle.std.proofs.Common.{◌≡◌, ◌<◌, ℕ, Some, slice_get}
use Rattle.sm_catroot.specs.declared.placed.Placed.{Placed}
use Rattle.sm_disk.specs.Disk.{IsSynced}
use Rattle.sm_opening.specs.Looked.{EachMoves, IsKeptOn, IsAt}
use Rattle.sm_opening.proofs.syncing.sync_all.Given as goal

abbrev pub invariant-loop-volume : goal.invariant-loop-volume
invariant-loop-volume g l = record {
  moves : EachMoves g.D.Disk.state IsKeptOn l.fn.disks l.disks;
  catalog : IsAt g.D.Disk.state 0 IsSynced l.disks;
  volumes : (k : ℕ) (p : Placed) → k < l.volume-index → slice_get l.placed k ≡ Some p → IsAt g.D.Disk.state p.disk.0 IsSynced l.disks;
}
