use Rattle.std.proofs.Common.{◌≡◌, ◌<◌, ◌≤◌, length, slice_get, Some, ℕ}
use Rattle.sm_node.specs.Seats.{Seated}
use Rattle.sm_node.specs.Turning.{InTurn, IsBack}
use Rattle.sm_node.proofs.restarting.restart_seats.Given as goal

pub record Kept (A B C E : Type 0) : Type 0 where
  pub turns : A
  pub back : B
  pub rest : C
  pub long : E

abbrev pub invariant-loop-at : goal.invariant-loop-at
invariant-loop-at g l =
    Kept (InTurn g.D.Disk.state l.fn.seats l.fn.side l.seats l.side)
    ((i : ℕ) (s : Seated _) → i < l.at → slice_get l.seats i ≡ Some s → IsBack g.D.Disk.state s.volume)
    ((i : ℕ) → l.at ≤ i → slice_get l.seats i ≡ slice_get l.fn.seats i)
    (length l.seats ≡ length l.fn.seats)
