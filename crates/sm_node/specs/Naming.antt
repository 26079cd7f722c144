-- Which volume of a node a path names.
use Rattle.std.specs.Prelude.{◌≡◌, ℕ, List, Some, Result, Ok, Err, slice_get}
use Rattle.sm_base.specs.declared.refusal.Refusal.{Refusal}
use Rattle.sm_model.specs.Answers.{volume_named}
use Rattle.sm_catroot.specs.declared.placed.Placed.{Placed}
use Rattle.sm_node.specs.declared.named.Named.{Named}
use Rattle.sm_node.specs.Seats.{Seated}
use Rattle.sm_node.specs.Nodes.{Node, placed, world_of}

-- the world's volume of the path is the one at this place, and lies on this disk
pub record IsNamedAt {D : Type 0} (n : Node D) (path : List ℕ) (f : Named) : Type 0 where
  pub place : Placed
  pub seat : Seated D
  pub is_place : slice_get n.root.held.volumes f.at ≡ Some place
  pub is_seat : slice_get n.seats f.at ≡ Some seat
  pub names : volume_named (world_of n) path ≡ Ok (record { at = f.at; item = placed place seat.volume })
  pub lies : f.disk.0 ≡ place.disk.0

-- or the refusal is the one of a path that names none
abbrev pub IsNamed : {D : Type 0} → Node D → List ℕ → Result Named Refusal → Type 0
IsNamed n path (Ok f) = IsNamedAt n path f
IsNamed n path (Err refusal) = volume_named (world_of n) path ≡ Err refusal
