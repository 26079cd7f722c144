-- The disks of a node in their old places.
use Rattle.std.specs.Prelude.{◌≡◌, ℕ, List, [], ◌∷◌, length, Option, Some, slice_get, slice_set}
use Rattle.sm_node.specs.Nodes.{Node, numbers}
use Rattle.sm_node.specs.Parts.{devices}

-- each of these disks is put at the place of its number
abbrev pub all_put : {D : Type 0} → List (Option D) → List ℕ → List D → List (Option D)
all_put places [] disks = places
all_put places (n ∷ ns) [] = places
all_put places (n ∷ ns) (d ∷ disks) = all_put (slice_set places n (Some d)) ns disks

pub record AreInPlaces {D : Type 0} (n : Node D) (disks : List D) : Type 0 where
  pub as_many : length disks ≡ length n.spares
  pub seats : (seat number : ℕ) (d : D) → slice_get (numbers n.seats) seat ≡ Some number → slice_get (devices n) seat ≡ Some d → slice_get disks number ≡ Some d
  pub spares : (number : ℕ) (d : D) → slice_get n.spares number ≡ Some (Some d) → slice_get disks number ≡ Some d
