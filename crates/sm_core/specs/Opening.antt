-- What opening a catalogue answers.
use Rattle.std.specs.Prelude.{◌≡◌, ℕ, List, []}
use Rattle.sm_disk.specs.Disk.{DiskState}
use Rattle.sm_defs.specs.World.{Up}
use Rattle.sm_model.specs.World.{up}
use Rattle.laws_blank.specs.Laws.{SoundButBytes}
use Rattle.sm_node.specs.Counted.{HasCounted}
use Rattle.sm_opening.specs.Looked.{disks_of, AllTold}
use Rattle.sm_opening.specs.OnDisk.{Spells}
use Rattle.sm_opening.specs.Opening.{Opens}
use Rattle.sm_core.specs.FaultsRise.{DisksHaveCounted}
use Rattle.sm_core.specs.Kept.{Kept}

-- It is up with the world of the node that was opened on these disks: where they tell their content, with the world that they
-- spell. Nothing has happened yet.
pub record OpensWhole {D : Type 0} (state : D → DiskState) (olds : List D) (k : Kept D) : Type 0 where
  pub node : Opens state olds k.node
  pub world : Up
  pub is : k.world ≡ up world
  pub spelled : AllTold state olds → Spells (disks_of state olds) world
  pub sound : SoundButBytes world
  pub history : k.history ≡ []
  pub sides : k.sides ≡ []
  -- no disk's count has fallen
  pub counted : (counts : ℕ → ℕ) → DisksHaveCounted state counts olds → HasCounted state counts k.node
