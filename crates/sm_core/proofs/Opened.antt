-- A catalogue of a node that was opened.
use Rattle.std.proofs.Common.{◌≡◌, ℕ, List, [], refl, sym, subst}
use Rattle.sm_disk.specs.Disk.{DiskState}
use Rattle.sm_defs.specs.World.{Up}
use Rattle.sm_model.specs.Crossed.{Crossed}
use Rattle.sm_model.specs.World.{up}
use Rattle.sm_shape.specs.Blanked.{blanked}
use Rattle.laws_blank.specs.Laws.{SoundButBytes, ShapedIsSound}
use Rattle.sm_node.specs.Nodes.{Node, world_of, IsNode}
use Rattle.sm_opening.specs.Looked.{disks_of, AllTold}
use Rattle.sm_opening.specs.OnDisk.{Spells, IsShaped}
use Rattle.sm_opening.specs.Opening.{Opens}
use Rattle.sm_core.specs.Kept.{Kept}
use Rattle.sm_core.specs.Opening.{OpensWhole}
use Rattle.sm_core.proofs.CountsKept.{taken_in}

pub sound_opened : ShapedIsSound → (w : Up) → Crossed (blanked w) × IsShaped (blanked w) → SoundButBytes w
sound_opened law w shaped = law w shaped.1.shape shaped.0

-- what contracts see of the new catalogue
abbrev pub begun : {D : Type 0} → Node D → Kept D
begun n = record { world = up (world_of n); history = []; sides = []; node = n }

pub opens_whole : {D : Type 0} (state : D → DiskState) (olds : List D) (n : Node D) (k : Kept D) → k ≡ begun n → Opens state olds n → IsNode state n
    → (AllTold state olds → Spells (disks_of state olds) (world_of n)) → SoundButBytes (world_of n) → OpensWhole state olds k
opens_whole state olds n k is opens node spelled sound =
    subst (OpensWhole state olds) (sym is) (record { node = opens; world = world_of n; is = refl; spelled = spelled; sound = sound; history = refl; sides = refl; counted = λ counts has. taken_in state n node.laid_out counts olds opens has })
