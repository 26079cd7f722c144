-- Which refusal each call answers, in the order in which they are asked.
use Rattle.std.specs.Prelude.{ℕ, if◌then◌else◌, List, [], ◌∷◌, ◌++◌, Option, None, Some, find, option_map}
use Rattle.sm_base.specs.declared.numbers.Ident.{Ident}
use Rattle.sm_defs.specs.Image.{Image}
use Rattle.sm_defs.specs.Volume.{Volume, Snapshot, image_of, has}
use Rattle.sm_defs.specs.Operations.{to_clients, write_tests, snapshot_tests, has_each, are_too_many, is_past}
use Rattle.sm_defs.specs.Words.{same_ident}
use Rattle.volume_store.specs.declared.faults.VolumeFault.{VolumeFault}
use Rattle.volume_store.specs.declared.faults.VolumeFault.TheVariants.{ReadOnly, BadBlock, NoSpace, NoSnapshot, NameTaken, SnapFull}
use Rattle.volume_store.specs.declared.io.View.{View}
use Rattle.volume_store.specs.declared.io.View.TheVariants.{Active, Of}
use Rattle.sm_volume.specs.Assigned.{staying}

abbrev pub cp_refusal : Volume → Option VolumeFault
cp_refusal v = to_clients ReadOnly v None

abbrev pub snapshot_refusal : Volume → Ident → List ℕ → Option VolumeFault
snapshot_refusal v i name = snapshot_tests ReadOnly NameTaken SnapFull v i name

abbrev pub remove_refusal : Volume → List Ident → Option VolumeFault
remove_refusal v drops = if has_each v.snapshots drops then None else Some NoSnapshot

abbrev pub adopt_refusal : Volume → Snapshot → List Ident → Option VolumeFault
adopt_refusal v s drops = if are_too_many (staying drops (v.snapshots ++ s ∷ [])) then Some SnapFull else None

abbrev pub write_refusal : Volume → ℕ → Option VolumeFault
write_refusal v at = write_tests ReadOnly BadBlock NoSpace v at

-- the image that is read
abbrev pub image_seen : Volume → View → Option Image
image_seen v Active = Some v.active
image_seen v (Of i) = option_map image_of (find (λ s. same_ident s.ident i) v.snapshots)

abbrev pub unless_seen : Option Image → Option VolumeFault → Option VolumeFault
unless_seen None later = Some NoSnapshot
unless_seen (Some image) later = later

abbrev pub read_refusal : Volume → View → ℕ → Option VolumeFault
read_refusal v view at = unless_seen (image_seen v view) (if is_past v at then Some BadBlock else None)

abbrev pub revert_refusal : Volume → Ident → Option VolumeFault
revert_refusal v i = if has v.snapshots i then None else Some NoSnapshot
