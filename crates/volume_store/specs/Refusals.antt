-- Which refusal each call answers, in the order in which they are asked.
use Rattle.std.specs.Prelude.{◌≡◌, ◌⊎◌, ℕ, ◌==◌, ◌||◌, ◌&&◌, ◌*◌, nat_lt, nat_le, Bool, if◌then◌else◌, List, [], ◌∷◌, ◌++◌, length, Option, None, Some, find, option_map, Result, Err, OnErr}
use Rattle.std.specs.List.{list_any, list_all, flat_map}
use Rattle.std.specs.Str.{bytes_eq}
use Rattle.sm_base.specs.declared.numbers.Ident.{Ident}
use Rattle.sm_defs.specs.Image.{distinct}
use Rattle.sm_base.specs.declared.limits.TheConstants.{MOST_SNAPSHOTS, LAST_NUMBER}
use Rattle.sm_defs.specs.Volume.{is_rw}
use Rattle.sm_defs.specs.Words.{same_ident}
use Rattle.sm_root.specs.declared.root.Root.{Root}
use Rattle.sm_root.specs.declared.root.RootSnapshot.{RootSnapshot}
use Rattle.volume_store.specs.declared.faults.VolumeFault.{VolumeFault}
use Rattle.volume_store.specs.declared.faults.VolumeFault.TheVariants.{ReadOnly, BadBlock, NoSpace, NoSnapshot, NameTaken, SnapFull, DiskFault, NoMemory as OutOfMemory}
use Rattle.sm_root.specs.Condition.{map_of}
use Rattle.volume_store.specs.declared.io.View.{View}
use Rattle.volume_store.specs.declared.io.View.TheVariants.{Active, Of}
use Rattle.volume_store.specs.Maps.{Maps, all_maps}
use Rattle.volume_store.specs.Next.{staying}

-- The refusal comes exactly where it stands; without one the call answers Ok, or fails on the disk or for want of memory.
abbrev pub Refuses : Option VolumeFault → Result (Unit {0}) VolumeFault → Type 0
Refuses (Some refusal) result = result ≡ Err refusal
Refuses None result = OnErr result ((result ≡ Err DiskFault) ⊎ (result ≡ Err OutOfMemory))

-- The same of a call that takes no memory.
abbrev pub RefusesOrFails : Option VolumeFault → Result (Unit {0}) VolumeFault → Type 0
RefusesOrFails (Some refusal) result = result ≡ Err refusal
RefusesOrFails None result = OnErr result (result ≡ Err DiskFault)

-- the snapshot stands on the volume
abbrev pub has_snapshot : List RootSnapshot → Ident → Bool
has_snapshot snapshots i = list_any (λ s. same_ident s.ident i) snapshots

abbrev pub has_name : List RootSnapshot → List ℕ → Bool
has_name snapshots name = list_any (λ s. bytes_eq s.name name) snapshots

abbrev pub refused_to_clients : Maps → Option VolumeFault → Option VolumeFault
refused_to_clients m later = if is_rw m.root.kind then later else Some ReadOnly

abbrev pub cp_refusal : Maps → Option VolumeFault
cp_refusal m = refused_to_clients m None

abbrev pub is_full : Root → Ident → Bool
is_full r i = (length r.snapshots == MOST_SNAPSHOTS) || ((i.seq == 2 * r.next) && (r.next == LAST_NUMBER))

abbrev pub snapshot_refusal : Maps → Ident → List ℕ → Option VolumeFault
snapshot_refusal m i name = refused_to_clients m (
    if has_name m.root.snapshots name then Some NameTaken else
    if is_full m.root i then Some SnapFull else None)

abbrev pub remove_refusal : Maps → List Ident → Option VolumeFault
remove_refusal m drops = if list_all (has_snapshot m.root.snapshots) drops then None else Some NoSnapshot

abbrev pub adopt_refusal : Maps → RootSnapshot → List Ident → Option VolumeFault
adopt_refusal m s drops = if nat_lt MOST_SNAPSHOTS (length (staying drops (m.root.snapshots ++ s ∷ []))) then Some SnapFull else None

-- how many different numbers the maps use
abbrev pub used_of : Maps → ℕ
used_of m = distinct (flat_map (λ (numbers : List ℕ). numbers) (all_maps m.root m.active))

abbrev pub write_refusal : Maps → ℕ → Option VolumeFault
write_refusal m at = refused_to_clients m (
    if nat_le m.root.logical at then Some BadBlock else
    if used_of m == m.root.physical then Some NoSpace else None)

abbrev pub unless_seen : Option (List ℕ) → Option VolumeFault → Option VolumeFault
unless_seen None later = Some NoSnapshot
unless_seen (Some numbers) later = later

-- the map of the image that is read
abbrev pub map_seen : Maps → View → Option (List ℕ)
map_seen m Active = Some m.active
map_seen m (Of i) = option_map map_of (find (λ s. same_ident s.ident i) m.root.snapshots)

abbrev pub read_refusal : Maps → View → ℕ → Option VolumeFault
read_refusal m view at = unless_seen (map_seen m view) (if nat_le m.root.logical at then Some BadBlock else None)

abbrev pub revert_refusal : Maps → Ident → Option VolumeFault
revert_refusal m i = if has_snapshot m.root.snapshots i then None else Some NoSnapshot
