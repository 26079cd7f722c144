-- What events on volumes and snapshots are answered.
use Rattle.std.specs.Prelude.{ℕ, ◌*◌, ◌==◌, ◌||◌, nat_lt, List, [], ◌∷◌, ◌++◌, length, slice_get, slice_index_or, Option, Some, None, Result, Ok, Err}
use Rattle.std.specs.List.{list_any}
use Rattle.std.specs.Str.{bytes_eq}
use Rattle.sm_base.specs.declared.numbers.Ident.{Ident}
use Rattle.sm_base.specs.declared.numbers.DiskNo.{DiskNo}
use Rattle.sm_base.specs.declared.numbers.Kind.{Kind}
use Rattle.sm_base.specs.declared.refusal.What.TheVariants.{Volumes}
use Rattle.sm_base.specs.declared.refusal.Refusal.{Refusal}
use Rattle.sm_base.specs.declared.refusal.Refusal.TheVariants as refusals
use Rattle.sm_model.specs.declared.reply.Reply.TheVariants as replies
use Rattle.sm_base.specs.declared.limits.TheConstants.{MOST_VOLUMES, MOST_SNAPSHOTS, LAST_NUMBER}
use Rattle.sm_defs.specs.Words.{last_that, same_ident}
use Rattle.sm_defs.specs.Image.{Image, Block, hole, full_block}
use Rattle.sm_defs.specs.Volume.{Volume, Snapshot, new_volume, length_needed, without}
use Rattle.sm_defs.specs.Operations.{least_free, settled, counted, with_snapshot, is_read_only, is_past, is_used_up, has_name}
use Rattle.sm_defs.specs.Operations as operations
use Rattle.sm_defs.specs.Relationship.{Relationship}
use Rattle.sm_defs.specs.Needed.{holder}
use Rattle.sm_defs.specs.World.{Up, with_volume}
use Rattle.sm_model.specs.Answers.{Answer, ◌>>=◌, ◌>>◌, ◌when◌, ◌and◌, shows, some_or, volume_named, volno, relno}

abbrev pub with_new_volume : Up → Volume → Up
with_new_volume w v = record w { volumes = w.volumes ++ v ∷ [] }

abbrev pub create_volume : Up → List ℕ → DiskNo → Kind → ℕ → ℕ → Answer
create_volume w path disk kind logical physical = do
  refusals.NameTaken when list_any (λ v. bytes_eq v.path path) w.volumes
  refusals.NoDisk disk when disk.0 == 0
  len ← some_or (refusals.NoDisk disk) (slice_get w.disks disk.0)
  refusals.DiskTaken when list_any (λ v. v.disk == disk.0) w.volumes
  refusals.Full Volumes when length w.volumes == MOST_VOLUMES
  refusals.DiskSmall (length_needed physical) len when nat_lt len (length_needed physical)
  replies.Created (volno (length w.volumes)) and with_new_volume w (new_volume path disk.0 kind (length w.volumes) logical physical)

-- a new block lies at the least free number
abbrev pub written : Volume → ℕ → ℕ → Volume
written v block fill = operations.written v block (full_block (least_free v) fill)

abbrev pub write : Up → List ℕ → ℕ → ℕ → Answer
write w path block fill = do
  v ← volume_named w path
  refusals.ReadOnly when is_read_only v.item
  refusals.BadBlock when is_past v.item block
  refusals.NoSpace when is_used_up v.item
  replies.Done and with_volume w v.at (written v.item block fill)

abbrev pub client_ident : ℕ → Volume → Ident
client_ident number v = record { origin = number; seq = 2 * v.next }

abbrev pub client_snapshot : ℕ → ℕ → Volume → List ℕ → Option (List ℕ) → Snapshot
client_snapshot number time v name label =
    record { ident = client_ident number v; name = name; label = label; time = time; maker = 0; image = v.active }

abbrev pub snapped : ℕ → ℕ → Volume → List ℕ → Option (List ℕ) → Volume
snapped number time v name label = counted (with_snapshot v (client_snapshot number time v name label))

abbrev pub snap : Up → List ℕ → List ℕ → Option (List ℕ) → Answer
snap w path name label = do
  v ← volume_named w path
  refusals.ReadOnly when is_read_only v.item
  refusals.NameTaken when has_name v.item.snapshots name
  refusals.SnapFull when (length v.item.snapshots == MOST_SNAPSHOTS) || (v.item.next == LAST_NUMBER)
  replies.Snapped (client_ident v.at v.item) and with_volume w v.at (snapped v.at w.clock v.item name label)

-- the newest of the name
abbrev pub snapshot_named : Volume → List ℕ → Result Snapshot Refusal
snapshot_named v name = some_or (refusals.NoSnapshot name) (last_that (λ s. bytes_eq s.name name) v.snapshots)

-- somebody needs it
unfoldable pub held : Option Relationship → Result (Unit {0}) Refusal
held None = Ok tt
held (Some r) = Err (refusals.Held (relno r.number))

abbrev pub without_snapshot : Volume → Ident → Volume
without_snapshot v i = without (λ s. same_ident s.ident i) v

abbrev pub unsnap : Up → List ℕ → List ℕ → Answer
unsnap w path name = do
  v ← volume_named w path
  s ← snapshot_named v.item name
  refusals.ReadOnly when is_read_only v.item
  held (holder w v.at s.ident)
  replies.Done and with_volume w v.at (without_snapshot v.item s.ident)

abbrev pub cp : Up → List ℕ → Answer
cp w path = do
  v ← volume_named w path
  refusals.ReadOnly when is_read_only v.item
  replies.Done and with_volume w v.at (settled v.item)

unfoldable pub image_named : Volume → Option (List ℕ) → Result Image Refusal
image_named v None = Ok v.active
image_named v (Some name) = do
  s ← snapshot_named v name
  Ok s.image

abbrev pub block_at : Image → ℕ → Block
block_at image place = slice_index_or image place hole

abbrev pub read : Up → List ℕ → Option (List ℕ) → ℕ → Answer
read w path name place = do
  v ← volume_named w path
  image ← image_named v.item name
  refusals.BadBlock when is_past v.item place
  shows (block_at image place).bytes w
