-- What the creation of a volume does to a node.
use Rattle.std.specs.Prelude.{◌≡◌, ◌⊎◌, ◌==◌, ◌≤◌, nat_lt, ℕ, true, List, [], ◌∷◌, ◌++◌, length, slice_get, slice_set, Option, Some, None, Result}
use Rattle.std.specs.List.{list_any}
use Rattle.std.specs.Str.{bytes_eq}
use Rattle.sm_base.specs.declared.limits.TheConstants.{MOST_VOLUMES}
use Rattle.sm_base.specs.declared.numbers.DiskNo.{DiskNo}
use Rattle.sm_base.specs.declared.numbers.Kind.{Kind}
use Rattle.sm_base.specs.declared.refusal.What.TheVariants.{Volumes}
use Rattle.sm_base.specs.declared.refusal.Refusal.{Refusal}
use Rattle.sm_base.specs.declared.refusal.Refusal.TheVariants as refusals
use Rattle.sm_defs.specs.Volume.{new_volume, length_needed}
use Rattle.sm_defs.specs.World.{Up}
use Rattle.sm_disk.specs.Disk.{DiskState, IsCounted}
use Rattle.sm_model.specs.declared.reply.Reply.TheVariants as replies
use Rattle.sm_model.specs.Answers.{Answer, ◌>>=◌, ◌>>◌, ◌when◌, ◌and◌, some_or, volno}
use Rattle.sm_model.specs.OfVolumes.{with_new_volume}
use Rattle.sm_catroot.specs.declared.placed.Placed.{Placed}
use Rattle.sm_catroot.specs.Catalog.{Catalog}
use Rattle.sm_volume.specs.Mounted.{Mounted}
use Rattle.sm_volume.specs.Shown.{KeepsBlocks, NoBlock}
use Rattle.sm_volume.specs.Kept.{IsKept}
use Rattle.sm_node.specs.declared.fault.NodeFault.{NodeFault}
use Rattle.sm_node.specs.declared.fault.NodeFault.TheVariants.{Down, NoMemory as OutOfMemory}

-- ---- what is tested

-- the tests of a creation, over where the volumes lie and how long the disks are
abbrev pub creation_test : List Placed → List ℕ → List ℕ → DiskNo → ℕ → Result (Unit {0}) Refusal
creation_test places lengths path disk physical = do
  refusals.NameTaken when list_any (λ p. bytes_eq p.path path) places
  refusals.NoDisk disk when disk.0 == 0
  len ← some_or (refusals.NoDisk disk) (slice_get lengths disk.0)
  refusals.DiskTaken when list_any (λ p. p.disk.0 == disk.0) places
  refusals.Full Volumes when length places == MOST_VOLUMES
  refusals.DiskSmall (length_needed physical) len when nat_lt len (length_needed physical)

-- the answer where none of them refuses
abbrev pub created : Up → List ℕ → DiskNo → Kind → ℕ → ℕ → Answer
created w path disk kind logical physical =
    replies.Created (volno (length w.volumes)) and with_new_volume w (new_volume path disk.0 kind (length w.volumes) logical physical)

-- ---- what is made

-- the catalogue with one more volume
abbrev pub with_place : Catalog → List ℕ → DiskNo → Catalog
with_place k path disk = record k { volumes = k.volumes ++ record { path = path; disk = disk } ∷ [] }

-- the disk of this number, at hand
abbrev pub IsAtHand : {D : Type 0} → List (Option D) → ℕ → Type 0
IsAtHand {D} spares number = (x : D) × (slice_get spares number ≡ Some (Some x))

-- a disk is taken from its place
pub record Takes {D : Type 0} (olds : List (Option D)) (number : ℕ) (disk : D) (news : List (Option D)) : Type 0 where
  pub was : slice_get olds number ≡ Some (Some disk)
  pub is : news ≡ slice_set olds number None

-- a volume of holes on a disk that may hold anything
pub record IsMade {D : Type 0} (state : D → DiskState) (blank : D) (number : ℕ) (kind : Kind) (logical physical : ℕ) (m : Mounted D) : Type 0 where
  pub is : m ≡ record { disk = m.disk; number = volno number; selected = 0; volume = new_volume [] 0 kind number logical physical; after = None; up = true }
  pub kept : IsKept state m
  pub formatted : KeepsBlocks NoBlock (state blank) (state m.disk)

-- none was made: the disk failed and its count of faults is this, or memory was wanting and the disk is as it was
pub record IsUnmade {D : Type 0} (state : D → DiskState) (blank : D) (disk : DiskNo) (back : D) (fault : NodeFault) : Type 0 where
  pub why : (fault ≡ Down disk (state back).faults) ⊎ ((fault ≡ OutOfMemory) × (back ≡ blank))
  pub counted : fault ≡ Down disk (state back).faults → IsCounted (state blank) (state back)
  pub size : (state back).size ≡ (state blank).size
