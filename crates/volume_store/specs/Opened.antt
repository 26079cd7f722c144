-- A new volume, and what stands on a disk that is opened.
use Rattle.std.specs.Prelude.{◌≡◌, ◌⊎◌, ℕ, ◌<◌, ◌≤◌, ◌≢◌, IsTrue, slice_index, List, [], length, replicate, Vec, Result, Ok, Err}
use Rattle.std.specs.declared.alloc.Global.{Global}
use Rattle.sm_base.specs.declared.numbers.Kind.{Kind}
use Rattle.sm_base.specs.declared.numbers.VolNo.{VolNo}
use Rattle.sm_disk.specs.Image.{Image, part}
use Rattle.sm_disk.specs.Disk.{DiskState}
use Rattle.sm_root.specs.declared.TheConstants.{MAGIC}
use Rattle.sm_root.specs.declared.root.Root.{Root}
use Rattle.sm_root.specs.Condition.{IsRoot}
use Rattle.sm_root.specs.Layout.{root_record}
use Rattle.sm_root.specs.Spelling.{spelling}
use Rattle.sm_fields.specs.Grammar.{FirstFault}
use Rattle.sm_slots.specs.Stored.{Stored, Blank, Record, BadLength, stored, slot_of, slot_start}
use Rattle.volume_store.specs.declared.faults.VolumeFault.{VolumeFault}
use Rattle.volume_store.specs.declared.faults.VolumeFault.TheVariants.{DiskSmall, BadRoot, OtherNumber, DiskFault, NoMemory as OutOfMemory}
use Rattle.volume_store.specs.Held.{need}
use Rattle.volume_store.specs.Maps.{Maps}

-- only holes, and no snapshot; its family is its number
abbrev pub empty_maps : VolNo → Kind → ℕ → ℕ → Maps
empty_maps number kind logical physical = record {
  root = record { number = number; kind = kind; family = number.0; logical = logical; physical = physical; next = 1; stable = replicate logical 0; snapshots = [] };
  active = replicate logical 0;
}

-- why no volume is made
abbrev pub IsCreateFault : DiskState → ℕ → VolumeFault → Type 0
IsCreateFault s physical fault =
    ((s.size < need physical) × (fault ≡ DiskSmall (need physical) s.size))
    ⊎ ((need physical ≤ s.size) × ((fault ≡ OutOfMemory) ⊎ (fault ≡ DiskFault)))

-- the first of eight bytes that differs from the magic word of a root, or 8
pub record DiffersFirst (bytes : List ℕ) (at : ℕ) : Type 0 where
  pub within : at ≤ 8
  pub same : (k : ℕ) → k < at → slice_index bytes k ≡ slice_index MAGIC k
  pub differs : at < 8 → slice_index bytes at ≢ slice_index MAGIC at

-- the selected record of the image is this root
pub record IsRootOn (c : Image) (r : Root) : Type 0 where
  pub good : IsRoot r
  pub spelled : stored c ≡ Record (spelling r)

-- A volume that was found on a disk: the number of its record, and its maps.
pub record FoundMaps : Type 0 where
  pub number : ℕ
  pub maps : Maps

-- It is what the disk has, with the stable image as the active one; where the disk tells its content, its selected record is this root.
pub record IsFoundOn (s : DiskState) (f : FoundMaps) : Type 0 where
  pub settled : f.maps.active ≡ f.maps.root.stable
  pub one_of_two : f.number < 2
  pub room : need f.maps.root.physical ≤ s.size
  pub root : IsTrue s.told → IsRootOn s.seen f.maps.root
  pub slot : IsTrue s.told → f.number ≡ slot_of s.seen

-- the selected record of the image is no root: a blank slot is so at its first byte, a length that passes the slot at that
-- length, after the magic word, and a record at the first byte that fits no root
abbrev pub IsNoRootOn : Image → ℕ → Type 0
IsNoRootOn c at =
    ((stored c ≡ Blank) × (at ≡ 0))
    ⊎ ((stored c ≡ BadLength) × DiffersFirst (part c (slot_start (slot_of c)) 8) at)
    ⊎ ((bytes : List ℕ) × (stored c ≡ Record bytes) × FirstFault (root_record (length bytes)) bytes at)

-- the same, in the slot of this number
abbrev pub IsBadRootOn : Image → ℕ → ℕ → Type 0
IsBadRootOn c slot at = (slot ≡ slot_of c) × IsNoRootOn c at

-- what reading the record of a disk may answer in place of a root
abbrev pub IsReadFault : DiskState → VolumeFault → Type 0
IsReadFault s DiskFault = Unit {0}
IsReadFault s OutOfMemory = Unit {0}
IsReadFault s (BadRoot slot at) = IsTrue s.told → IsBadRootOn s.seen slot at
IsReadFault s _ = ⊥

-- a failure of the disk or want of memory
abbrev pub Fails : VolumeFault → Type 0
Fails answer = (answer ≡ DiskFault) ⊎ (answer ≡ OutOfMemory)

-- the fault, but for these two
abbrev pub IsOrFails : VolumeFault → VolumeFault → Type 0
IsOrFails fault answer = (answer ≡ fault) ⊎ Fails answer

abbrev pub Answers : {A : Type 0} → VolumeFault → Result A VolumeFault → Type 0
Answers fault (Ok x) = ⊥
Answers fault (Err answer) = IsOrFails fault answer

-- these bytes are read
abbrev pub AnswersBytes : List ℕ → Result (Vec ℕ Global) VolumeFault → Type 0
AnswersBytes bytes (Ok v) = v.items ≡ bytes
AnswersBytes bytes (Err answer) = Fails answer

-- What reading the record of a slot answers, by what the slot spells.
abbrev pub ReadsRecord : Image → Stored → Result (Vec ℕ Global) VolumeFault → Type 0
ReadsRecord c Blank result = Answers (BadRoot (slot_of c) 0) result
ReadsRecord c BadLength result = (at : ℕ) → DiffersFirst (part c (slot_start (slot_of c)) 8) at → Answers (BadRoot (slot_of c) at) result
ReadsRecord c (Record bytes) result = AnswersBytes bytes result

-- this root is read
abbrev pub AnswersRoot : Root → Result Root VolumeFault → Type 0
AnswersRoot r (Ok x) = x ≡ r
AnswersRoot r (Err answer) = Fails answer

-- What reading the root of an image answers: the root, or the byte at which it is none.
pub record ReadsRoot (c : Image) (result : Result Root VolumeFault) : Type 0 where
  pub bad : (slot at : ℕ) → IsBadRootOn c slot at → Answers (BadRoot slot at) result
  pub root : (r : Root) → IsRootOn c r → AnswersRoot r result

-- the need of the smallest volume
abbrev pub least_need : ℕ
least_need = need 1

-- Which fault opening a disk answers: each comes only where it is said here.
abbrev pub IsOpenFault : DiskState → VolNo → VolumeFault → Type 0
IsOpenFault s number DiskFault = Unit {0}
IsOpenFault s number OutOfMemory = Unit {0}
IsOpenFault s number (BadRoot slot at) = (least_need ≤ s.size) × (IsTrue s.told → IsBadRootOn s.seen slot at)
IsOpenFault s number (DiskSmall n len) =
    (len ≡ s.size)
    × (((s.size < least_need) × (n ≡ least_need))
    ⊎ ((least_need ≤ s.size) × (s.size < n) × (IsTrue s.told → (r : Root) × IsRootOn s.seen r × (n ≡ need r.physical))))
IsOpenFault s number (OtherNumber found) =
    (least_need ≤ s.size) × (found ≢ number.0) × (IsTrue s.told → (r : Root) × IsRootOn s.seen r × (need r.physical ≤ s.size) × (found ≡ r.number.0))
IsOpenFault s number _ = ⊥

-- A fault of the disk, where it tells its content, is answered, and nothing is found.
abbrev pub AnswersEachFault : {A : Type 0} → DiskState → VolNo → Result A VolumeFault → Type 0
AnswersEachFault s number result = IsTrue s.told → (fault : VolumeFault) → IsOpenFault s number fault → fault ≢ DiskFault → fault ≢ OutOfMemory → Answers fault result

-- the answer of a call that gives the disk back with its fault
abbrev pub without_disk : {A D : Type 0} → Result A (D × VolumeFault) → Result A VolumeFault
without_disk (Ok x) = Ok x
without_disk (Err e) = Err e.1

-- why the root is not that of a volume of this number on a disk of this length
abbrev pub IsStateFault : Root → VolNo → ℕ → VolumeFault → Type 0
IsStateFault r number len (DiskSmall n l) = (len < n) × (n ≡ need r.physical) × (l ≡ len)
IsStateFault r number len (OtherNumber found) = (need r.physical ≤ len) × (found ≡ r.number.0) × (found ≢ number.0)
IsStateFault r number len _ = ⊥
