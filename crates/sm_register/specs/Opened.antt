-- What is found on a disk that is opened.
use Rattle.std.specs.Prelude.{◌≡◌, ◌⊎◌, ◌≢◌, ℕ, ◌<◌, ◌≤◌, IsTrue, slice_index, List, Result, Ok, Err}
use Rattle.sm_disk.specs.Image.{Image, part}
use Rattle.sm_disk.specs.Disk.{DiskState}
use Rattle.sm_slots.specs.Stored.{Stored, Blank, Record, BadLength, stored, slot_of, slot_start, slots_end}
use Rattle.sm_register.specs.declared.fault.OpenFault.{OpenFault}
use Rattle.sm_register.specs.declared.fault.OpenFault.TheVariants.{BadRecord, DiskFault, NoMemory as OutOfMemory}
use Rattle.sm_register.specs.Registered.{Registered}

-- the first of eight bytes that differs from the magic word, or 8
pub record DiffersFirst (magic bytes : List ℕ) (at : ℕ) : Type 0 where
  pub within : at ≤ 8
  pub same : (k : ℕ) → k < at → slice_index bytes k ≡ slice_index magic k
  pub differs : at < 8 → slice_index bytes at ≢ slice_index magic at

-- a failure of the disk or want of memory
abbrev pub Fails : OpenFault → Type 0
Fails answer = (answer ≡ DiskFault) ⊎ (answer ≡ OutOfMemory)

-- the fault, but for these two
abbrev pub IsOrFails : OpenFault → OpenFault → Type 0
IsOrFails fault answer = (answer ≡ fault) ⊎ Fails answer

abbrev pub Answers : {R : Type 0} → OpenFault → Result R OpenFault → Type 0
Answers fault (Ok x) = ⊥
Answers fault (Err answer) = IsOrFails fault answer

-- this value is read
abbrev pub AnswersValue : {R : Type 0} → R → Result R OpenFault → Type 0
AnswersValue r (Ok x) = x ≡ r
AnswersValue r (Err answer) = Fails answer

-- the value that was found, where the disk comes back with its fault
abbrev pub held_of : {D R : Type 0} → Result (Registered D R) (D × OpenFault) → Result R OpenFault
held_of (Ok v) = Ok v.held
held_of (Err e) = Err e.1

-- A value that was found on a disk, and the number of its slot.
pub record FoundValue (R : Type 0) : Type 0 where
  pub number : ℕ
  pub value : R

-- the same, where it comes with its slot
abbrev pub value_of : {R : Type 0} → Result (FoundValue R) OpenFault → Result R OpenFault
value_of (Ok f) = Ok f.value
value_of (Err fault) = Err fault

-- the selected slot of the disk shows the value
pub record IsFoundOn {R : Type 0} (fits : R → Type 0) (shows : R → Stored → Type 0) (s : DiskState) (f : FoundValue R) : Type 0 where
  pub room : slots_end ≤ s.size
  pub one_of_two : f.number < 2
  pub fit : fits f.value
  pub slot : IsTrue s.told → f.number ≡ slot_of s.seen
  pub shown : IsTrue s.told → shows f.value (stored s.seen)

-- where what a slot spells fits no value: a length that passes the slot is so at that length, after the magic word in the
-- slot's first eight bytes
abbrev pub NoneAt : (Stored → ℕ → Type 0) → List ℕ → List ℕ → Stored → ℕ → Type 0
NoneAt breaks magic front Blank at = breaks Blank at
NoneAt breaks magic front (Record bytes) at = breaks (Record bytes) at
NoneAt breaks magic front BadLength at = DiffersFirst magic front at

-- the selected slot of the image, of this number, spells no value
abbrev pub IsBadOn : (Stored → ℕ → Type 0) → List ℕ → Image → ℕ → ℕ → Type 0
IsBadOn breaks magic c slot at = (slot ≡ slot_of c) × NoneAt breaks magic (part c (slot_start (slot_of c)) 8) (stored c) at

-- which fault opening a disk answers: each comes only where it is said here
abbrev pub IsOpenFault : (Stored → ℕ → Type 0) → List ℕ → DiskState → OpenFault → Type 0
IsOpenFault breaks magic s (BadRecord slot at) = IsTrue s.told → IsBadOn breaks magic s.seen slot at
IsOpenFault breaks magic s DiskFault = Unit {0}
IsOpenFault breaks magic s OutOfMemory = Unit {0}

-- What reading an image answers: the value that it shows as it is read again, or the byte at which it shows none.
pub record ReadsValue {R : Type 0} (shows : R → Stored → Type 0) (again : R → R) (breaks : Stored → ℕ → Type 0) (magic : List ℕ) (c : Image) (result : Result R OpenFault) : Type 0 where
  pub bad : (slot at : ℕ) → IsBadOn breaks magic c slot at → Answers (BadRecord slot at) result
  pub good : (r : R) → shows r (stored c) → AnswersValue (again r) result
