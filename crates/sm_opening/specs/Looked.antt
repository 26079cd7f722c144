-- The disks that a call has, by their numbers, and what looking at them answers and changes.
use Rattle.std.specs.Prelude.{◌≡◌, ◌⊎◌, ℕ, List, map, length, Option, Some, None, Result, Ok, Err, IfErr, IsTrue, slice_get, slice_set}
use Rattle.sm_disk.specs.Image.{Image}
use Rattle.sm_disk.specs.Disk.{DiskState, GoesOn, IsQuiet, IsCounted}
use Rattle.sm_model.specs.declared.world.OpenKind.TheVariants.{Fault}
use Rattle.sm_opening.specs.declared.fault.OpenFault.{OpenFault}
use Rattle.sm_opening.specs.declared.fault.OpenFault.TheVariants.{Unopened, NoMemory as OutOfMemory}
use Rattle.sm_opening.specs.OnDisk.{Disks, Damage}

-- ---- the disks

module _ {D : Type 0} (state : D → DiskState) where
  -- no disk is as one of zeros
  abbrev pub seen_of : Option D → Image
  seen_of (Some x) = (state x).seen
  seen_of None = λ place. 0

  abbrev pub size_of : D → ℕ
  size_of x = (state x).size

  -- how long they are, and what a read gives
  abbrev pub disks_of : List D → Disks
  disks_of ds = record { sizes = map size_of ds; images = λ n. seen_of (slice_get ds n) }

  abbrev pub AllTold : List D → Type 0
  AllTold ds = (n : ℕ) (x : D) → slice_get ds n ≡ Some x → IsTrue (state x).told

  -- P of each disk before and afterwards, at the place of its number
  pub record EachMoves (P : DiskState → DiskState → Type 0) (olds news : List D) : Type 0 where
    pub as_long : length news ≡ length olds
    pub each : (n : ℕ) (x y : D) → slice_get olds n ≡ Some x → slice_get news n ≡ Some y → P (state x) (state y)

  -- P of the disk of one number, and no other is touched
  pub record OneMoves (at : ℕ) (P : DiskState → DiskState → Type 0) (olds news : List D) : Type 0 where
    pub old : D
    pub new : D
    pub was : slice_get olds at ≡ Some old
    pub is : news ≡ slice_set olds at new
    pub did : P (state old) (state new)

  -- P of the disk of a number
  abbrev pub IsAt : ℕ → (DiskState → Type 0) → List D → Type 0
  IsAt at P ds = (x : D) × (slice_get ds at ≡ Some x) × P (state x)

  -- the disk that is named failed: its count rose
  abbrev pub IsFaultCounted : List D → List D → OpenFault → Type 0
  IsFaultCounted olds news (Unopened disk kind) = kind ≡ Fault → (x : D) × (y : D) × (slice_get olds disk.0 ≡ Some x) × (slice_get news disk.0 ≡ Some y) × IsCounted (state x) (state y)
  IsFaultCounted olds news OutOfMemory = Unit {0}

-- looked at, and not changed
pub record IsLookedAt (s e : DiskState) : Type 0 where
  pub quiet : IsQuiet s e
  pub goes : GoesOn s e s.may_leave

-- it reads as before, and a restart leaves nothing new
pub record IsKeptOn (s e : DiskState) : Type 0 where
  pub seen : e.seen ≡ s.seen
  pub goes : GoesOn s e s.may_leave

-- ---- answers

-- a failure of a disk, or want of memory
abbrev pub Fails : OpenFault → Type 0
Fails (Unopened disk kind) = kind ≡ Fault
Fails OutOfMemory = Unit {0}

-- the disk and the kind of a fault
abbrev pub unopened : Damage → OpenFault
unopened f = Unopened (record { 0 = f.disk }) f.kind

-- the fault is answered, or such a failure
abbrev pub AnswersDamage : {A : Type 0} → Damage → Result A OpenFault → Type 0
AnswersDamage f (Ok x) = ⊥
AnswersDamage f (Err e) = (e ≡ unopened f) ⊎ Fails e

-- what is answered is such a fault, or such a failure
abbrev pub IsDamageOf : (Damage → Type 0) → OpenFault → Type 0
IsDamageOf P e = ((f : Damage) × P f × (e ≡ unopened f)) ⊎ Fails e

-- Where a call looks at disks for faults of which P says which they are: a fault is answered only where it is one, and
-- where there is one.
pub record Looks {D A : Type 0} (state : D → DiskState) (P : Damage → Type 0) (olds news : List D) (result : Result A OpenFault) : Type 0 where
  pub moves : EachMoves state IsLookedAt olds news
  pub counted : IfErr result (IsFaultCounted state olds news)
  pub faults : AllTold state olds → IfErr result (IsDamageOf P)
  pub exact : AllTold state olds → (f : Damage) → P f → AnswersDamage f result
