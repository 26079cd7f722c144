-- A volume and the number of its disk.
use Rattle.std.specs.Prelude.{◌≡◌, ℕ, List, true, Some, slice_get}
use Rattle.sm_disk.specs.Disk.{DiskState}
use Rattle.sm_model.specs.Answers.{volno}
use Rattle.sm_volume.specs.Kept.{IsKept}
use Rattle.sm_volume.specs.Mounted.{Mounted}

pub record Seated (D : Type 0) : Type 0 where
  pub disk : ℕ
  pub volume : Mounted D

abbrev pub disk_number : {D : Type 0} → Seated D → ℕ
disk_number s = s.disk

abbrev pub device : {D : Type 0} → Seated D → D
device s = s.volume.disk

-- the seat, of which the volume has become this one
abbrev pub moved : {D : Type 0} → Seated D → Mounted D → Seated D
moved s m = record { disk = s.disk; volume = m }

-- the volume of number i, which is kept
pub record IsAtSeat {D : Type 0} (state : D → DiskState) (i : ℕ) (s : Seated D) : Type 0 where
  pub kept : IsKept state s.volume
  pub numbered : s.volume.number ≡ volno i

abbrev pub AreAtSeats : {D : Type 0} → (D → DiskState) → List (Seated D) → Type 0
AreAtSeats state seats = (i : ℕ) (s : Seated _) → slice_get seats i ≡ Some s → IsAtSeat state i s

-- no call has failed on any of their disks
abbrev pub AllUp : {D : Type 0} → List (Seated D) → Type 0
AllUp seats = (i : ℕ) (s : Seated _) → slice_get seats i ≡ Some s → s.volume.up ≡ true
