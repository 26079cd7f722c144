-- What was written is put onto the medium of the disks that a node uses.
use Rattle.std.specs.Prelude.{◌≡◌, ℕ, List, Some, Result, OnOk, OnErr, slice_get}
use Rattle.sm_disk.specs.Disk.{DiskState, IsSynced, IsCounted}
use Rattle.sm_catroot.specs.declared.placed.Placed.{Placed}
use Rattle.sm_opening.specs.Looked.{IsKeptOn, IsAt}

-- what putting it onto the medium of one disk answers
pub record SyncsDisk {A E : Type 0} (s : DiskState) (result : Result A E) (e : DiskState) : Type 0 where
  pub kept : IsKeptOn s e
  pub synced : OnOk result (IsSynced e)
  pub counted : OnErr result (IsCounted s e)

-- the disk of each of these volumes
abbrev pub AreSynced : {D : Type 0} → (D → DiskState) → List Placed → List D → Type 0
AreSynced state ps ds = (k : ℕ) (p : Placed) → slice_get ps k ≡ Some p → IsAt state p.disk.0 IsSynced ds

-- disk 0 and those of the volumes
pub record AllSynced {D : Type 0} (state : D → DiskState) (ps : List Placed) (ds : List D) : Type 0 where
  pub catalog : IsAt state 0 IsSynced ds
  pub volumes : AreSynced state ps ds
