-- What opening a node answers.
use Rattle.std.specs.Prelude.{◌≡◌, ◌≤◌, ℕ, List, map, length, Result, Ok, Err}
use Rattle.sm_base.specs.declared.limits.TheConstants.{MOST_VOLUMES}
use Rattle.sm_disk.specs.Disk.{DiskState}
use Rattle.sm_node.specs.Nodes.{Node}
use Rattle.sm_opening.specs.declared.fault.OpenFault.{OpenFault}
use Rattle.sm_opening.specs.Looked.{disks_of, size_of, AllTold, EachMoves, IsKeptOn}
use Rattle.sm_opening.specs.OnDisk.{Spells}
use Rattle.sm_opening.specs.Finding.{ReadRecords, IsReadOn}
use Rattle.sm_opening.specs.Seating.{IsMadeOf}
use Rattle.sm_opening.specs.Syncing.{AllSynced}
use Rattle.sm_opening.specs.Whole.{world_on, IsSoundOn}

-- the answer, where the disks come back with a fault
abbrev pub without_disks : {A B : Type 0} → Result A (B × OpenFault) → Result A OpenFault
without_disks (Ok x) = Ok x
without_disks (Err e) = Err e.1

module _ {D : Type 0} (state : D → DiskState) where
  -- the records of these disks, all of which is on the medium; whatever the blocks hold, their world is sound but for them
  pub record IsReadyOn (olds news : List D) (lengths : List ℕ) (r : ReadRecords) : Type 0 where
    pub read : IsReadOn state news r
    pub few : length r.catalog.value.volumes ≤ MOST_VOLUMES
    pub synced : AllSynced state r.catalog.value.volumes news
    pub sizes : lengths ≡ map (size_of state) news
    pub sound : IsSoundOn lengths r
    pub spelled : AllTold state olds → Spells (disks_of state olds) (world_on (disks_of state olds) r)

  -- The node is made of records that were read on the disks, which read as before: where they tell their content, of the
  -- world that they spell.
  pub record Opens (olds : List D) (n : Node D) : Type 0 where
    pub disks : List D
    pub lengths : List ℕ
    pub records : ReadRecords
    pub moved : EachMoves state IsKeptOn olds disks
    pub ready : IsReadyOn olds disks lengths records
    pub made : IsMadeOf state disks lengths records.catalog records.founds n
