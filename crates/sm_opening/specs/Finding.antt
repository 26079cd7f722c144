-- What is found on a single disk, for a catalogue and for a volume, and as which fault of a node a fault of it counts.
use Rattle.std.specs.Prelude.{◌≡◌, ◌≤◌, ◌==◌, ◌&&◌, not, nat_lt, true, take, length, Some, slice_get, Bool, Result, Err, List, IfOk, IfErr, IsTrue, ℕ}
use Rattle.std.specs.List.{list_any}
use Rattle.sm_base.specs.declared.limits.TheConstants.{SLOTS_END}
use Rattle.sm_base.specs.declared.numbers.DiskNo.{DiskNo}
use Rattle.sm_base.specs.declared.numbers.VolNo.{VolNo}
use Rattle.sm_disk.specs.Disk.{DiskState, IsCounted}
use Rattle.sm_model.specs.declared.world.OpenKind.TheVariants.{Record, Short, Number, Fault}
use Rattle.sm_register.specs.Opened as register
use Rattle.sm_register.specs.Opened.{FoundValue}
use Rattle.sm_register.specs.declared.fault.OpenFault as register_fault
use Rattle.sm_register.specs.declared.fault.OpenFault.TheVariants as register_faults
use Rattle.sm_catroot.specs.declared.TheConstants.{MAGIC}
use Rattle.sm_catroot.specs.declared.placed.Placed.{Placed}
use Rattle.sm_catroot.specs.Catalog.{Catalog}
use Rattle.sm_catroot.specs.Condition.{IsCatalog, again}
use Rattle.sm_catroot.specs.Kept.{ShowsCatalog, BreaksCatalog}
use Rattle.sm_root.specs.declared.root.Root.{Root}
use Rattle.sm_model.specs.Answers.{volno}
use Rattle.volume_store.specs.Opened as store
use Rattle.volume_store.specs.Opened.{FoundMaps}
use Rattle.volume_store.specs.declared.faults.VolumeFault.{VolumeFault}
use Rattle.volume_store.specs.declared.faults.VolumeFault.TheVariants as store_faults
use Rattle.sm_opening.specs.declared.fault.OpenFault.{OpenFault}
use Rattle.sm_opening.specs.declared.fault.OpenFault.TheVariants.{Unopened, NoMemory as OutOfMemory}
use Rattle.sm_opening.specs.Looked.{IsLookedAt, IsAt}

-- ---- the catalogue

abbrev pub IsCatalogIn : DiskState → FoundValue Catalog → Type 0
IsCatalogIn s f = register.IsFoundOn IsCatalog ShowsCatalog s f

-- what finding a catalogue on one disk answers
pub record FindsCatalog (s : DiskState) (result : Result (FoundValue Catalog) register_fault.OpenFault) (e : DiskState) : Type 0 where
  pub room : SLOTS_END ≤ s.size
  pub found : IfOk result (IsCatalogIn e)
  pub faults : IfErr result (register.IsOpenFault BreaksCatalog MAGIC s)
  pub exact : IsTrue s.told → register.ReadsValue ShowsCatalog again BreaksCatalog MAGIC s.seen (register.value_of result)
  pub counted : result ≡ Err register_faults.DiskFault → IsCounted s e
  pub looked : IsLookedAt s e

abbrev pub catalog_fault : register_fault.OpenFault → OpenFault
catalog_fault (register_faults.BadRecord slot at) = Unopened (record { 0 = 0 }) Record
catalog_fault register_faults.DiskFault = Unopened (record { 0 = 0 }) Fault
catalog_fault register_faults.NoMemory = OutOfMemory

-- it is on disk 0
abbrev pub IsCatalogFound : {D : Type 0} → (D → DiskState) → List D → FoundValue Catalog → Type 0
IsCatalogFound state ds f = IsAt state 0 (λ s. IsCatalogIn s f) ds

-- ---- a volume

-- what finding the volume of this number on one disk answers
pub record FindsVolume (number : VolNo) (s : DiskState) (result : Result FoundMaps VolumeFault) (e : DiskState) : Type 0 where
  pub found : IfOk result (λ f. store.IsFoundOn e f × (f.maps.root.number ≡ number))
  pub faults : IfErr result (store.IsOpenFault s number)
  pub exact : store.AnswersEachFault s number result
  pub counted : result ≡ Err store_faults.DiskFault → IsCounted s e
  pub looked : IsLookedAt s e

-- as a fault of the disk of this number; the others come from no opening
abbrev pub volume_fault : DiskNo → VolumeFault → OpenFault
volume_fault disk (store_faults.DiskSmall n len) = Unopened disk Short
volume_fault disk (store_faults.BadRoot slot at) = Unopened disk Record
volume_fault disk (store_faults.OtherNumber found) = Unopened disk Number
volume_fault disk store_faults.DiskFault = Unopened disk Fault
volume_fault disk _ = OutOfMemory

-- the volume's disk is one of so many, not the catalogue's, and not that of a volume before it
abbrev pub lies_apart : ℕ → List Placed → Placed → Bool
lies_apart count before p = not (p.disk.0 == 0) && (nat_lt p.disk.0 count && not (list_any (λ q. q.disk.0 == p.disk.0) before))

abbrev pub IsVolumeIn : DiskState → VolNo → FoundMaps → Type 0
IsVolumeIn s number f = store.IsFoundOn s f × (f.maps.root.number ≡ number)

-- it is on the disk that the catalogue says
abbrev pub IsVolumeFound : {D : Type 0} → (D → DiskState) → VolNo → Placed → List D → FoundMaps → Type 0
IsVolumeFound state number p ds f = IsAt state p.disk.0 (λ s. IsVolumeIn s number f) ds

-- ---- all volumes

abbrev pub root_of : FoundMaps → Root
root_of f = f.maps.root

-- each lies on a disk of its own
abbrev pub LieApart : ℕ → List Placed → Type 0
LieApart count ps = (k : ℕ) (p : Placed) → slice_get ps k ≡ Some p → lies_apart count (take k ps) p ≡ true

-- each is on the disk that the catalogue says
pub record AreVolumesFound {D : Type 0} (state : D → DiskState) (ps : List Placed) (ds : List D) (fs : List FoundMaps) : Type 0 where
  pub as_many : length fs ≡ length ps
  pub each : (k : ℕ) (p : Placed) (f : FoundMaps) → slice_get ps k ≡ Some p → slice_get fs k ≡ Some f → IsVolumeFound state (volno k) p ds f

-- ---- the records of a node

pub record ReadRecords : Type 0 where
  pub catalog : FoundValue Catalog
  pub founds : List FoundMaps

-- they are on these disks
pub record IsReadOn {D : Type 0} (state : D → DiskState) (ds : List D) (r : ReadRecords) : Type 0 where
  pub catalog : IsCatalogFound state ds r.catalog
  pub volumes : AreVolumesFound state r.catalog.value.volumes ds r.founds
  pub apart : LieApart (length ds) r.catalog.value.volumes
