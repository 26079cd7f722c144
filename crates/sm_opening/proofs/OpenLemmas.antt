-- A node's records go on to be what its disks hold while what was written is put onto the media.
use Rattle.std.proofs.Common.{◌≡◌, ℕ, ◌≤◌, List, length, map, sym, ap, subst, ◌∙◌, IsTrue}
use Rattle.sm_base.specs.declared.limits.TheConstants.{MOST_VOLUMES}
use Rattle.sm_base.specs.declared.numbers.VolNo.{VolNo}
use Rattle.sm_disk.specs.Image.{Image}
use Rattle.sm_disk.specs.Disk.{DiskState}
use Rattle.sm_slots.specs.Stored.{slot_of, slots_end, stored}
use Rattle.sm_register.specs.Opened.{FoundValue}
use Rattle.sm_catroot.specs.Catalog.{Catalog}
use Rattle.sm_catroot.specs.Kept.{ShowsCatalog}
use Rattle.volume_store.specs.Held.{need}
use Rattle.volume_store.specs.Opened.{FoundMaps, IsRootOn}
use Rattle.sm_model.specs.Answers.{volno}
use Rattle.sm_opening.specs.declared.fault.OpenFault.{OpenFault}
use Rattle.sm_opening.specs.declared.fault.OpenFault.TheVariants.{Unopened, NoMemory as OutOfMemory}
use Rattle.sm_opening.specs.OnDisk.{Disks, Spells}
use Rattle.sm_opening.specs.Looked.{disks_of, size_of, AllTold, EachMoves, IsKeptOn, Fails}
use Rattle.sm_opening.specs.Finding.{IsCatalogIn, IsVolumeIn, ReadRecords, IsReadOn, LieApart}
use Rattle.sm_opening.specs.Judged.{IsDiskFault, IsNoDiskFault}
use Rattle.sm_opening.specs.Syncing.{AllSynced}
use Rattle.sm_opening.specs.Whole.{world_on, IsSoundOn}
use Rattle.sm_node.specs.Nodes.{Node}
use Rattle.sm_opening.specs.Seating.{IsMadeOf}
use Rattle.sm_opening.specs.Opening.{IsReadyOn, Opens}
use Rattle.sm_opening.proofs.LookLemmas.{stays_at}
use Rattle.sm_opening.proofs.DisksSame.{disks_same}

catalog_kept : (f : FoundValue Catalog) (s e : DiskState) → IsKeptOn s e → IsCatalogIn s f → IsCatalogIn e f
catalog_kept f s e kept h = record {
  room = subst (λ (n : ℕ). slots_end ≤ n) (sym kept.goes.size) h.room;
  one_of_two = h.one_of_two;
  fit = h.fit;
  slot = λ told. subst (λ (c : Image). f.number ≡ slot_of c) (sym kept.seen) (h.slot (subst IsTrue kept.goes.told told));
  shown = λ told. subst (λ (c : Image). ShowsCatalog f.value (stored c)) (sym kept.seen) (h.shown (subst IsTrue kept.goes.told told));
}

volume_kept : (number : VolNo) (f : FoundMaps) (s e : DiskState) → IsKeptOn s e → IsVolumeIn s number f → IsVolumeIn e number f
volume_kept number f s e kept h = (
  record {
    settled = h.0.settled;
    one_of_two = h.0.one_of_two;
    room = subst (λ (n : ℕ). need f.maps.root.physical ≤ n) (sym kept.goes.size) h.0.room;
    root = λ told. subst (λ (c : Image). IsRootOn c f.maps.root) (sym kept.seen) (h.0.root (subst IsTrue kept.goes.told told));
    slot = λ told. subst (λ (c : Image). f.number ≡ slot_of c) (sym kept.seen) (h.0.slot (subst IsTrue kept.goes.told told));
  },
  h.1,
)

pub disk_fails : (e : OpenFault) → IsDiskFault e → Fails e
disk_fails (Unopened disk kind) is = is
disk_fails OutOfMemory none = absurd none

pub fault_only : (e : OpenFault) → IsDiskFault e → IsNoDiskFault e → ⊥
fault_only (Unopened disk kind) is free = free is
fault_only OutOfMemory none free = none

module _ {D : Type 0} (state : D → DiskState) (olds mids news : List D) (r : ReadRecords) (read : IsReadOn state mids r) (moves : EachMoves state IsKeptOn mids news) where
  reads_on : IsReadOn state news r
  reads_on = record {
    catalog = stays_at state IsKeptOn (λ s. IsCatalogIn s r.catalog) (catalog_kept r.catalog) 0 mids news moves read.catalog;
    volumes = record {
      as_many = read.volumes.as_many;
      each = λ k p f at is. stays_at state IsKeptOn (λ s. IsVolumeIn s (volno k) f) (volume_kept (volno k) f) p.disk.0 mids news moves (read.volumes.each k p f at is);
    };
    apart = subst (λ (n : ℕ). LieApart n r.catalog.value.volumes) (sym moves.as_long) read.apart;
  }

  few : length r.catalog.value.volumes ≤ MOST_VOLUMES
  few = let (x, is, h) = read.catalog in h.fit.few_volumes

  module _ (lengths : List ℕ) (sizes : lengths ≡ map (size_of state) mids) where
    pub ready_on : AllSynced state r.catalog.value.volumes news → IsSoundOn lengths r → (AllTold state olds → Spells (disks_of state olds) (world_on (disks_of state olds) r)) → IsReadyOn state olds news lengths r
    ready_on synced sound spelled = record {
      read = reads_on;
      few = few;
      synced = synced;
      sizes = sizes ∙ ap (λ (x : Disks). x.sizes) (sym (disks_same state IsKeptOn (λ s e kept. kept.goes.size) (λ s e kept. kept.seen) mids news moves));
      sound = sound;
      spelled = spelled;
    }

-- the node of what was prepared
pub opens_with : {D : Type 0} (state : D → DiskState) (items news taken : List D) → taken ≡ news → EachMoves state IsKeptOn items news → (lengths : List ℕ) (r : ReadRecords) → IsReadyOn state items news lengths r → (n : Node D) → IsMadeOf state taken lengths r.catalog r.founds n → Opens state items n
opens_with {D} state items news taken back moved lengths r ready n made = record {
  disks = news;
  lengths = lengths;
  records = r;
  moved = moved;
  ready = ready;
  made = subst (λ (l : List D). IsMadeOf state l lengths r.catalog r.founds n) back made;
}
