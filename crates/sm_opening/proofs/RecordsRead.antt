-- The records of all disks, one after the other.
use Rattle.std.proofs.Common.{◌≡◌, ℕ, ◌≤◌, List, [], length, map, Ok, Err, sym, subst, inl, inr, IsTrue}
use Rattle.sm_disk.specs.Image.{Image}
use Rattle.sm_disk.specs.Disk.{DiskState}
use Rattle.sm_slots.specs.Stored.{slot_of, slots_end, stored}
use Rattle.sm_root.specs.declared.root.Root.{Root}
use Rattle.sm_register.specs.Opened.{FoundValue}
use Rattle.sm_catroot.specs.Catalog.{Catalog}
use Rattle.sm_catroot.specs.Kept.{ShowsCatalog}
use Rattle.volume_store.specs.Opened.{FoundMaps}
use Rattle.sm_opening.specs.declared.fault.OpenFault.{OpenFault}
use Rattle.sm_opening.specs.Looked.{disks_of, AllTold, IsLookedAt, Looks, Fails}
use Rattle.sm_opening.specs.Finding.{IsCatalogIn, IsCatalogFound, AreVolumesFound, LieApart, IsReadOn, root_of}
use Rattle.sm_opening.specs.OnDisk.{Disks, IsCatalogOn, IsCatalogDamage, AreVolumesOn, IsFirstDamage, IsReadWorld, IsReadingDamage}
use Rattle.sm_opening.proofs.LookLemmas.{looked_then, stays_at}
use Rattle.sm_opening.proofs.Once.{the_catalog}
use Rattle.sm_opening.proofs.Progress.{counted_since, same_disks, still_told}

pub catalog_stays : (f : FoundValue Catalog) (s e : DiskState) → IsLookedAt s e → IsCatalogIn s f → IsCatalogIn e f
catalog_stays f s e look h = record {
  room = subst (λ (n : ℕ). slots_end ≤ n) (sym look.goes.size) h.room;
  one_of_two = h.one_of_two;
  fit = h.fit;
  slot = λ told. subst (λ (c : Image). f.number ≡ slot_of c) (sym look.quiet.seen) (h.slot (subst IsTrue look.goes.told told));
  shown = λ told. subst (λ (c : Image). ShowsCatalog f.value (stored c)) (sym look.quiet.seen) (h.shown (subst IsTrue look.goes.told told));
}

module _ {D : Type 0} (state : D → DiskState) (olds mids : List D) where
  abbrev d : Disks
  d = disks_of state olds

  -- no catalogue is found
  module _ (e : OpenFault) (looks : Looks {A = FoundValue Catalog} state (IsCatalogDamage d) olds mids (Err e)) (whole : AllTold state olds → (k : Catalog) → IsCatalogOn d k → Fails e) where
    pub no_catalog : {A : Type 0} → Looks {A = A} state (IsReadingDamage d) olds mids (Err e)
    no_catalog = record {
      moves = looks.moves;
      counted = looks.counted;
      faults = λ told. elim (looks.faults told) [ inl (f, p, is) ↦ inl (f, inl p, is) | inr fails ↦ inr fails ];
      exact = λ told f p. elim p [
        | inl first ↦ looks.exact told f first
        | inr (k, on, later) ↦ inr (whole told k on)
      ];
    }

  module _ (f : FoundValue Catalog) (looks : Looks {A = FoundValue Catalog} state (IsCatalogDamage d) olds mids (Ok f)) (on : AllTold state olds → IsCatalogOn d f.value) (news : List D) where
    is_catalog : AllTold state olds → (k : Catalog) → IsCatalogOn d k → k ≡ f.value
    is_catalog told k is = the_catalog d k f.value is (on told)

    same_d : disks_of state mids ≡ d
    same_d = same_disks state olds mids looks.moves

    tells : AllTold state olds → AllTold state mids
    tells = still_told state olds mids looks.moves

    -- a volume is not found
    module _ {B : Type 0} (e : OpenFault) (then : Looks {A = B} state (IsFirstDamage (disks_of state mids) [] 0 f.value.volumes) mids news (Err e))
        (whole : AllTold state mids → (rs : List Root) → AreVolumesOn (disks_of state mids) [] 0 f.value.volumes rs → Fails e) where
      pub no_volumes : {A : Type 0} → Looks {A = A} state (IsReadingDamage d) olds news (Err e)
      no_volumes = record {
        moves = looked_then state olds mids news looks.moves then.moves;
        counted = counted_since state olds mids news e looks.moves then.counted;
        faults = λ told. elim (then.faults (tells told)) [
          | inl (x, p, is) ↦ inl (x, inr (f.value, on told, subst (λ (z : Disks). IsFirstDamage z [] 0 f.value.volumes x) same_d p), is)
          | inr fails ↦ inr fails
        ];
        exact = λ told x p. elim p [
          | inl first ↦ absurd (looks.exact told x first)
          | inr (k, is, later) ↦
              then.exact (tells told) x (subst (λ (z : Disks). IsFirstDamage z [] 0 f.value.volumes x) (sym same_d) (subst (λ (j : Catalog). IsFirstDamage d [] 0 j.volumes x) (is_catalog told k is) later))
        ];
      }

      pub none_whole : AllTold state olds → (k : Catalog) (rs : List Root) → IsReadWorld d k rs → Fails e
      none_whole told k rs read =
          whole (tells told) rs (subst (λ (z : Disks). AreVolumesOn z [] 0 f.value.volumes rs) (sym same_d) (subst (λ (j : Catalog). AreVolumesOn d [] 0 j.volumes rs) (is_catalog told k read.catalog) read.volumes))

    -- all are found
    module _ {B : Type 0} (b : B) (then : Looks {A = B} state (IsFirstDamage (disks_of state mids) [] 0 f.value.volumes) mids news (Ok b)) where
      pub all_records : {A : Type 0} (x : A) → Looks {A = A} state (IsReadingDamage d) olds news (Ok x)
      all_records x = record {
        moves = looked_then state olds mids news looks.moves then.moves;
        counted = tt;
        faults = λ told. tt;
        exact = λ told z p. elim p [
          | inl first ↦ looks.exact told z first
          | inr (k, is, later) ↦
              then.exact (tells told) z (subst (λ (y : Disks). IsFirstDamage y [] 0 f.value.volumes z) (sym same_d) (subst (λ (j : Catalog). IsFirstDamage d [] 0 j.volumes z) (is_catalog told k is) later))
        ];
      }

      module _ (fs : List FoundMaps) where
        pub records_found : IsCatalogFound state mids f → LieApart (length mids) f.value.volumes → AreVolumesFound state f.value.volumes news fs → IsReadOn state news (record { catalog = f; founds = fs })
        records_found at apart found = record {
          catalog = stays_at state IsLookedAt (λ s. IsCatalogIn s f) (catalog_stays f) 0 mids news then.moves at;
          volumes = found;
          apart = subst (λ (n : ℕ). LieApart n f.value.volumes) (sym then.moves.as_long) apart;
        }

        pub records_read : (AllTold state mids → AreVolumesOn (disks_of state mids) [] 0 f.value.volumes (map root_of fs)) → AllTold state olds → IsReadWorld d f.value (map root_of fs)
        records_read volumes told = record { catalog = on told; volumes = subst (λ (z : Disks). AreVolumesOn z [] 0 f.value.volumes (map root_of fs)) same_d (volumes (tells told)) }
