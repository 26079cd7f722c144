-- Disks spell one world or have one first fault, and never both.
use Rattle.std.proofs.Common.{◌≡◌, inl, inr, ℕ, suc, ◌+◌, ◌<◌, ◌≤◌, List, [], ◌∷◌, ◌++◌, refl, sym, ap, ◌∙◌, subst, arith}
use Rattle.std.proofs.lemmas.Bool.{cases_order}
use Rattle.std.proofs.lemmas.Option.{same_Some, none-some}
use Rattle.sm_base.specs.declared.limits.TheConstants.{SLOTS_END}
use Rattle.sm_defs.specs.World.{Up}
use Rattle.sm_slots.specs.Stored.{stored}
use Rattle.sm_root.specs.declared.root.Root.{Root}
use Rattle.sm_catroot.specs.declared.placed.Placed.{Placed}
use Rattle.sm_catroot.specs.Catalog.{Catalog}
use Rattle.sm_model.specs.Crossed.{Crossed}
use Rattle.sm_model.specs.declared.world.OpenKind.TheVariants.{Record, Cross}
use Rattle.sm_shape.specs.Crossing.{IsFirstCrossing}
use Rattle.sm_shape.specs.Blanked.{blanked}
use Rattle.sm_opening.specs.OnDisk.{Disks, AreBytes, Damage, damage, record_start, image_at, world_of, IsCatalogOn, IsCatalogFault, IsCatalogDamage, LiesOn, LiesNowhere, IsVolumeOn, IsRootDamage, IsRecordDamage, IsDiskDamage, IsVolumeDamage, AreVolumesOn, IsFirstDamage, relation_start, IsShaped, IsReadWorld, Spells, IsWholeDamage, IsDamage}
use Rattle.sm_opening.proofs.RecordsOnce.{one_catalog, catalog_apart, one_break, one_root, one_no_root}
use Rattle.sm_opening.proofs.NoFault.{root_apart, volume_apart}
use Rattle.sm_opening.proofs.VolumesWalk.{volumes_apart}

over : (a b : ℕ) → a < b → b ≤ a → ⊥
over a b less more = omega (arith, less, more)

module _ (d : Disks) where
  -- ---- disk 0

  pub the_catalog : (j k : Catalog) → IsCatalogOn d j → IsCatalogOn d k → j ≡ k
  the_catalog j k a b = one_catalog (stored (d.images 0)) j k a.read b.read a.shown b.shown

  -- ---- a volume's disk

  nowhere : (before : List Placed) (p : Placed) (size : ℕ) → LiesOn d before p size → LiesNowhere d before p → ⊥
  nowhere before p size on (inl first) = on.behind first
  nowhere before p size on (inr (inl none)) = none-some size (sym none ∙ on.is_disk)
  nowhere before p size on (inr (inr (q, m, same))) = on.alone q m same

  the_size : (before : List Placed) (p : Placed) (a b : ℕ) → LiesOn d before p a → LiesOn d before p b → a ≡ b
  the_size before p a b x y = same_Some a b (sym x.is_disk ∙ y.is_disk)

  the_root : (before : List Placed) (i : ℕ) (p : Placed) (r s : Root) → IsVolumeOn d before i p r → IsVolumeOn d before i p s → r ≡ s
  the_root before i p r s a b = one_root (image_at d p) r s a.root b.root

  -- ---- the volumes

  pub the_roots : (before : List Placed) (i : ℕ) (ps : List Placed) (rs ss : List Root) → AreVolumesOn d before i ps rs → AreVolumesOn d before i ps ss → rs ≡ ss
  the_roots before i [] [] [] a b = refl
  the_roots before i [] [] (s ∷ ss) a b = absurd b
  the_roots before i [] (r ∷ rs) ss a b = absurd a
  the_roots before i (p ∷ ps) [] ss a b = absurd a
  the_roots before i (p ∷ ps) (r ∷ rs) [] a b = absurd b
  the_roots before i (p ∷ ps) (r ∷ rs) (s ∷ ss) a b =
      ap (λ (x : Root). x ∷ rs) (the_root before i p r s a.0 b.0) ∙ ap (λ (xs : List Root). s ∷ xs) (the_roots (before ++ p ∷ []) (suc i) ps rs ss a.1 b.1)

  pub the_parts : (j k : Catalog) (rs ss : List Root) → IsReadWorld d j rs → IsReadWorld d k ss → (j ≡ k) × (rs ≡ ss)
  the_parts j k rs ss a b =
      let same = the_catalog j k a.catalog b.catalog in
      (same, the_roots [] 0 k.volumes rs ss (subst (λ (x : Catalog). AreVolumesOn d [] 0 x.volumes rs) same a.volumes) b.volumes)

  pub one_world_of : (v w : Up) → Spells d v → Spells d w → v ≡ w
  one_world_of v w a b =
      let same = the_parts a.catalog b.catalog a.roots b.roots a.read b.read in
      a.is ∙ ap (λ (k : Catalog). world_of d k a.roots) same.0 ∙ ap (λ (rs : List Root). world_of d b.catalog rs) same.1 ∙ sym b.is

  -- ---- faults

  module _ (small : AreBytes d) where
    catalog_fault_apart : (k : Catalog) (f : Damage) → IsCatalogOn d k → IsCatalogDamage d f → ⊥
    catalog_fault_apart k f on (inl (none, e)) = none-some on.size (sym none ∙ on.is_disk)
    catalog_fault_apart k f on (inr (size, is, inl (less, e))) =
        over size SLOTS_END less (subst (λ (n : ℕ). SLOTS_END ≤ n) (same_Some on.size size (sym on.is_disk ∙ is)) on.room)
    catalog_fault_apart k f on (inr (size, is, inr (room, from, none, e))) = catalog_apart (d.images 0) (small 0) k from on.shown none

    one_catalog_fault : (size : ℕ) (f g : Damage) → IsCatalogFault d size f → IsCatalogFault d size g → f ≡ g
    one_catalog_fault size f g (inl (less, e)) (inl (also, h)) = e ∙ sym h
    one_catalog_fault size f g (inl (less, e)) (inr (room, from, none, h)) = absurd (over size SLOTS_END less room)
    one_catalog_fault size f g (inr (room, from, none, e)) (inl (less, h)) = absurd (over size SLOTS_END less room)
    one_catalog_fault size f g (inr (room, from, none, e)) (inr (also, at, here, h)) =
        e ∙ ap (λ n. damage 0 (record_start (d.images 0) + n) Record) (one_break (d.images 0) (small 0) from at none here) ∙ sym h

    one_catalog_damage : (f g : Damage) → IsCatalogDamage d f → IsCatalogDamage d g → f ≡ g
    one_catalog_damage f g (inl (none, e)) (inl (also, h)) = e ∙ sym h
    one_catalog_damage f g (inl (none, e)) (inr (size, is, fault)) = absurd (none-some size (sym none ∙ is))
    one_catalog_damage f g (inr (size, is, fault)) (inl (none, h)) = absurd (none-some size (sym none ∙ is))
    one_catalog_damage f g (inr (size, is, fault)) (inr (n, here, other)) =
        one_catalog_fault n f g (subst (λ (m : ℕ). IsCatalogFault d m f) (same_Some size n (sym is ∙ here)) fault) other

    one_root_damage : (i : ℕ) (p : Placed) (size : ℕ) (r : Root) (f g : Damage) → IsRootDamage d i p size r f → IsRootDamage d i p size r g → f ≡ g
    one_root_damage i p size r f g (inl (less, e)) (inl (also, h)) = e ∙ sym h
    one_root_damage i p size r f g (inl (less, e)) (inr (room, other, h)) = absurd (over size _ less room)
    one_root_damage i p size r f g (inr (room, other, e)) (inl (less, h)) = absurd (over size _ less room)
    one_root_damage i p size r f g (inr (room, other, e)) (inr (also, too, h)) = e ∙ sym h

    one_record_damage : (i : ℕ) (p : Placed) (size : ℕ) (f g : Damage) → IsRecordDamage d i p size f → IsRecordDamage d i p size g → f ≡ g
    one_record_damage i p size f g (inl (from, none, e)) (inl (at, here, h)) =
        e ∙ ap (λ n. damage p.disk.0 (record_start (image_at d p) + n) Record) (one_no_root (image_at d p) (small p.disk.0) from at none here) ∙ sym h
    one_record_damage i p size f g (inl (from, none, e)) (inr (r, is, fault)) = absurd (root_apart (image_at d p) r from is none)
    one_record_damage i p size f g (inr (r, is, fault)) (inl (from, none, h)) = absurd (root_apart (image_at d p) r from is none)
    one_record_damage i p size f g (inr (r, is, fault)) (inr (s, here, other)) =
        one_root_damage i p size s f g (subst (λ (x : Root). IsRootDamage d i p size x f) (one_root (image_at d p) r s is here) fault) other

    one_disk_damage : (i : ℕ) (p : Placed) (size : ℕ) (f g : Damage) → IsDiskDamage d i p size f → IsDiskDamage d i p size g → f ≡ g
    one_disk_damage i p size f g (inl (less, e)) (inl (also, h)) = e ∙ sym h
    one_disk_damage i p size f g (inl (less, e)) (inr (long, fault)) = absurd (over size _ less long)
    one_disk_damage i p size f g (inr (long, fault)) (inl (less, h)) = absurd (over size _ less long)
    one_disk_damage i p size f g (inr (long, fault)) (inr (also, other)) = one_record_damage i p size f g fault other

    one_volume_damage : (before : List Placed) (i : ℕ) (p : Placed) (f g : Damage) → IsVolumeDamage d before i p f → IsVolumeDamage d before i p g → f ≡ g
    one_volume_damage before i p f g (inl (bars, e)) (inl (also, h)) = e ∙ sym h
    one_volume_damage before i p f g (inl (bars, e)) (inr (size, lies, fault)) = absurd (nowhere before p size lies bars)
    one_volume_damage before i p f g (inr (size, lies, fault)) (inl (bars, h)) = absurd (nowhere before p size lies bars)
    one_volume_damage before i p f g (inr (size, lies, fault)) (inr (n, here, other)) =
        one_disk_damage i p n f g (subst (λ (m : ℕ). IsDiskDamage d i p m f) (the_size before p size n lies here) fault) other

    one_first_damage : (before : List Placed) (i : ℕ) (ps : List Placed) (f g : Damage) → IsFirstDamage d before i ps f → IsFirstDamage d before i ps g → f ≡ g
    one_first_damage before i [] f g a b = absurd a
    one_first_damage before i (p ∷ ps) f g (inl a) (inl b) = one_volume_damage before i p f g a b
    one_first_damage before i (p ∷ ps) f g (inl a) (inr (r, on, b)) = absurd (volume_apart d before i p r on f a)
    one_first_damage before i (p ∷ ps) f g (inr (r, on, a)) (inl b) = absurd (volume_apart d before i p r on g b)
    one_first_damage before i (p ∷ ps) f g (inr (r, on, a)) (inr (s, too, b)) = one_first_damage (before ++ p ∷ []) (suc i) ps f g a b

    -- ---- the whole

    first_crossing_once : (w : Up) (j k : ℕ) → IsFirstCrossing w j → IsFirstCrossing w k → j ≡ k
    first_crossing_once w j k a b = elim (cases_order j k) [
      | inl same ↦ same
      | inr (inl less) ↦ absurd (a.misfit.breaks (b.misfit.before j less))
      | inr (inr more) ↦ absurd (b.misfit.breaks (a.misfit.before k more))
    ]

    one_whole_damage : (k : Catalog) (w : Up) (f g : Damage) → IsWholeDamage d k w f → IsWholeDamage d k w g → f ≡ g
    one_whole_damage k w f g (inl (place, first, e)) (inl (here, also, h)) =
        e ∙ ap (λ n. damage 0 (record_start (d.images 0) + relation_start k n) Cross) (first_crossing_once (blanked w) place here first also) ∙ sym h
    one_whole_damage k w f g (inl (place, first, e)) (inr (crossed, bars, h)) = absurd (first.not_crossed crossed)
    one_whole_damage k w f g (inr (crossed, bars, e)) (inl (place, first, h)) = absurd (first.not_crossed crossed)
    one_whole_damage k w f g (inr (crossed, bars, e)) (inr (also, too, h)) = e ∙ sym h

    moved_first : (j k : Catalog) (f : Damage) → j ≡ k → IsFirstDamage d [] 0 j.volumes f → IsFirstDamage d [] 0 k.volumes f
    moved_first j k f same a = subst (λ (x : Catalog). IsFirstDamage d [] 0 x.volumes f) same a

    moved_whole : (j k : Catalog) (rs ss : List Root) (f : Damage) → (j ≡ k) × (rs ≡ ss) → IsWholeDamage d j (world_of d j rs) f → IsWholeDamage d k (world_of d k ss) f
    moved_whole j k rs ss f same a =
        subst (λ (xs : List Root). IsWholeDamage d k (world_of d k xs) f) same.1 (subst (λ (x : Catalog). IsWholeDamage d x (world_of d x rs) f) same.0 a)

    -- where the records were read, no volume has a fault
    read_apart : (j k : Catalog) (rs : List Root) (f : Damage) → IsReadWorld d j rs → IsCatalogOn d k → IsFirstDamage d [] 0 k.volumes f → ⊥
    read_apart j k rs f read on fault = volumes_apart d [] 0 j.volumes rs f read.volumes (moved_first k j f (the_catalog k j on read.catalog) fault)

    pub one_fault_of : (f g : Damage) → IsDamage d f → IsDamage d g → f ≡ g
    one_fault_of f g (inl a) (inl b) = one_catalog_damage f g a b
    one_fault_of f g (inl a) (inr (inl (k, on, b))) = absurd (catalog_fault_apart k f on a)
    one_fault_of f g (inl a) (inr (inr (k, rs, read, b))) = absurd (catalog_fault_apart k f read.catalog a)
    one_fault_of f g (inr (inl (k, on, a))) (inl b) = absurd (catalog_fault_apart k g on b)
    one_fault_of f g (inr (inl (j, on, a))) (inr (inl (k, here, b))) = one_first_damage [] 0 k.volumes f g (moved_first j k f (the_catalog j k on here) a) b
    one_fault_of f g (inr (inl (k, on, a))) (inr (inr (j, rs, read, b))) = absurd (read_apart j k rs f read on a)
    one_fault_of f g (inr (inr (k, rs, read, a))) (inl b) = absurd (catalog_fault_apart k g read.catalog b)
    one_fault_of f g (inr (inr (j, rs, read, a))) (inr (inl (k, on, b))) = absurd (read_apart j k rs g read on b)
    one_fault_of f g (inr (inr (j, rs, read, a))) (inr (inr (k, ss, here, b))) =
        one_whole_damage k (world_of d k ss) f g (moved_whole j k rs ss f (the_parts j k rs ss read here) a) b

    pub no_fault_of : (w : Up) (f : Damage) → Spells d w → IsDamage d f → ⊥
    no_fault_of w f s (inl a) = catalog_fault_apart s.catalog f s.read.catalog a
    no_fault_of w f s (inr (inl (k, on, a))) = read_apart s.catalog k s.roots f s.read on a
    no_fault_of w f s (inr (inr (k, rs, read, a))) =
        whole_apart (moved_whole k s.catalog rs s.roots f (the_parts k s.catalog rs s.roots read s.read) a)
      where
        whole_apart : IsWholeDamage d s.catalog (world_of d s.catalog s.roots) f → ⊥
        whole_apart (inl (place, first, e)) = first.not_crossed (subst (λ (x : Up). Crossed (blanked x)) s.is s.crossed)
        whole_apart (inr (crossed, bars, e)) = bars (subst (λ (x : Up). IsShaped (blanked x)) s.is s.shaped)

pub one_world : (d : Disks) (v w : Up) → Spells d v → Spells d w → v ≡ w
one_world d v w a b = one_world_of d v w a b

pub one_fault : (d : Disks) (f g : Damage) → AreBytes d → IsDamage d f → IsDamage d g → f ≡ g
one_fault d f g small a b = one_fault_of d small f g a b

pub no_fault : (d : Disks) (w : Up) (f : Damage) → AreBytes d → Spells d w → IsDamage d f → ⊥
no_fault d w f small s a = no_fault_of d small w f s a
