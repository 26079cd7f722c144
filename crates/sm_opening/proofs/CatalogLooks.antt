-- What is answered of disk 0.
use Rattle.std.proofs.Common.{◌≡◌, ℕ, ◌+◌, [], ◌<◌, ◌≤◌, List, Some, Result, Ok, Err, slice_get, refl, sym, ap, subst, ◌∙◌, inl, inr, arith, IsTrue}
use Rattle.std.specs.Option.{option_map}
use Rattle.std.specs.Prelude.{map}
use Rattle.std.proofs.lemmas.Option.{same_Some, none-some, slice_get-map}
use Rattle.sm_base.specs.declared.limits.TheConstants.{SLOTS_END}
use Rattle.sm_disk.specs.Image.{Image}
use Rattle.sm_disk.specs.Disk.{DiskState}
use Rattle.sm_slots.specs.Stored.{slot_of, stored}
use Rattle.sm_register.specs.Opened as register
use Rattle.sm_register.specs.Opened.{FoundValue}
use Rattle.sm_register.specs.declared.fault.OpenFault as register_fault
use Rattle.sm_register.specs.declared.fault.OpenFault.TheVariants.{BadRecord, DiskFault, NoMemory}
use Rattle.sm_catroot.specs.Catalog.{Catalog}
use Rattle.sm_catroot.specs.Condition.{again}
use Rattle.sm_catroot.specs.Kept.{ShowsCatalog}
use Rattle.sm_model.specs.declared.world.OpenKind.TheVariants.{NoDisk, Short, Record}
use Rattle.sm_opening.specs.declared.fault.OpenFault.{OpenFault}
use Rattle.sm_opening.specs.declared.fault.OpenFault.TheVariants.{Unopened}
use Rattle.sm_opening.specs.Looked.{disks_of, seen_of, size_of, AllTold, OneMoves, IsLookedAt, Looks, IsDamageOf, AnswersDamage, IsFaultCounted, Fails, unopened}
use Rattle.sm_opening.specs.Finding.{FindsCatalog, IsCatalogFound, catalog_fault}
use Rattle.sm_opening.specs.OnDisk.{Damage, damage, record_start, IsCatalogOn, IsNoCatalogOn, IsCatalogDamage}
use Rattle.sm_opening.proofs.LookLemmas.{unmoved, one_looked, there_now}

abbrev pub answered : Result (FoundValue Catalog) register_fault.OpenFault → Result (FoundValue Catalog) OpenFault
answered (Ok f) = Ok f
answered (Err e) = Err (catalog_fault e)

module _ {D : Type 0} (state : D → DiskState) (olds : List D) where
  pub size_at : (n : ℕ) (x : D) → slice_get olds n ≡ Some x → slice_get (map (size_of state) olds) n ≡ Some (state x).size
  size_at n x is = slice_get-map (size_of state) olds n ∙ ap (option_map (size_of state)) is

  pub none_on : olds ≡ [] → (k : Catalog) → IsCatalogOn (disks_of state olds) k → ⊥
  none_on none k on = none-some on.size (sym (ap (λ (l : List D). slice_get (map (size_of state) l) 0) none) ∙ on.is_disk)

  pub short_on : (x : D) → slice_get olds 0 ≡ Some x → (state x).size < SLOTS_END → (k : Catalog) → IsCatalogOn (disks_of state olds) k → ⊥
  short_on x first less k on = let same = same_Some (state x).size on.size (sym (size_at 0 x first) ∙ on.is_disk) in let room = on.room in omega (arith, less, room, same)

  -- there is no disk
  pub no_disk : {A : Type 0} → olds ≡ [] → Looks {A = A} state (IsCatalogDamage (disks_of state olds)) olds olds (Err (Unopened (record { 0 = 0 }) NoDisk))
  no_disk none = record {
    moves = unmoved state olds;
    counted = λ e. absurd (cc);
    faults = λ told. inl (damage 0 0 NoDisk, inl (ap (λ (l : List D). slice_get (map (size_of state) l) 0) none, refl), refl);
    exact = λ told f d. elim d [
      | inl (gone, is) ↦ inl (ap unopened (sym is))
      | inr (size, is, more) ↦ absurd (none-some size (sym (ap (λ (l : List D). slice_get (map (size_of state) l) 0) none) ∙ is))
    ];
  }

  module _ (x : D) (first : slice_get olds 0 ≡ Some x) where
    is_size : (size : ℕ) → slice_get (map (size_of state) olds) 0 ≡ Some size → (state x).size ≡ size
    is_size size is = same_Some (state x).size size (sym (size_at 0 x first) ∙ is)

    pub short_disk : {A : Type 0} → (state x).size < SLOTS_END → Looks {A = A} state (IsCatalogDamage (disks_of state olds)) olds olds (Err (Unopened (record { 0 = 0 }) Short))
    short_disk less = record {
      moves = unmoved state olds;
      counted = λ e. absurd (cc);
      faults = λ told. inl (damage 0 (state x).size Short, inr ((state x).size, size_at 0 x first, inl (less, refl)), refl);
      exact = λ told f d. elim d [
        | inl (gone, is) ↦ absurd (none-some (state x).size (sym gone ∙ size_at 0 x first))
        | inr (size, is, inl (less, e)) ↦ inl (ap unopened (sym e))
        | inr (size, is, inr (room, from, none, e)) ↦ absurd (let same = is_size size is in omega (arith, less, room, same))
      ];
    }

  module _ (r : Result (FoundValue Catalog) register_fault.OpenFault) (news : List D) (m : OneMoves state 0 (λ s e. FindsCatalog s r e) olds news) where
    room : SLOTS_END ≤ (state m.old).size
    room = m.did.room

    abbrev here : Image
    here = (state m.old).seen

    image_is : (disks_of state olds).images 0 ≡ here
    image_is = ap (seen_of state) m.was

    looked : OneMoves state 0 IsLookedAt olds news
    looked = record { old = m.old; new = m.new; was = m.was; is = m.is; did = m.did.looked }

    counts : (r' : Result (FoundValue Catalog) register_fault.OpenFault) → r ≡ r' → (e : register_fault.OpenFault) → r' ≡ Err e → IsFaultCounted state olds news (catalog_fault e)
    counts r' same (BadRecord slot at) is = λ f. absurd (cc)
    counts r' same DiskFault is = λ f. (m.old, m.new, m.was, there_now state 0 (λ s e. FindsCatalog s r e) olds news m, m.did.counted (same ∙ is))
    counts r' same NoMemory is = tt

    -- a fault of the disk is one of the node's, and is answered
    names : (r' : Result (FoundValue Catalog) register_fault.OpenFault) → r ≡ r' → AllTold state olds → (e : register_fault.OpenFault) → r' ≡ Err e → IsDamageOf (IsCatalogDamage (disks_of state olds)) (catalog_fault e)
    names r' same told (BadRecord slot at) is =
        let bad = subst (λ (z : Result (FoundValue Catalog) register_fault.OpenFault). FindsCatalog (state m.old) z (state m.new)) (same ∙ is) m.did in
        let on = bad.faults (told 0 m.old m.was) in
        inl (damage 0 (record_start ((disks_of state olds).images 0) + at) Record, inr ((state m.old).size, size_at 0 m.old m.was, inr (room, at, subst (λ (c : Image). IsNoCatalogOn c at) (sym image_is) on.1, refl)), refl)
    names r' same told DiskFault is = inr refl
    names r' same told NoMemory is = inr tt

    answers : AllTold state olds → (f : Damage) → IsCatalogDamage (disks_of state olds) f → AnswersDamage f (answered r)
    answers told f (inl (gone, is)) = absurd (none-some (state m.old).size (sym gone ∙ size_at 0 m.old m.was))
    answers told f (inr (size, is, inl (less, e))) = absurd (let same = is_size m.old m.was size is in omega (arith, less, room, same))
    answers told f (inr (size, is, inr (large, from, none, e))) =
        go r ((m.did.exact (told 0 m.old m.was)).bad (slot_of here) from (refl, subst (λ (c : Image). IsNoCatalogOn c from) image_is none))
      where
        of_fault : (e' : register_fault.OpenFault) → register.IsOrFails (BadRecord (slot_of here) from) e' → AnswersDamage {A = FoundValue Catalog} f (Err (catalog_fault e'))
        of_fault e' (inl same) = inl (ap catalog_fault same ∙ ap unopened (sym e))
        of_fault e' (inr (inl same)) = inr (subst (λ (z : register_fault.OpenFault). Fails (catalog_fault z)) (sym same) refl)
        of_fault e' (inr (inr same)) = inr (subst (λ (z : register_fault.OpenFault). Fails (catalog_fault z)) (sym same) tt)

        go : (z : Result (FoundValue Catalog) register_fault.OpenFault) → register.Answers (BadRecord (slot_of here) from) (register.value_of z) → AnswersDamage f (answered z)
        go (Ok x) a = a
        go (Err e') a = of_fault e' a

    pub found_looks : (f : FoundValue Catalog) → r ≡ Ok f → Looks {A = FoundValue Catalog} state (IsCatalogDamage (disks_of state olds)) olds news (Ok f)
    found_looks f is = record {
      moves = one_looked state 0 olds news looked;
      counted = tt;
      faults = λ told. tt;
      exact = λ told d p. subst (λ (z : Result (FoundValue Catalog) register_fault.OpenFault). AnswersDamage d (answered z)) is (answers told d p);
    }

    pub fault_looks : (e : register_fault.OpenFault) → r ≡ Err e → Looks {A = FoundValue Catalog} state (IsCatalogDamage (disks_of state olds)) olds news (Err (catalog_fault e))
    fault_looks e is = record {
      moves = one_looked state 0 olds news looked;
      counted = counts (Err e) is e refl;
      faults = λ told. names (Err e) is told e refl;
      exact = λ told d p. subst (λ (z : Result (FoundValue Catalog) register_fault.OpenFault). AnswersDamage d (answered z)) is (answers told d p);
    }

    pub catalog_read : (f : FoundValue Catalog) → r ≡ Ok f → AllTold state olds → IsCatalogOn (disks_of state olds) f.value
    catalog_read f is told =
        let did = subst (λ (z : Result (FoundValue Catalog) register_fault.OpenFault). FindsCatalog (state m.old) z (state m.new)) is m.did in
        let tells = told 0 m.old m.was in
        let same : (state m.new).seen ≡ (state m.old).seen = did.looked.quiet.seen in
        let shown : ShowsCatalog f.value (stored (state m.old).seen) = subst (λ (c : Image). ShowsCatalog f.value (stored c)) same (did.found.shown (subst IsTrue (sym did.looked.goes.told) tells)) in
        record {
          size = (state m.old).size;
          is_disk = size_at 0 m.old m.was;
          room = room;
          shown = subst (λ (c : Image). ShowsCatalog f.value (stored c)) (sym image_is) shown;
          read = sym ((did.exact tells).good f.value shown);
        }

    pub catalog_found : (f : FoundValue Catalog) → r ≡ Ok f → IsCatalogFound state news f
    catalog_found f is =
        let did = subst (λ (z : Result (FoundValue Catalog) register_fault.OpenFault). FindsCatalog (state m.old) z (state m.new)) is m.did in
        (m.new, there_now state 0 (λ s e. FindsCatalog s r e) olds news m, did.found)

    -- a catalogue that is there is found
    pub whole_fails : (e : register_fault.OpenFault) → r ≡ Err e → AllTold state olds → (k : Catalog) → IsCatalogOn (disks_of state olds) k → Fails (catalog_fault e)
    whole_fails e is told k on = fails e (subst (λ (z : Result (FoundValue Catalog) register_fault.OpenFault). register.AnswersValue (again k) (register.value_of z)) is ((m.did.exact (told 0 m.old m.was)).good k (subst (λ (c : Image). ShowsCatalog k (stored c)) image_is on.shown)))
      where
        fails : (e' : register_fault.OpenFault) → register.Fails e' → Fails (catalog_fault e')
        fails e' (inl same) = subst (λ (z : register_fault.OpenFault). Fails (catalog_fault z)) (sym same) refl
        fails e' (inr same) = subst (λ (z : register_fault.OpenFault). Fails (catalog_fault z)) (sym same) tt
