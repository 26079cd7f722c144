-- What is answered of a volume's disk.
use Rattle.std.proofs.Common.{◌≡◌, ℕ, ◌+◌, ◌==◌, ◌<◌, ◌≤◌, List, length, Bool, true, false, true≢false, Some, None, Result, Ok, Err, slice_get, refl, sym, ap, subst, ◌∙◌, inl, inr, arith, IsTrue}
use Rattle.std.specs.Prelude.{◌&&◌, not, nat_lt, map}
use Rattle.std.specs.List.{list_any}
use Rattle.std.proofs.lemmas.Bool.{and_parts, cases_Bool, eqb-true, not-true, not-false}
use Rattle.std.proofs.lemmas.Bool.Decides.{nat_tests}
use Rattle.std.proofs.lemmas.Option.{same_Some, none-some, slice_get_past}
use Rattle.std.proofs.lemmas.List.{length-map}
use Rattle.sm_base.specs.declared.numbers.VolNo.{VolNo}
use Rattle.sm_defs.specs.Words.{Among}
use Rattle.sm_defs.proofs.Members.{any_among, among_any}
use Rattle.sm_disk.specs.Image.{Image}
use Rattle.sm_disk.specs.Disk.{DiskState}
use Rattle.sm_slots.specs.Stored.{slot_of}
use Rattle.sm_root.specs.declared.root.Root.{Root}
use Rattle.sm_catroot.specs.declared.placed.Placed.{Placed}
use Rattle.volume_store.specs.Held.{need}
use Rattle.volume_store.specs.Opened as store
use Rattle.volume_store.specs.Opened.{FoundMaps, IsRootOn, IsNoRootOn, least_need}
use Rattle.volume_store.specs.declared.faults.VolumeFault.{VolumeFault}
use Rattle.volume_store.specs.declared.faults.VolumeFault.TheVariants as faults
use Rattle.sm_model.specs.declared.world.OpenKind.TheVariants.{NoDisk, Short, Record, Number}
use Rattle.sm_opening.specs.declared.fault.OpenFault.{OpenFault}
use Rattle.sm_opening.specs.declared.fault.OpenFault.TheVariants.{Unopened}
use Rattle.sm_opening.specs.Looked.{disks_of, seen_of, size_of, AllTold, OneMoves, IsLookedAt, Looks, IsDamageOf, AnswersDamage, IsFaultCounted, Fails, unopened}
use Rattle.sm_opening.specs.Finding.{FindsVolume, IsVolumeFound, volume_fault, lies_apart}
use Rattle.sm_opening.specs.OnDisk.{Disks, Damage, damage, record_start, image_at, LiesOn, LiesNowhere, IsVolumeOn, IsVolumeDamage}
use Rattle.sm_opening.proofs.LookLemmas.{unmoved, one_looked, there_now}
use Rattle.sm_opening.proofs.CatalogLooks.{size_at}

none_there : {X : Type 0} (test : X → Bool) (xs : List X) → list_any test xs ≡ false → (x : X) → Among xs x → test x ≡ false
none_there test xs e x among = elim (cases_Bool (test x)) [ inl takes ↦ absurd (true≢false (sym (any_among test xs x among takes) ∙ e)) | inr passes ↦ passes ]

module _ {D : Type 0} (state : D → DiskState) (olds : List D) (before : List Placed) (number : VolNo) (p : Placed) where
  abbrev d : Disks
  d = disks_of state olds

  abbrev used : Placed → Bool
  used q = q.disk.0 == p.disk.0

  size_past : length olds ≤ p.disk.0 → slice_get (map (size_of state) olds) p.disk.0 ≡ None
  size_past past = slice_get_past (map (size_of state) olds) p.disk.0 (omega (arith, past, length-map olds (size_of state)))

  pub lies_there : lies_apart (length olds) before p ≡ true → (x : D) → slice_get olds p.disk.0 ≡ Some x → LiesOn d before p (state x).size
  lies_there e x is =
      let a = and_parts (not (p.disk.0 == 0)) (nat_lt p.disk.0 (length olds) && not (list_any used before)) e in
      let b = and_parts (nat_lt p.disk.0 (length olds)) (not (list_any used before)) a.1 in
      let free : list_any used before ≡ false = not-true (list_any used before) b.1 in
      record {
        behind = (let h = a.0 in grind (arith, nat_tests));
        is_disk = size_at state olds p.disk.0 x is;
        alone = λ q among same. absurd (let h : (q.disk.0 == p.disk.0) ≡ false = none_there used before free q among in grind (arith, nat_tests));
      }

  pub is_there : lies_apart (length olds) before p ≡ true → p.disk.0 < length olds
  is_there e =
      let a = and_parts (not (p.disk.0 == 0)) (nat_lt p.disk.0 (length olds) && not (list_any used before)) e in
      let b = and_parts (nat_lt p.disk.0 (length olds)) (not (list_any used before)) a.1 in
      let h = b.0 in grind (arith, nat_tests)

  lies_not : lies_apart (length olds) before p ≡ false → LiesNowhere d before p
  lies_not e = elim (cases_Bool (p.disk.0 == 0)) [
    | inl zero ↦ inl (eqb-true p.disk.0 0 zero)
    | inr some ↦ elim (cases_Bool (nat_lt p.disk.0 (length olds))) [
      | inr past ↦ inr (inl (size_past (grind (arith, nat_tests))))
      | inl within ↦
          let taken : list_any used before ≡ true = not-false (list_any used before) (rw (some, within) at e) in
          let t = among_any used before taken in
          inr (inr (t.0, t.1, eqb-true t.0.disk.0 p.disk.0 t.2))
    ]
  ]

  nowhere : (size : ℕ) → LiesOn d before p size → LiesNowhere d before p → ⊥
  nowhere size on (inl first) = on.behind first
  nowhere size on (inr (inl none)) = none-some size (sym none ∙ on.is_disk)
  nowhere size on (inr (inr (q, m, same))) = on.alone q m same

  -- it lies nowhere
  pub not_placed : {A : Type 0} → lies_apart (length olds) before p ≡ false → Looks {A = A} state (IsVolumeDamage d before number.0 p) olds olds (Err (Unopened p.disk NoDisk))
  not_placed e = record {
    moves = unmoved state olds;
    counted = λ f. absurd (cc);
    faults = λ told. inl (damage p.disk.0 0 NoDisk, inl (lies_not e, refl), refl);
    exact = λ told f at. elim at [
      | inl (none, is) ↦ inl (ap unopened (sym is))
      | inr (size, on, more) ↦ absurd (nowhere size on (lies_not e))
    ];
  }

  abbrev answered : Result FoundMaps VolumeFault → Result FoundMaps OpenFault
  answered (Ok f) = Ok f
  answered (Err e) = Err (volume_fault p.disk e)

  module _ (r : Result FoundMaps VolumeFault) (news : List D) (apart : lies_apart (length olds) before p ≡ true) (m : OneMoves state p.disk.0 (λ s e. FindsVolume number s r e) olds news) where
    abbrev here : Image
    here = (state m.old).seen

    image_is : d.images p.disk.0 ≡ here
    image_is = ap (seen_of state) m.was

    on : LiesOn d before p (state m.old).size
    on = lies_there apart m.old m.was

    is_size : (size : ℕ) → LiesOn d before p size → (state m.old).size ≡ size
    is_size size other = same_Some (state m.old).size size (sym on.is_disk ∙ other.is_disk)

    looked : OneMoves state p.disk.0 IsLookedAt olds news
    looked = record { old = m.old; new = m.new; was = m.was; is = m.is; did = m.did.looked }

    found_with : (r' : Result FoundMaps VolumeFault) → r ≡ r' → FindsVolume number (state m.old) r' (state m.new)
    found_with r' is = subst (λ (z : Result FoundMaps VolumeFault). FindsVolume number (state m.old) z (state m.new)) is m.did

    counts : (e : VolumeFault) → r ≡ Err e → IsFaultCounted state olds news (volume_fault p.disk e)
    counts faults.ReadOnly is = tt
    counts faults.BadBlock is = tt
    counts faults.NoSpace is = tt
    counts faults.NoSnapshot is = tt
    counts faults.NameTaken is = tt
    counts faults.SnapFull is = tt
    counts (faults.DiskSmall n len) is = λ f. absurd (cc)
    counts (faults.BadRoot slot at) is = λ f. absurd (cc)
    counts (faults.OtherNumber found) is = λ f. absurd (cc)
    counts faults.DiskFault is = λ f. (m.old, m.new, m.was, there_now state p.disk.0 (λ s e. FindsVolume number s r e) olds news m, m.did.counted is)
    counts faults.NoMemory is = tt

    root_here : (x : Root) → IsRootOn here x → IsRootOn (image_at d p) x
    root_here x is = subst (λ (c : Image). IsRootOn c x) (sym image_is) is

    names : AllTold state olds → (e : VolumeFault) → r ≡ Err e → IsDamageOf (IsVolumeDamage d before number.0 p) (volume_fault p.disk e)
    names told faults.ReadOnly is = inr tt
    names told faults.BadBlock is = inr tt
    names told faults.NoSpace is = inr tt
    names told faults.NoSnapshot is = inr tt
    names told faults.NameTaken is = inr tt
    names told faults.SnapFull is = inr tt
    names told (faults.DiskSmall n len) is = elim ((found_with (Err (faults.DiskSmall n len)) is).faults.1) [
      | inl less ↦ inl (damage p.disk.0 (state m.old).size Short, inr ((state m.old).size, on, inl (less.0, refl)), refl)
      | inr (long, less, more) ↦
          let x = more (told p.disk.0 m.old m.was) in
          inl (damage p.disk.0 (state m.old).size Short, inr ((state m.old).size, on, inr (long, inr (x.0, root_here x.0 x.1, inl (subst (λ (k : ℕ). (state m.old).size < k) x.2 less, refl)))), refl)
    ]
    names told (faults.BadRoot slot at) is =
        let f = (found_with (Err (faults.BadRoot slot at)) is).faults in
        let none : IsNoRootOn here at = (f.1 (told p.disk.0 m.old m.was)).1 in
        inl (damage p.disk.0 (record_start (image_at d p) + at) Record, inr ((state m.old).size, on, inr (f.0, inl (at, subst (λ (c : Image). IsNoRootOn c at) (sym image_is) none, refl))), refl)
    names told (faults.OtherNumber found) is =
        let f = (found_with (Err (faults.OtherNumber found)) is).faults in
        let x = f.2 (told p.disk.0 m.old m.was) in
        inl (damage p.disk.0 (record_start (image_at d p) + 12) Number, inr ((state m.old).size, on, inr (f.0, inr (x.0, root_here x.0 x.1, inr (x.2, (λ same. f.1 (x.3 ∙ same)), refl)))), refl)
    names told faults.DiskFault is = inr refl
    names told faults.NoMemory is = inr tt

    answers_fault : (f : Damage) (fault : VolumeFault) → volume_fault p.disk fault ≡ unopened f → (z : Result FoundMaps VolumeFault) → store.Answers fault z → AnswersDamage f (answered z)
    answers_fault f fault same (Ok x) a = a
    answers_fault f fault same (Err e) (inl is) = inl (ap (volume_fault p.disk) is ∙ same)
    answers_fault f fault same (Err e) (inr (inl is)) = inr (subst (λ (z : VolumeFault). Fails (volume_fault p.disk z)) (sym is) refl)
    answers_fault f fault same (Err e) (inr (inr is)) = inr (subst (λ (z : VolumeFault). Fails (volume_fault p.disk z)) (sym is) tt)

    answers : AllTold state olds → (f : Damage) → IsVolumeDamage d before number.0 p f → AnswersDamage f (answered r)
    answers told f (inl (none, is)) = absurd (nowhere (state m.old).size on none)
    answers told f (inr (size, lies, inl (less, is))) =
        answers_fault f (faults.DiskSmall least_need (state m.old).size) (ap unopened (sym is)) r
        (m.did.exact (told p.disk.0 m.old m.was) (faults.DiskSmall least_need (state m.old).size) (refl, inl (subst (λ (k : ℕ). k < least_need) (sym (is_size size lies)) less, refl)) (λ e. absurd (cc)) (λ e. absurd (cc)))
    answers told f (inr (size, lies, inr (long, inl (from, none, is)))) =
        answers_fault f (faults.BadRoot (slot_of here) from) (ap unopened (sym is)) r
        (m.did.exact (told p.disk.0 m.old m.was) (faults.BadRoot (slot_of here) from) (subst (λ (k : ℕ). least_need ≤ k) (sym (is_size size lies)) long, λ tells. (refl, subst (λ (c : Image). IsNoRootOn c from) image_is none)) (λ e. absurd (cc)) (λ e. absurd (cc)))
    answers told f (inr (size, lies, inr (long, inr (x, is_root, inl (less, is))))) =
        answers_fault f (faults.DiskSmall (need x.physical) (state m.old).size) (ap unopened (sym is)) r
        (m.did.exact (told p.disk.0 m.old m.was) (faults.DiskSmall (need x.physical) (state m.old).size) (refl, inr (subst (λ (k : ℕ). least_need ≤ k) (sym (is_size size lies)) long, subst (λ (k : ℕ). k < need x.physical) (sym (is_size size lies)) less, λ tells. (x, subst (λ (c : Image). IsRootOn c x) image_is is_root, refl))) (λ e. absurd (cc)) (λ e. absurd (cc)))
    answers told f (inr (size, lies, inr (long, inr (x, is_root, inr (room, other, is))))) =
        answers_fault f (faults.OtherNumber x.number.0) (ap unopened (sym is)) r
        (m.did.exact (told p.disk.0 m.old m.was) (faults.OtherNumber x.number.0) (subst (λ (k : ℕ). least_need ≤ k) (sym (is_size size lies)) long, other, λ tells. (x, subst (λ (c : Image). IsRootOn c x) image_is is_root, subst (λ (k : ℕ). need x.physical ≤ k) (sym (is_size size lies)) room, refl)) (λ e. absurd (cc)) (λ e. absurd (cc)))

    pub found_looks : (f : FoundMaps) → r ≡ Ok f → Looks {A = FoundMaps} state (IsVolumeDamage d before number.0 p) olds news (Ok f)
    found_looks f is = record {
      moves = one_looked state p.disk.0 olds news looked;
      counted = tt;
      faults = λ told. tt;
      exact = λ told x at. subst (λ (z : Result FoundMaps VolumeFault). AnswersDamage x (answered z)) is (answers told x at);
    }

    pub fault_looks : (e : VolumeFault) → r ≡ Err e → Looks {A = FoundMaps} state (IsVolumeDamage d before number.0 p) olds news (Err (volume_fault p.disk e))
    fault_looks e is = record {
      moves = one_looked state p.disk.0 olds news looked;
      counted = counts e is;
      faults = λ told. names told e is;
      exact = λ told x at. subst (λ (z : Result FoundMaps VolumeFault). AnswersDamage x (answered z)) is (answers told x at);
    }

    pub volume_found : (f : FoundMaps) → r ≡ Ok f → IsVolumeFound state number p news f
    volume_found f is = (m.new, there_now state p.disk.0 (λ s e. FindsVolume number s r e) olds news m, (found_with (Ok f) is).found)

    pub volume_read : (f : FoundMaps) → r ≡ Ok f → AllTold state olds → IsVolumeOn d before number.0 p f.maps.root
    volume_read f is told =
        let did = found_with (Ok f) is in
        let on_new : IsRootOn (state m.new).seen f.maps.root = did.found.0.root (subst IsTrue (sym did.looked.goes.told) (told p.disk.0 m.old m.was)) in
        let on_old : IsRootOn here f.maps.root = subst (λ (c : Image). IsRootOn c f.maps.root) did.looked.quiet.seen on_new in
        let room : need f.maps.root.physical ≤ (state m.old).size = subst (λ (k : ℕ). need f.maps.root.physical ≤ k) did.looked.goes.size did.found.0.room in
        record {
          size = (state m.old).size;
          lies = on;
          long = (let a = on_old.good.some_blocks in let b = on_old.good.room in omega (arith, a, b, room));
          root = root_here f.maps.root on_old;
          room = room;
          numbered = ap (λ (n : VolNo). n.0) did.found.1;
        }
