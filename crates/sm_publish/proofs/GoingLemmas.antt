-- Snapshots that go, by their identities.
use Rattle.std.proofs.Common.{◌≡◌, ◌≢◌, ◌==◌, ◌||◌, ◌&&◌, ◌≤◌, ◌<◌, ◌+◌, ℕ, suc, not, cond, Bool, true, false, List, [], ◌∷◌, ◌++◌, map, length, take, get_or, drop, option_map, Option, Some, None, Result, Ok, inl, inr, refl, sym, ◌∙◌, ap, ap₂, subst, arith}
use Rattle.std.specs.Prelude.{if◌then◌else◌, is_some}
use Rattle.std.specs.List.{filter, list_any, list_all, AllByRecursion}
use Rattle.std.proofs.lemmas.Bool.{true≢false, and_from}
use Rattle.std.proofs.lemmas.Bool.Decides.{nat_tests}
use Rattle.std.proofs.lemmas.List.{length-map, map-append, take_all, take_more, take-append-drop, get_or-map}
use Rattle.std.proofs.lemmas.List.Elements.{filter_more, filter-append}
use Rattle.std.proofs.lemmas.List.Filters.{length-filter_both}
use Rattle.sm_base.specs.declared.numbers.Ident.{Ident}
use Rattle.sm_base.specs.declared.numbers.RelNo.{RelNo}
use Rattle.sm_base.specs.declared.numbers.VolNo.{VolNo}
use Rattle.sm_base.specs.declared.refusal.Reason.{Reason}
use Rattle.sm_base.specs.declared.refusal.Reason.TheVariants as reasons
use Rattle.sm_defs.specs.Words.{Among, KeysDiffer, same_ident, has_ident, or_else}
use Rattle.sm_defs.specs.Volume.{Volume, Snapshot, has, ident_of, idents, without}
use Rattle.sm_defs.specs.Operations.{has_each, removed}
use Rattle.sm_defs.specs.Edges.{is_empty}
use Rattle.sm_defs.specs.Needed.{needed, needed_for, holder}
use Rattle.sm_defs.specs.Pruning.{is_pruned}
use Rattle.sm_defs.specs.Relationship.{Policy, Relationship, sends_all}
use Rattle.sm_defs.specs.World.{Up}
use Rattle.sm_defs.proofs.Searches.{any_found}
use Rattle.sm_defs.proofs.Idents.{same_is, is_same, same_self}
use Rattle.sm_defs.proofs.Members.{any_among, among_any, among_map, from_map, filter_among, among_filter, among_each}
use Rattle.sm_defs.proofs.Thinned.{filter_thins, thinned_shorter}
use Rattle.sm_disk.specs.Disk.{DiskState}
use Rattle.sm_root.specs.declared.root.Root.{Root}
use Rattle.sm_root.specs.declared.root.RootSnapshot.{RootSnapshot}
use Rattle.sm_relation.specs.Shown.{IsRootOf}
use Rattle.sm_root.specs.Condition as root
use Rattle.volume_store.specs.declared.faults.VolumeFault.{VolumeFault}
use Rattle.volume_store.specs.declared.faults.VolumeFault.TheVariants.{NoSnapshot}
use Rattle.volume_store.specs.Refusals.{Refuses}
use Rattle.sm_volume.specs.Commits.{Commits}
use Rattle.sm_volume.specs.Mounted.{Mounted}
use Rattle.sm_volume.specs.Refusals.{remove_refusal}
use Rattle.sm_volume.specs.Seen.{kept_snapshot, root_of}
use Rattle.sm_policy.specs.Marks.{needed_marks}
use Rattle.sm_model.specs.Answers.{relno}
use Rattle.sm_model.specs.Due.{dropped, held_reason, reason_if}
use Rattle.sm_model.specs.OfTransfers.{Holding, holding, first_held}
use Rattle.sm_publish.specs.Committing.{answered}
use Rattle.sm_publish.specs.Dropping.{Drops, tidied_by, holder_number, holders_of, lost_from, lost_reason}
use Rattle.sm_publish.proofs.CommitLemmas.{by_commit, nothing_due}

-- ---- one snapshot of an identity

each_kept : (i : Ident) (ss : List Snapshot) → AllByRecursion (λ (y : RootSnapshot). ¬ (y.ident ≡ i)) (map kept_snapshot ss) → AllByRecursion (λ (y : Snapshot). ¬ (y.ident ≡ i)) ss
each_kept i [] h = tt
each_kept i (s ∷ ss) h = (h.0, each_kept i ss h.1)

pub differ_kept : (ss : List Snapshot) → KeysDiffer root.ident_of (map kept_snapshot ss) → KeysDiffer ident_of ss
differ_kept [] d = tt
differ_kept (s ∷ ss) d = (each_kept s.ident ss d.0, differ_kept ss d.1)

one_copy : (ss : List Snapshot) (s t : Snapshot) → KeysDiffer ident_of ss → Among ss s → Among ss t → s.ident ≡ t.ident → s ≡ t
one_copy [] s t d m n e = absurd m
one_copy (u ∷ us) s t d (inl a) (inl b) e = a ∙ sym b
one_copy (u ∷ us) s t d (inl a) (inr n) e = absurd (among_each (λ (y : Snapshot). ¬ (y.ident ≡ u.ident)) us t d.0 n (sym e ∙ ap ident_of a))
one_copy (u ∷ us) s t d (inr m) (inl b) e = absurd (among_each (λ (y : Snapshot). ¬ (y.ident ≡ u.ident)) us s d.0 m (e ∙ ap ident_of b))
one_copy (u ∷ us) s t d (inr m) (inr n) e = one_copy us s t d.1 m n e

pub filter_on : {X : Type 0} (p q : X → Bool) (xs : List X) → ((x : X) → Among xs x → p x ≡ q x) → filter p xs ≡ filter q xs
filter_on p q [] h = refl
filter_on p q (x ∷ xs) h = ap₂ (λ b ys. cond b (x ∷ ys) ys) (h x (inl refl)) (filter_on p q xs (λ y m. h y (inr m)))

-- among the identities of those that go are those of no others
pub gone_is : (test : Snapshot → Bool) (ss : List Snapshot) (s : Snapshot) → KeysDiffer ident_of ss → Among ss s → has_ident (idents (filter test ss)) s.ident ≡ test s
gone_is test ss s d m = go (test s) refl ∙ refl
  where
    none : (c : Bool) → has_ident (idents (filter test ss)) s.ident ≡ c → test s ≡ false → has_ident (idents (filter test ss)) s.ident ≡ false
    none false h e = h
    none true h e =
        let (i, a, q) = among_any (λ j. same_ident j s.ident) (idents (filter test ss)) h in
        let (t, b, f) = from_map ident_of (filter test ss) i a in
        let (k, g) = among_filter test ss t b in
        let same : t ≡ s = one_copy ss t s d k m (sym f ∙ same_is i s.ident q) in
        absurd (true≢false (sym g ∙ (ap test same ∙ e)))

    go : (b : Bool) → test s ≡ b → has_ident (idents (filter test ss)) s.ident ≡ test s
    go true e = any_among (λ j. same_ident j s.ident) (idents (filter test ss)) s.ident (among_map ident_of (filter test ss) s (filter_among test ss s m e)) (same_self s.ident) ∙ sym e
    go false e = none (has_ident (idents (filter test ss)) s.ident) refl e ∙ sym e

pub removed_is : (test : Snapshot → Bool) (v : Volume) → KeysDiffer ident_of v.snapshots → removed v (idents (filter test v.snapshots)) ≡ without test v
removed_is test v d =
    ap (λ (ss : List Snapshot). let w : Volume = record v { snapshots = ss } in w)
    (filter_on (λ s. not (has_ident (idents (filter test v.snapshots)) s.ident)) (λ s. not (test s)) v.snapshots (λ s m. ap not (gone_is test v.snapshots s d m)))

-- ---- they are there, and are counted

all_pass : {X : Type 0} (p : X → Bool) (xs : List X) → ((x : X) → Among xs x → p x ≡ true) → list_all p xs ≡ true
all_pass p [] h = refl
all_pass p (x ∷ xs) h = and_from (p x) (list_all p xs) (h x (inl refl)) (all_pass p xs (λ y m. h y (inr m)))

all_there : (test : Snapshot → Bool) (ss : List Snapshot) → has_each ss (idents (filter test ss)) ≡ true
all_there test ss = all_pass (has ss) (idents (filter test ss)) (λ i m.
    let (t, b, f) = from_map ident_of (filter test ss) i m in
    any_among (λ s. same_ident s.ident i) ss t (among_filter test ss t b).0 (is_same t.ident i (sym f)))

pub not_refused : (test : Snapshot → Bool) (v : Volume) (drops : List Ident) → drops ≡ idents (filter test v.snapshots) → remove_refusal v drops ≡ None
not_refused test v drops is = ap (λ (b : Bool). if b then None else Some NoSnapshot) (ap (has_each v.snapshots) is ∙ all_there test v.snapshots)

any_gone : (test : Snapshot → Bool) (ss : List Snapshot) → list_any test ss ≡ not (length (idents (filter test ss)) == 0)
any_gone test [] = refl
any_gone test (s ∷ ss) = go (test s) (any_gone test ss)
  where
    one_more : (n : ℕ) → (suc n == 0) ≡ false
    one_more n = grind (arith, nat_tests)

    go : (b : Bool) → list_any test ss ≡ not (length (idents (filter test ss)) == 0) → (b || list_any test ss) ≡ not (length (idents (cond b (s ∷ filter test ss) (filter test ss))) == 0)
    go true h = sym (ap not (one_more (length (idents (filter test ss)))))
    go false h = h

count_gone : (test : Snapshot → Bool) (ss : List Snapshot) → length (idents (filter test ss)) ≡ dropped ss (filter (λ s. not (test s)) ss)
count_gone test ss =
    let all = length-filter_both test (λ s. not (test s)) (λ s. refl) ss in
    let same = length-map (filter test ss) ident_of in
    omega (arith, all, same)

pub few_gone : (test : Snapshot → Bool) (ss : List Snapshot) (drops : List Ident) → drops ≡ idents (filter test ss) → length drops ≤ length (map kept_snapshot ss)
few_gone test ss drops is =
    let fewer = thinned_shorter (filter_thins test ss) in
    let same = length-map (filter test ss) ident_of in
    let kept = length-map ss kept_snapshot in
    let long = ap length is in
    omega (arith, fewer, same, kept, long)

-- ---- a step that lets them go

module _ {D : Type 0} (state : D → DiskState) (test : Snapshot → Bool) (old : Mounted D) (drops : List Ident) (differ : KeysDiffer ident_of old.volume.snapshots) (is : drops ≡ idents (filter test old.volume.snapshots)) where
  counted : length drops ≡ dropped old.volume.snapshots (without test old.volume).snapshots
  counted = ap length is ∙ count_gone test old.volume.snapshots

  pub none_go : length drops ≡ 0 → Drops state test None (Ok 0) old old
  none_go empty =
      let none : list_any test old.volume.snapshots ≡ false = any_gone test old.volume.snapshots ∙ ap (λ (n : ℕ). not (n == 0)) (sym (ap length is) ∙ empty) in
      subst (λ (n : ℕ). Drops state test None (Ok n) old old) (sym counted ∙ empty)
      (nothing_due state (list_any test old.volume.snapshots) None (dropped old.volume.snapshots (without test old.volume).snapshots) (without test old.volume) old refl none)

  pub some_go : (new : Mounted D) (r : Result (Unit {0}) VolumeFault) → length drops ≢ 0 → Refuses (remove_refusal old.volume drops) r → Commits state old (removed old.volume drops) r new →
      Drops state test None (answered old.number (length drops) r) old new
  some_go new r more allows made =
      let some : (length drops == 0) ≡ false = grind (arith, nat_tests, more) in
      let any : list_any test old.volume.snapshots ≡ true = any_gone test old.volume.snapshots ∙ (ap (λ (n : ℕ). not (n == 0)) (sym (ap length is)) ∙ ap not some) in
      let next : removed old.volume drops ≡ without test old.volume = ap (removed old.volume) is ∙ removed_is test old.volume differ in
      subst (λ (n : ℕ). Drops state test None (answered old.number n r) old new) (sym counted)
      (by_commit state (list_any test old.volume.snapshots) None (dropped old.volume.snapshots (without test old.volume).snapshots) (without test old.volume) old new refl any r
      (subst (λ (o : Option VolumeFault). Refuses o r) (not_refused test old.volume drops is) allows)
      (subst (λ (v : Volume). Commits state old v r new) next made))

-- ---- marks tell what is needed

needs_of : List Bool → List Snapshot → Ident → Bool
needs_of [] ss i = false
needs_of (m ∷ ms) [] i = false
needs_of (m ∷ ms) (s ∷ ss) i = cond (same_ident s.ident i) m (needs_of ms ss i)

map_on : {X Y : Type 0} (f g : X → Y) (xs : List X) → ((x : X) → Among xs x → f x ≡ g x) → map f xs ≡ map g xs
map_on f g [] h = refl
map_on f g (x ∷ xs) h = ap₂ (λ y ys. y ∷ ys) (h x (inl refl)) (map_on f g xs (λ y m. h y (inr m)))

other : (s t : Ident) → ¬ (t ≡ s) → same_ident s t ≡ false
other s t differ = go (same_ident s t) refl
  where
    go : (b : Bool) → same_ident s t ≡ b → same_ident s t ≡ false
    go false e = e
    go true e = absurd (differ (sym (same_is s t e)))

told : (ms : List Bool) (ss : List Snapshot) → length ms ≡ length ss → KeysDiffer ident_of ss → ms ≡ needed_marks (needs_of ms ss) ss
unfolding needs_of
told [] [] long d = refl
told [] (s ∷ ss) long d = absurd (omega (arith, long))
told (m ∷ ms) [] long d = absurd (omega (arith, long))
told (m ∷ ms) (s ∷ ss) long d = ap₂ (λ y ys. y ∷ ys) (sym (ap (λ (b : Bool). cond b m (needs_of ms ss s.ident)) (same_self s.ident)))
    (told ms ss (omega (arith, long)) d.1 ∙ map_on (λ t. needs_of ms ss t.ident) (λ t. needs_of (m ∷ ms) (s ∷ ss) t.ident) ss (λ t n.
    sym (ap (λ (b : Bool). cond b m (needs_of ms ss t.ident)) (other s.ident t.ident (among_each (λ (y : Snapshot). ¬ (y.ident ≡ s.ident)) ss t d.0 n)))))

-- marks of a list whose identities differ tell which identities are needed
pub marks_tell : (ms : List Bool) (ss : List Snapshot) → length ms ≡ length ss → KeysDiffer ident_of ss → (needs : Ident → Bool) × (ms ≡ needed_marks needs ss)
marks_tell ms ss long d = (needs_of ms ss, told ms ss long d)

-- ---- one place more

-- a root's snapshot with an image of no block
pub unseen : RootSnapshot → Snapshot
unseen s = record { ident = s.ident; name = s.name; label = s.label; time = s.time; maker = s.made; image = [] }

pub at_kept : (ss : List Snapshot) (kept : List RootSnapshot) (at : ℕ) (s : RootSnapshot) → at < length kept → s ≡ get_or kept at s → kept ≡ map kept_snapshot ss → (at < length ss) × (s ≡ kept_snapshot (get_or ss at (unseen s)))
at_kept ss kept at s less is e =
    let long : length kept ≡ length ss = ap length e ∙ length-map ss kept_snapshot in
    let within : at < length ss = omega (arith, less, long) in
    (within, is ∙ (ap (λ (xs : List RootSnapshot). get_or xs at s) e ∙ get_or-map kept_snapshot ss at (unseen s) s within))

-- the drops go on by the snapshot at a place where it goes
pub going_on : (test : Snapshot → Bool) (ss : List Snapshot) (at : ℕ) (d : Snapshot) (s : RootSnapshot) (goes : Bool) (drops later : List Ident) → at < length ss → s ≡ kept_snapshot (get_or ss at d) →
    goes ≡ test (get_or ss at d) → later ≡ drops ++ cond goes (s.ident ∷ []) [] → drops ≡ idents (filter test (take at ss)) → later ≡ idents (filter test (take (at + 1) ss))
going_on test ss at d s goes drops later less kept is grown so_far =
    let t = get_or ss at d in
    grown ∙ (ap₂ (λ (b : Bool) (i : Ident). drops ++ cond b (i ∷ []) []) is (ap (λ (r : RootSnapshot). r.ident) kept) ∙ (ap (λ (is : List Ident). is ++ cond (test t) (t.ident ∷ []) []) so_far ∙ sym (one_more test ss at d less)))
  where
    one_more : (test : Snapshot → Bool) (ss : List Snapshot) (at : ℕ) (d : Snapshot) → at < length ss →
        idents (filter test (take (at + 1) ss)) ≡ idents (filter test (take at ss)) ++ cond (test (get_or ss at d)) ((get_or ss at d).ident ∷ []) []
    one_more test ss at d less = ap idents (filter_more test ss at d less) ∙ (map-append ident_of (filter test (take at ss)) (cond (test (get_or ss at d)) (get_or ss at d ∷ []) []) ∙ ap (λ is. idents (filter test (take at ss)) ++ is) (by (test (get_or ss at d)) (get_or ss at d)))
      where
        by : (b : Bool) (s : Snapshot) → idents (cond b (s ∷ []) []) ≡ cond b (s.ident ∷ []) []
        by true s = refl
        by false s = refl

pub went_through : (test : Snapshot → Bool) (ss : List Snapshot) (kept : List RootSnapshot) (at : ℕ) (drops : List Ident) → kept ≡ map kept_snapshot ss → length kept ≤ at → drops ≡ idents (filter test (take at ss)) → drops ≡ idents (filter test ss)
went_through test ss kept at drops e end so_far =
    let long : length kept ≡ length ss = ap length e ∙ length-map ss kept_snapshot in
    so_far ∙ ap (λ (xs : List Snapshot). idents (filter test xs)) (take_all at ss (omega (arith, end, long)))

-- what stands at a place of the marks is told of the snapshot there
pub at_needed : (needs : Ident → Bool) (ss : List Snapshot) (marks : List Bool) (at : ℕ) (d : Snapshot) (e n : Bool) → at < length ss → n ≡ get_or marks at e → marks ≡ needed_marks needs ss → n ≡ needs (get_or ss at d).ident
at_needed needs ss marks at d e n less is all = is ∙ (ap (λ (ns : List Bool). get_or ns at e) all ∙ get_or-map (λ s. needs s.ident) ss at d e less)

-- ---- Tidy

pub tidied_on : (number : ℕ) (needs : Ident → Bool) (ss : List Snapshot) (kept : List RootSnapshot) (marks : List Bool) (at : ℕ) (s : RootSnapshot) (n goes : Bool) (drops later : List Ident) → at < length kept → s ≡ get_or kept at s → n ≡ get_or marks at false →
    goes ≡ (not (s.made == 0) && (s.ident.origin == number) && not n) → later ≡ drops ++ cond goes (s.ident ∷ []) [] →
    kept ≡ map kept_snapshot ss → marks ≡ needed_marks needs ss → drops ≡ idents (filter (tidied_by number needs) (take at ss)) → later ≡ idents (filter (tidied_by number needs) (take (at + 1) ss))
tidied_on number needs ss kept marks at s n goes drops later less is_s is_n is grown e f so_far =
    let (within, same) = at_kept ss kept at s less is_s e in
    let t = get_or ss at (unseen s) in
    let told = at_needed needs ss marks at (unseen s) false n within is_n f in
    going_on (tidied_by number needs) ss at (unseen s) s goes drops later within same
    (is ∙ ap₂ (λ (r : RootSnapshot) (m : Bool). not (r.made == 0) && (r.ident.origin == number) && not m) same told) grown so_far

-- ---- Prune

any_map : {X Y : Type 0} (p : Y → Bool) (f : X → Y) (xs : List X) → list_any p (map f xs) ≡ list_any (λ x. p (f x)) xs
any_map p f [] = refl
any_map p f (x ∷ xs) = ap (λ b. p (f x) || b) (any_map p f xs)

pub has_there : (source : List RootSnapshot) (there : List Snapshot) (i : Ident) → map root.ident_of source ≡ idents there → list_any (λ (s : RootSnapshot). same_ident s.ident i) source ≡ has there i
has_there source there i e = sym (any_map (λ j. same_ident j i) root.ident_of source) ∙ (ap (list_any (λ j. same_ident j i)) e ∙ any_map (λ j. same_ident j i) ident_of there)

pub pruned_on : (p : Policy) (needs : Ident → Bool) (source : List RootSnapshot) (there ss : List Snapshot) (kept : List RootSnapshot) (holders : List (Option RelNo)) (at : ℕ) (s : RootSnapshot) (d h : Option RelNo) (all goes : Bool) (drops later : List Ident) → length holders ≡ length kept → at < length kept → s ≡ get_or kept at s → h ≡ get_or holders at d →
    all ≡ sends_all p → goes ≡ (not (is_some h) && (not (list_any (λ (r : RootSnapshot). same_ident r.ident s.ident) source) || not (all || not (s.made == 0)))) → later ≡ drops ++ cond goes (s.ident ∷ []) [] →
    map root.ident_of source ≡ idents there → kept ≡ map kept_snapshot ss → map is_some holders ≡ needed_marks needs ss → drops ≡ idents (filter (is_pruned p needs there) (take at ss)) → later ≡ idents (filter (is_pruned p needs there) (take (at + 1) ss))
pruned_on p needs source there ss kept holders at s d h all goes drops later long less is_s is_h is_all is grown c e f so_far =
    let (within, same) = at_kept ss kept at s less is_s e in
    let t = get_or ss at (unseen s) in
    let held : is_some h ≡ needs t.ident = ap is_some is_h ∙ (sym (get_or-map is_some holders at d (is_some d) (omega (arith, less, long))) ∙ at_needed needs ss (map is_some holders) at (unseen s) (is_some d) (get_or (map is_some holders) at (is_some d)) within refl f) in
    going_on (is_pruned p needs there) ss at (unseen s) s goes drops later within same
    (is ∙ (ap₂ (λ (m a : Bool). not m && (not (list_any (λ (r : RootSnapshot). same_ident r.ident s.ident) source) || not (a || not (s.made == 0)))) held is_all
    ∙ (ap (λ (b : Bool). not (needs t.ident) && (not b || not (sends_all p || not (s.made == 0)))) (has_there source there s.ident c)
    ∙ ap (λ (r : RootSnapshot). not (needs t.ident) && (not (has there r.ident) || not (sends_all p || not (r.made == 0)))) same))) grown so_far

-- ---- what stops a Prune

pub lost_one : (who : Ident → Option Relationship) (there : List Snapshot) (s : Snapshot) (b : Bool) → has there s.ident ≡ b → lost_reason who there (s ∷ []) ≡ cond b None (held_reason (or_else (holding s.ident (who s.ident)) None) None)
lost_one who there s b e = ap (λ (c : Bool). held_reason (first_held who (cond (not c) (s ∷ []) [])) None) e ∙ by b
  where
    by : (b : Bool) → held_reason (first_held who (cond (not b) (s ∷ []) [])) None ≡ cond b None (held_reason (or_else (holding s.ident (who s.ident)) None) None)
    by true = refl
    by false = refl

pub lost_who : (who : Ident → Option Relationship) (there : List Snapshot) (s : Snapshot) (n : RelNo) → Some n ≡ holder_number who s → has there s.ident ≡ false → Some (reasons.HeldDownstream s.ident n) ≡ lost_reason who there (s ∷ [])
lost_who who there s n is missing = go (who s.ident) is ∙ sym (lost_one who there s false missing)
  where
    go : (o : Option Relationship) → Some n ≡ option_map (λ r. relno r.number) o → Some (reasons.HeldDownstream s.ident n) ≡ held_reason (or_else (holding s.ident o) None) None
    go None e = absurd (cc)
    go (Some r) e = ap (λ (m : RelNo). Some (reasons.HeldDownstream s.ident m)) (cc)

or_assoc : {X : Type 0} (a b c : Option X) → or_else (or_else a b) c ≡ or_else a (or_else b c)
or_assoc None b c = refl
or_assoc (Some x) b c = refl

first_append : (who : Ident → Option Relationship) (xs ys : List Snapshot) → first_held who (xs ++ ys) ≡ or_else (first_held who xs) (first_held who ys)
first_append who [] ys = refl
first_append who (x ∷ xs) ys = ap (or_else (holding x.ident (who x.ident))) (first_append who xs ys) ∙ sym (or_assoc (holding x.ident (who x.ident)) (first_held who xs) (first_held who ys))

held_or : (h k : Option Holding) → held_reason (or_else h k) None ≡ or_else (held_reason h None) (held_reason k None)
held_or None k = refl
held_or (Some h) k = refl

lost_append : (who : Ident → Option Relationship) (there xs ys : List Snapshot) → lost_reason who there (xs ++ ys) ≡ or_else (lost_reason who there xs) (lost_reason who there ys)
lost_append who there xs ys =
    ap (λ (ss : List Snapshot). held_reason (first_held who ss) None) (filter-append (λ s. not (has there s.ident)) xs ys)
    ∙ (ap (λ (h : Option Holding). held_reason h None) (first_append who (lost_from there xs) (lost_from there ys)) ∙ held_or (first_held who (lost_from there xs)) (first_held who (lost_from there ys)))

module _ (who : Ident → Option Relationship) (there ss : List Snapshot) (at : ℕ) (d : Snapshot) (less : at < length ss) (none : lost_reason who there (take at ss) ≡ None) where
  pub lost_more : lost_reason who there (take (at + 1) ss) ≡ lost_reason who there (get_or ss at d ∷ [])
  lost_more = ap (lost_reason who there) (take_more ss at d less)
      ∙ (lost_append who there (take at ss) (get_or ss at d ∷ []) ∙ ap (λ (o : Option Reason). or_else o (lost_reason who there (get_or ss at d ∷ []))) none)

  pub lost_whole : (reason : Option Reason) → is_some reason ≡ true → reason ≡ lost_reason who there (get_or ss at d ∷ []) → reason ≡ lost_reason who there ss
  lost_whole None some is = absurd (cc)
  lost_whole (Some r) some is =
      ap (λ (o : Option Reason). or_else o (lost_reason who there (drop (at + 1) ss))) (is ∙ sym lost_more)
      ∙ (sym (lost_append who there (take (at + 1) ss) (drop (at + 1) ss)) ∙ ap (lost_reason who there) (take-append-drop (at + 1) ss))

pub at_holder : (who : Ident → Option Relationship) (ss : List Snapshot) (holders : List (Option RelNo)) (at : ℕ) (d : Snapshot) (e : Option RelNo) → at < length ss → holders ≡ holders_of who ss → get_or holders at e ≡ holder_number who (get_or ss at d)
at_holder who ss holders at d e less all = ap (λ (hs : List (Option RelNo)). get_or hs at e) all ∙ get_or-map (holder_number who) ss at d e less

pub held_some : (h : Option Holding) (o : Option Reason) (r : Reason) → Some r ≡ held_reason h None → Some r ≡ held_reason h o
held_some None o r e = absurd (cc)
held_some (Some h) o r e = e

pub held_none : (h : Option Holding) (o : Option Reason) → None ≡ held_reason h None → o ≡ held_reason h o
held_none None o e = refl
held_none (Some h) o e = absurd (cc)

is_empty_kept : (ss : List Snapshot) → is_empty (map kept_snapshot ss) ≡ is_empty ss
is_empty_kept [] = refl
is_empty_kept (s ∷ ss) = refl

-- a root tells of the families and the snapshots what its volume does
pub layouts : (mirror : Bool) (n : VolNo) (source : Root) (s d : Volume) (r : Root) → IsRootOf source s → r ≡ root_of n d →
    reason_if (mirror && not (is_empty r.snapshots) && not (source.family == r.family)) reasons.OtherLayout None ≡ reason_if (mirror && not (is_empty d.snapshots) && not (s.family == d.family)) reasons.OtherLayout None
layouts mirror n source s d r is e =
    ap (λ (q : Root). reason_if (mirror && not (is_empty q.snapshots) && not (source.family == q.family)) reasons.OtherLayout None) e
    ∙ ap₂ (λ (b : Bool) (f : ℕ). reason_if (mirror && not b && not (f == d.family)) reasons.OtherLayout None) (is_empty_kept d.snapshots) is.family

-- a list of snapshots with these identities
pub unseen_there : (source : List RootSnapshot) → map root.ident_of source ≡ idents (map unseen source)
unfolding unseen
unseen_there [] = refl
unseen_there (s ∷ ss) = ap (λ (is : List Ident). s.ident ∷ is) (unseen_there ss)

-- what is needed is what has a holder
pub held_marks : (w : Up) (v : ℕ) (ss : List Snapshot) → map is_some (holders_of (holder w v) ss) ≡ needed_marks (needed w v) ss
held_marks w v [] = refl
held_marks w v (s ∷ ss) = ap₂ (λ (b : Bool) (bs : List Bool). b ∷ bs) (by (holder w v s.ident) ∙ sym (any_found (needed_for w v s.ident) w.relations)) (held_marks w v ss)
  where
    by : (o : Option Relationship) → is_some (option_map (λ (r : Relationship). relno r.number) o) ≡ is_some o
    by None = refl
    by (Some r) = refl

pub none_left : (reason : Option Reason) → is_some reason ≡ false → reason ≡ None
none_left None e = refl
none_left (Some r) e = absurd (cc)
