-- The tests of a creation, and what they tell of a node.
use Rattle.std.proofs.Common.{◌≡◌, ℕ, ◌<◌, ◌≤◌, ◌||◌, ◌==◌, nat_lt, Bool, true, false, List, [], ◌∷◌, ◌++◌, length, map, refl, sym, ◌∙◌, ap, subst, inl, inr, Option, Some, None, Result, Ok, Err, length-append, arith}
use Rattle.std.specs.Prelude.{slice_get}
use Rattle.std.specs.List.{list_any}
use Rattle.std.specs.Str.{bytes_eq}
use Rattle.std.proofs.lemmas.Bool.{eq-eqb}
use Rattle.std.proofs.lemmas.Bool.Decides.{nat_tests}
use Rattle.std.proofs.lemmas.List.{length-map}
use Rattle.std.proofs.lemmas.Option.{slice_get_within}
use Rattle.std.proofs.lemmas.Slice.Eq.{bytes_eq-Decides}
use Rattle.sm_base.specs.declared.limits.TheConstants.{MOST_VOLUMES}
use Rattle.sm_base.specs.declared.numbers.DiskNo.{DiskNo}
use Rattle.sm_base.specs.declared.numbers.Kind.{Kind}
use Rattle.sm_base.specs.declared.refusal.What.TheVariants.{Volumes}
use Rattle.sm_base.specs.declared.refusal.Refusal.{Refusal}
use Rattle.sm_base.specs.declared.refusal.Refusal.TheVariants as refusals
use Rattle.sm_defs.specs.Volume.{Volume, length_needed}
use Rattle.sm_defs.specs.Words.{Among, KeysDiffer}
use Rattle.sm_defs.specs.World.{Up}
use Rattle.sm_defs.proofs.Keys.{differ_push}
use Rattle.sm_defs.proofs.Members.{any_among, among_place, among_push, get_among}
use Rattle.sm_disk.specs.Disk.{DiskState}
use Rattle.sm_model.specs.Answers.{Answer, and_then, refused_if, some_or}
use Rattle.sm_model.specs.InRange.{IsCreation}
use Rattle.sm_model.specs.OfVolumes as answers
use Rattle.sm_catroot.specs.declared.placed.Placed.{Placed}
use Rattle.sm_catroot.specs.Catalog.{Catalog}
use Rattle.sm_catroot.specs.Condition.{IsCatalog, IsPlaced, path_of}
use Rattle.sm_node.specs.Seats.{Seated, disk_number}
use Rattle.sm_node.specs.Nodes.{Node, IsNode, IsUp, world_of}
use Rattle.sm_node.specs.Parts.{place_of}
use Rattle.sm_node.specs.Creating.{creation_test, created, with_place, IsAtHand}
use Rattle.sm_seats.proofs.Lists.{some_at, one_value}
use Rattle.sm_node.proofs.Lists.{mapped_at, mapped_to}
use Rattle.sm_node.proofs.Worlds.{catalog_kept}

any_map : {X Y : Type 0} (p : Y → Bool) (f : X → Y) (xs : List X) → list_any p (map f xs) ≡ list_any (λ x. p (f x)) xs
any_map p f [] = refl
any_map p f (x ∷ xs) = ap (λ b. p (f x) || b) (any_map p f xs)

-- ---- the tests and the answer

abbrev test_by : Bool → Bool → Bool → Bool → Option ℕ → (ℕ → Bool) → DiskNo → ℕ → Result (Unit {0}) Refusal
test_by a b c d o small disk need =
    and_then (refused_if a refusals.NameTaken) (λ _. and_then (refused_if b (refusals.NoDisk disk)) (λ _. and_then (some_or (refusals.NoDisk disk) o) (λ len.
    and_then (refused_if c refusals.DiskTaken) (λ _. and_then (refused_if d (refusals.Full Volumes)) (λ _. refused_if (small len) (refusals.DiskSmall need len))))))

then_by : (a b c d : Bool) (o : Option ℕ) (small : ℕ → Bool) (disk : DiskNo) (need : ℕ) (done : Answer) →
    and_then (refused_if a refusals.NameTaken) (λ _. and_then (refused_if b (refusals.NoDisk disk)) (λ _. and_then (some_or (refusals.NoDisk disk) o) (λ len.
    and_then (refused_if c refusals.DiskTaken) (λ _. and_then (refused_if d (refusals.Full Volumes)) (λ _. and_then (refused_if (small len) (refusals.DiskSmall need len)) (λ _. done)))))) ≡
    and_then (test_by a b c d o small disk need) (λ _. done)
unfolding and_then refused_if some_or
then_by true b c d o small disk need done = refl
then_by false true c d o small disk need done = refl
then_by false false c d None small disk need done = refl
then_by false false true d (Some len) small disk need done = refl
then_by false false false true (Some len) small disk need done = refl
then_by false false false false (Some len) small disk need done = refl

-- by the places of the volumes
test_is : (vs : List Volume) (lengths path : List ℕ) (disk : DiskNo) (physical : ℕ) → creation_test (map place_of vs) lengths path disk physical
    ≡ test_by (list_any (λ (v : Volume). bytes_eq v.path path) vs) (disk.0 == 0) (list_any (λ (v : Volume). v.disk == disk.0) vs) (length vs == MOST_VOLUMES) (slice_get lengths disk.0) (λ len. nat_lt len (length_needed physical)) disk (length_needed physical)
test_is vs lengths path disk physical =
    rw (any_map (λ (p : Placed). bytes_eq p.path path) place_of vs, any_map (λ (p : Placed). p.disk.0 == disk.0) place_of vs, length-map vs place_of) refl

test_answers : (w : Up) (path : List ℕ) (disk : DiskNo) (kind : Kind) (logical physical : ℕ) → answers.create_volume w path disk kind logical physical ≡ and_then (creation_test (map place_of w.volumes) w.disks path disk physical) (λ _. created w path disk kind logical physical)
test_answers w path disk kind logical physical =
    then_by (list_any (λ (v : Volume). bytes_eq v.path path) w.volumes) (disk.0 == 0) (list_any (λ (v : Volume). v.disk == disk.0) w.volumes) (length w.volumes == MOST_VOLUMES)
    (slice_get w.disks disk.0) (λ len. nat_lt len (length_needed physical)) disk (length_needed physical) (created w path disk kind logical physical)
    ∙ ap (λ r. and_then r (λ _. created w path disk kind logical physical)) (sym (test_is w.volumes w.disks path disk physical))

node_answers : {D : Type 0} (n : Node D) → length n.root.held.volumes ≤ length n.seats → (path : List ℕ) (disk : DiskNo) (kind : Kind) (logical physical : ℕ)
    → answers.create_volume (world_of n) path disk kind logical physical ≡ and_then (creation_test n.root.held.volumes n.lengths path disk physical) (λ _. created (world_of n) path disk kind logical physical)
node_answers n many path disk kind logical physical =
    test_answers (world_of n) path disk kind logical physical
    ∙ ap (λ (ps : List Placed). and_then (creation_test ps n.lengths path disk physical) (λ _. created (world_of n) path disk kind logical physical)) (sym (catalog_kept n.root.held n.seats n.lengths many).volumes)

pub answer_refused : {D : Type 0} (n : Node D) → length n.root.held.volumes ≤ length n.seats → (path : List ℕ) (disk : DiskNo) (kind : Kind) (logical physical : ℕ) (g : Refusal)
    → creation_test n.root.held.volumes n.lengths path disk physical ≡ Err g → answers.create_volume (world_of n) path disk kind logical physical ≡ Err g
unfolding and_then
answer_refused n many path disk kind logical physical g e = node_answers n many path disk kind logical physical ∙ ap (λ r. and_then r (λ _. created (world_of n) path disk kind logical physical)) e

pub answer_allowed : {D : Type 0} (n : Node D) → length n.root.held.volumes ≤ length n.seats → (path : List ℕ) (disk : DiskNo) (kind : Kind) (logical physical : ℕ) (u : Unit {0})
    → creation_test n.root.held.volumes n.lengths path disk physical ≡ Ok u → answers.create_volume (world_of n) path disk kind logical physical ≡ created (world_of n) path disk kind logical physical
unfolding and_then
answer_allowed n many path disk kind logical physical u e = node_answers n many path disk kind logical physical ∙ ap (λ r. and_then r (λ _. created (world_of n) path disk kind logical physical)) e

-- ---- what it tells that none refuses

not_refused : (b : Bool) (g : Refusal) (u : Unit {0}) → refused_if b g ≡ Ok u → b ≡ false
unfolding refused_if
not_refused true g u e = absurd (cc)
not_refused false g u e = refl

passed : (a b c d : Bool) (o : Option ℕ) (small : ℕ → Bool) (disk : DiskNo) (need : ℕ) (u : Unit {0}) → test_by a b c d o small disk need ≡ Ok u
    → (a ≡ false) × (b ≡ false) × (c ≡ false) × (d ≡ false) × ((len : ℕ) × (o ≡ Some len) × (small len ≡ false))
unfolding and_then refused_if some_or
passed true b c d o small disk need u e = absurd (cc)
passed false true c d o small disk need u e = absurd (cc)
passed false false c d None small disk need u e = absurd (cc)
passed false false true d (Some len) small disk need u e = absurd (cc)
passed false false false true (Some len) small disk need u e = absurd (cc)
passed false false false false (Some len) small disk need u e = (refl, refl, refl, refl, (len, refl, not_refused (small len) (refusals.DiskSmall need len) u e))

not_true : (b : Bool) → b ≡ false → b ≡ true → ⊥
not_true b e f = absurd (cc)

module _ {D : Type 0} (state : D → DiskState) (n : Node D) (is : IsNode state n) (as_many : length n.root.held.volumes ≡ length n.seats) (path : List ℕ) (disk : DiskNo) (physical : ℕ) (u : Unit {0}) (allowed : creation_test n.root.held.volumes n.lengths path disk physical ≡ Ok u) where
  abbrev ps : List Placed
  ps = n.root.held.volumes

  tells : (list_any (λ (p : Placed). bytes_eq p.path path) ps ≡ false) × ((disk.0 == 0) ≡ false) × (list_any (λ (p : Placed). p.disk.0 == disk.0) ps ≡ false) × ((length ps == MOST_VOLUMES) ≡ false)
      × ((len : ℕ) × (slice_get n.lengths disk.0 ≡ Some len) × (nat_lt len (length_needed physical) ≡ false))
  tells = passed (list_any (λ (p : Placed). bytes_eq p.path path) ps) (disk.0 == 0) (list_any (λ (p : Placed). p.disk.0 == disk.0) ps) (length ps == MOST_VOLUMES) (slice_get n.lengths disk.0) (λ len. nat_lt len (length_needed physical)) disk (length_needed physical) u allowed

  pub few_seats : length n.seats < MOST_VOLUMES
  few_seats =
      let few = is.few in
      let not_all : ¬ (length ps ≡ MOST_VOLUMES) = λ e. not_true (length ps == MOST_VOLUMES) tells.3 (eq-eqb (length ps) MOST_VOLUMES e) in
      omega (arith, as_many, few, not_all)

  pub long_enough : (len : ℕ) → slice_get n.lengths disk.0 ≡ Some len → length_needed physical ≤ len
  long_enough len e =
      let same : tells.4.0 ≡ len = one_value (slice_get n.lengths disk.0) tells.4.0 len tells.4.1 e in
      let not_less : nat_lt len (length_needed physical) ≡ false = subst (λ (l : ℕ). nat_lt l (length_needed physical) ≡ false) same tells.4.2 in
      grind (arith, nat_tests)

  -- no volume lies on it, and it is not the catalogue's
  not_used : Among (0 ∷ map disk_number n.seats) disk.0 → ⊥
  not_used (inl e) = not_true (disk.0 == 0) tells.1 (eq-eqb disk.0 0 e)
  not_used (inr a) =
      let at = among_place (map disk_number n.seats) disk.0 a in
      let s = mapped_at disk_number n.seats at.0 disk.0 at.1 in
      let p = some_at ps at.0 (let lt = slice_get_within n.seats at.0 s.0 s.1 in omega (arith, lt, as_many)) in
      not_true (list_any (λ (q : Placed). q.disk.0 == disk.0) ps) tells.2
      (any_among (λ (q : Placed). q.disk.0 == disk.0) ps p.0 (get_among ps at.0 p.0 p.1) (eq-eqb p.0.disk.0 disk.0 (is.placed at.0 p.0 disk.0 p.1 at.1)))

  pub at_hand : IsAtHand n.spares disk.0
  at_hand =
      let lt = slice_get_within n.lengths disk.0 tells.4.0 tells.4.1 in
      let many = is.laid_out.as_many in
      let o = some_at n.spares disk.0 (omega (arith, lt, many)) in
      there o.0 o.1
    where
      there : (o : Option D) → slice_get n.spares disk.0 ≡ Some o → IsAtHand n.spares disk.0
      there None e = absurd (not_used (is.laid_out.left disk.0 e))
      there (Some x) e = (x, e)

  pub fits_next : IsCatalog n.root.held → (logical : ℕ) → IsCreation path disk.0 logical physical → IsCatalog (with_place n.root.held path disk)
  fits_next fit logical given = record {
    clock = fit.clock;
    next_relation = fit.next_relation;
    next_transfer = fit.next_transfer;
    few_volumes = few_places;
    volumes = λ v a. elim (among_push ps (record { path = path; disk = disk }) v a) [
      | inl old ↦ fit.volumes v old
      | inr new ↦ subst IsPlaced (sym new) (record { path = given.path_given; disk = let le = given.disk_given in omega (arith, le) })
    ];
    paths_differ = differ_push path_of ps (record { path = path; disk = disk }) fit.paths_differ (λ y a same.
        not_true (list_any (λ (p : Placed). bytes_eq p.path path) ps) tells.0 (any_among (λ (p : Placed). bytes_eq p.path path) ps y a ((bytes_eq-Decides y.path path).1 same)));
    few_policies = fit.few_policies;
    policies = fit.policies;
    names_differ = fit.names_differ;
    few_relations = fit.few_relations;
    relations = fit.relations;
    ascends = fit.ascends;
  }
    where
      few_places : length (ps ++ record { path = path; disk = disk } ∷ []) ≤ MOST_VOLUMES
      few_places = let more = length-append ps (record { path = path; disk = disk } ∷ []) in let few = few_seats in omega (arith, more, few, as_many)
