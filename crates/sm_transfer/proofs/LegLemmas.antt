-- What a leg's plan is, index by index.
use Rattle.std.proofs.Common.{◌≡◌, ℕ, zero, suc, ◌+◌, ◌<◌, ◌≤◌, Bool, true, false, not, List, [], ◌∷◌, length, map, Some, inl, inr, refl, sym, ◌∙◌, ap, subst, arith}
use Rattle.std.specs.Prelude.{slice_get, slice_index_or, nat_lt, ◌&&◌}
use Rattle.std.proofs.lemmas.Bool.{cases_lt, cases_eq, cases_Bool, not-true, and_parts}
use Rattle.std.proofs.Common.{ltb-true}
use Rattle.std.proofs.lemmas.List.{get_or-map, get_or-take}
use Rattle.std.proofs.lemmas.Option.{slice_get-get_or}
use Rattle.sm_base.specs.declared.limits.TheConstants.{WINDOW}
use Rattle.sm_base.specs.declared.numbers.PolicyKind.{PolicyKind}
use Rattle.sm_base.specs.declared.numbers.Ident.{Ident}
use Rattle.sm_defs.specs.Words.{Among, Ascends, same_ident}
use Rattle.sm_defs.specs.Image.{Block, Image, stands, tags, tag_of, bytes_of}
use Rattle.sm_defs.specs.Missing.{Bases, missing_tags, missing_places, vault_cost, tags_in, moved}
use Rattle.sm_defs.specs.Relationship.{is_mirror}
use Rattle.sm_defs.specs.Volume.{Volume, Snapshot, images_of, image_of, tags_of, free_tags}
use Rattle.sm_defs.proofs.Members.{among_each, among_get_or, among_map, among_flat, among_stands, among_place, get_among}
use Rattle.sm_defs.proofs.Searches.{find_is}
use Rattle.sm_disk.specs.Image as disk
use Rattle.laws_transfer.specs.Costs.{HaveTag}
use Rattle.laws_transfer.proofs.Asc.{missing_tags_are, missing_places_are, have_from}
use Rattle.laws_transfer.proofs.Landed.{in_order, free_ascend, free_from}
use Rattle.sm_relation.specs.declared.relation.Relation.{Relation}
use Rattle.sm_select.specs.Planned.{Planned, twice}
use Rattle.sm_select.specs.PlanLaws.{IsMirrorPlan, number_at, from_number, to_number}
use Rattle.sm_model.specs.Running.{Running}
use Rattle.sm_model.specs.Steps.{bases, cost, snapshot_of}
use Rattle.volume_store.specs.Held.{block_at}
use Rattle.volume_store.specs.Maps.{AreMapsOf}
use Rattle.sm_transfer.specs.Beginning.{CanBegin, HasRoom, IsLegPlan}
use Rattle.sm_transfer.specs.Landed.{WhatLandedHasLanded}
use Rattle.sm_transfer.specs.Landing.{HasLanded, LandApart, OfMirror, OfVault, LandsAs, WhatLandedIsTheLegs, LegsLandApart, StandsBySnapshots, PlannedShipsFit, DueShipsFit}
use Rattle.sm_transfer.specs.Sending.{Sending, no_pair, from_of, to_of}
use Rattle.sm_transfer.specs.Shipping.{IsShippable}
use Rattle.sm_transfer.proofs.BeginLemmas.{leg_in_source, leg_within}

-- ---- lists

got : {X : Type 0} (xs : List X) (k : ℕ) (x e : X) → slice_get xs k ≡ Some x → (k < length xs) × (slice_index_or xs k e ≡ x)
got [] k x e is = absurd (cc)
got (y ∷ ys) zero x e is = (omega arith, let f : y ≡ x = cc in f)
got (y ∷ ys) (suc k) x e is = let h = got ys k x e is in (let l = h.0 in omega (arith, l), h.1)

ascends_apart : (ts : List ℕ) → Ascends ts → (j k : ℕ) → j < k → k < length ts → slice_index_or ts j 0 < slice_index_or ts k 0
ascends_apart [] h j k less in_it = absurd (omega arith)
ascends_apart (t ∷ ts) h j zero less in_it = absurd (omega arith)
ascends_apart (t ∷ ts) h zero (suc k) less in_it = among_each (λ m. t < m) ts (slice_index_or ts k 0) h.0 (among_get_or ts k 0 (omega arith))
ascends_apart (t ∷ ts) h (suc j) (suc k) less in_it = ascends_apart ts h.1 j k (omega arith) (omega arith)

one_place : (ts : List ℕ) → Ascends ts → (j k : ℕ) → j < length ts → k < length ts → slice_index_or ts j 0 ≡ slice_index_or ts k 0 → j ≡ k
one_place ts h j k at_j at_k e = elim (cases_eq j k) [
  | inl same ↦ same
  | inr other ↦ elim (cases_lt j k) [
    | inl less ↦ let l = ascends_apart ts h j k less at_k in absurd (omega (arith, l, e))
    | inr le ↦ let l = ascends_apart ts h k j (omega arith) at_j in absurd (omega (arith, l, e))
  ]
]

twice_at : (ts : List ℕ) (k : ℕ) → slice_index_or (map twice ts) k no_pair ≡ twice (slice_index_or ts k 0)
twice_at [] k = refl
twice_at (t ∷ ts) zero = refl
twice_at (t ∷ ts) (suc k) = twice_at ts k

tags_at : (image : Image) (q : ℕ) (x : Block) → slice_get image q ≡ Some x → slice_get (tags image) q ≡ Some x.tag
tags_at [] q x e = absurd (cc)
tags_at (y ∷ ys) zero x e = let f : y ≡ x = cc in ap (λ (z : Block). Some z.tag) f
tags_at (y ∷ ys) (suc q) x e = tags_at ys q x e

-- ---- a mirror's plan

module _ (leg : Image) (there : List Snapshot) (plan : Planned) (is : IsMirrorPlan leg there plan) where
  mirror_pair : (k : ℕ) → slice_index_or plan.pairs k no_pair ≡ twice (slice_index_or (missing_tags leg there) k 0)
  mirror_pair k = ap (λ (ps : List (ℕ × ℕ)). slice_index_or ps k no_pair) is.missing ∙ twice_at (missing_tags leg there) k

  mirror_from : (k : ℕ) → from_of plan k ≡ slice_index_or (missing_tags leg there) k 0
  mirror_from k = ap from_number (mirror_pair k)

  mirror_to : (k : ℕ) → to_of plan k ≡ slice_index_or (missing_tags leg there) k 0
  mirror_to k = ap to_number (mirror_pair k)

  mirror_member : (k : ℕ) → k < length plan.pairs → Among (missing_tags leg there) (slice_index_or (missing_tags leg there) k 0)
  mirror_member k less = among_get_or (missing_tags leg there) k 0 (let e = is.cost in omega (arith, e))

  mirror_apart : LandApart plan
  mirror_apart = record {
    apart = λ j k at_j at_k e. one_place (missing_tags leg there) (missing_tags_are leg there).0 j k (let c = is.cost in omega (arith, c)) (let c = is.cost in omega (arith, c)) (sym (mirror_to j) ∙ e ∙ mirror_to k);
    from_one = λ k at_k. let ne = (((missing_tags_are leg there).1 (slice_index_or (missing_tags leg there) k 0)).0 (mirror_member k at_k)).1 in let e = mirror_to k in grind (arith, ne, e);
  }

  mirror_landed : (landed : List ℕ) (source : Volume) (c : disk.Image) → Among (images_of source) leg → HasLanded plan landed source c
      → (k : ℕ) (b : Block) → Among landed k → OfMirror leg there k b → block_at c b.tag ≡ b.bytes
  mirror_landed landed source c there_it has k b m of =
      let at = got (missing_tags leg there) k b.tag 0 of.0 in
      ap (λ (n : ℕ). block_at c n) (sym (mirror_to k ∙ at.1)) ∙ has k b m (leg, there_it, of.1) (sym (mirror_from k ∙ at.1))

-- ---- a vault's plan

module _ (leg : Image) (both : Bases) (free : List ℕ) (plan : Planned) (is : HasRoom leg both free plan) where
  vault_from : (k : ℕ) → k < length plan.pairs → from_of plan k ≡ number_at leg (slice_index_or (missing_places leg both) k 0)
  vault_from k less =
      sym (get_or-map from_number plan.pairs k no_pair 0 less) ∙ ap (λ (ns : List ℕ). slice_index_or ns k 0) is.vault.from
      ∙ get_or-map (number_at leg) (missing_places leg both) k 0 0 (let e = is.vault.cost in omega (arith, e))

  vault_to : (k : ℕ) → k < length plan.pairs → to_of plan k ≡ slice_index_or free k 0
  vault_to k less =
      sym (get_or-map to_number plan.pairs k no_pair 0 less) ∙ ap (λ (ns : List ℕ). slice_index_or ns k 0) (is.vault.to is.enough)
      ∙ get_or-take (vault_cost leg both) free k 0 (let e = is.vault.cost in omega (arith, e))

  in_free : (k : ℕ) → k < length plan.pairs → k < length free
  in_free k less = let e = is.vault.cost in let h = is.enough in omega (arith, e, h)

  vault_apart : Ascends free → ((t : ℕ) → Among free t → 1 ≤ t) → LandApart plan
  vault_apart ascends one = record {
    apart = λ j k at_j at_k e. one_place free ascends j k (in_free j at_j) (in_free k at_k) (sym (vault_to j at_j) ∙ e ∙ vault_to k at_k);
    from_one = λ k at_k. let h = one (slice_index_or free k 0) (among_get_or free k 0 (in_free k at_k)) in let e = vault_to k at_k in omega (arith, h, e);
  }

  vault_landed : (landed : List ℕ) (source : Volume) (c : disk.Image) → Among (images_of source) leg → HasLanded plan landed source c
      → (k : ℕ) (b : Block) → Among landed k → OfVault leg both free k b → block_at c b.tag ≡ b.bytes
  vault_landed landed source c there_it has k b m of =
      let p = of.0 in
      let place = got (missing_places leg both) k p 0 of.1 in
      let less : k < length plan.pairs = let e = is.vault.cost in let h = place.0 in omega (arith, e, h) in
      let moved_is = in_order leg both free k p (slice_index_or free k 0) of.1 (slice_get-get_or free k 0 (in_free k less)) in
      let same : Some b ≡ Some (moved moved_is.0 (slice_index_or free k 0)) = sym of.2 ∙ moved_is.2 in
      let tag : b.tag ≡ slice_index_or free k 0 = some_tag b (moved moved_is.0 (slice_index_or free k 0)) same in
      let bytes : b.bytes ≡ moved_is.0.bytes = some_bytes b (moved moved_is.0 (slice_index_or free k 0)) same in
      let number : number_at leg p ≡ moved_is.0.tag = (got (tags leg) p moved_is.0.tag 0 (tags_at leg p moved_is.0 moved_is.1)).1 in
      ap (λ (n : ℕ). block_at c n) (tag ∙ sym (vault_to k less))
      ∙ has k moved_is.0 m (leg, there_it, get_among leg p moved_is.0 moved_is.1) (sym number ∙ ap (number_at leg) (sym place.1) ∙ sym (vault_from k less)) ∙ sym bytes
    where
      some_tag : (x y : Block) → Some x ≡ Some y → x.tag ≡ y.tag
      some_tag x y e = let f : x ≡ y = cc in ap tag_of f

      some_bytes : (x y : Block) → Some x ≡ Some y → x.bytes ≡ y.bytes
      some_bytes x y e = let f : x ≡ y = cc in ap bytes_of f

-- ---- a leg's plan

pub land_apart : LegsLandApart
land_apart = λ x leg plan is. elim (cases_Bool (is_mirror x.policy.kind)) [
  | inl mirror ↦ mirror_apart leg.image x.destination.snapshots plan (is.is_plan.0 mirror)
  | inr vault ↦ vault_apart leg.image (bases x) (free_tags x.destination) plan (is.is_plan.1 vault) (free_ascend x.destination).0 (λ t m. (free_from x.destination t m).0)
]

pub what_landed : WhatLandedIsTheLegs
what_landed = λ x leg plan landed c among is has k b m lands.
    let there : Among (images_of x.source) leg.image = inr (inr (among_map image_of x.source.snapshots leg among)) in
    elim (cases_Bool (is_mirror x.policy.kind)) [
      | inl mirror ↦ mirror_landed leg.image x.destination.snapshots plan (is.is_plan.0 mirror) landed x.source c there has k b m (subst (λ (p : Bool). LandsAs p x leg k b) mirror lands)
      | inr vault ↦ vault_landed leg.image (bases x) (free_tags x.destination) plan (is.is_plan.1 vault) landed x.source c there has k b m (subst (λ (p : Bool). LandsAs p x leg k b) vault lands)
    ]

pub has_landed : WhatLandedHasLanded
has_landed = λ x leg t c may is tells has i later first legs lacks first_is k b m lands.
    let same : i ≡ may.first = cons_first i may.first later may.later (sym legs ∙ may.legs) in
    let leg_same : first ≡ leg = some_same first leg (sym first_is ∙ ap (λ (j : Ident). snapshot_of x.source.snapshots (Some j)) same ∙ may.leg_is) in
    let among : Among x.source.snapshots leg = (find_is (λ (s : Snapshot). same_ident s.ident may.first) x.source.snapshots leg may.leg_is).0 in
    what_landed x leg t.plan t.landed c among is has k b (subst (λ (ls : List ℕ). Among ls k) (sym tells.landed) m) (subst (λ (s : Snapshot). LandsAs (is_mirror x.policy.kind) x s k b) leg_same lands)
  where
    cons_first : (i j : Ident) (is js : List Ident) → i ∷ is ≡ j ∷ js → i ≡ j
    cons_first i j is js e = cc

    some_same : (s t : Snapshot) → Some s ≡ Some t → s ≡ t
    some_same s t e = cc

-- ---- a Ship that is due

module _ (kind : PolicyKind) (relation : Relation) (s d : Volume) (x : Running) (leg : Snapshot) (t : Sending) (index : ℕ) (can : CanBegin kind relation s d x leg)
    (maps : AreMapsOf s.logical s.physical (map tags (images_of s))) (by_snapshots : is_mirror kind ≡ true → StandsBySnapshots d) (is : IsLegPlan x leg t.plan) (less : index < length t.plan.pairs)
    (fresh : stands index t.landed ≡ false) where
  used : (n : ℕ) → Among (tags leg.image) n → stands n (tags_of s) ≡ true
  used n m = among_stands n (tags_of s) (among_flat tags (images_of s) leg.image n (leg_in_source kind relation s d x leg can) m)

  mirror_fits : is_mirror x.policy.kind ≡ true → IsShippable t index s d
  mirror_fits mirror =
      let there = x.destination.snapshots in
      let plan = is.is_plan.0 mirror in
      let n : ℕ = slice_index_or (missing_tags leg.image there) index 0 in
      let missing = ((missing_tags_are leg.image there).1 n).0 (mirror_member leg.image there t.plan plan index less) in
      let from : from_of t.plan index ≡ n = mirror_from leg.image there t.plan plan index in
      let to : to_of t.plan index ≡ n = mirror_to leg.image there t.plan plan index in
      let one : 1 ≤ n = let ne = missing.1 in grind (arith, ne) in
      let place = among_place (tags leg.image) n missing.0 in
      let there_is = got (tags leg.image) place.0 n 0 place.1 in
      let here = leg_within kind relation s d x leg can maps (ap is_mirror (sym can.0.policy) ∙ mirror) place.0 0 there_is.0 in
      let at = there_is.1 in record {
        is_index = less;
        fresh = fresh;
        from_one = omega (arith, from, one);
        used = ap (λ (m : ℕ). stands m (tags_of s)) from ∙ used n missing.0;
        to_one = omega (arith, to, one);
        within = omega (arith, to, here, at);
        free = ap (λ (m : ℕ). stands m (tags_of d)) to ∙ unused n one missing.2;
      }
    where
      unused : (n : ℕ) → 1 ≤ n → ¬ (HaveTag x.destination.snapshots n) → stands n (tags_of d) ≡ false
      unused n one lacks = elim (cases_Bool (stands n (tags_of d))) [
        | inl yes_is ↦ absurd (lacks (have_from x.destination.snapshots n (ap (λ (v : Volume). stands n (tags_in v.snapshots)) can.0.of_destination ∙ by_snapshots (ap is_mirror (sym can.0.policy) ∙ mirror) n one yes_is)))
        | inr out ↦ out
      ]

  vault_fits : is_mirror x.policy.kind ≡ false → IsShippable t index s d
  vault_fits vault =
      let free = free_tags x.destination in
      let plan = is.is_plan.1 vault in
      let p : ℕ = slice_index_or (missing_places leg.image (bases x)) index 0 in
      let block = ((missing_places_are leg.image (bases x)).1 p).0 (among_get_or (missing_places leg.image (bases x)) index 0 (let e = plan.vault.cost in omega (arith, e, less))) in
      let number : number_at leg.image p ≡ block.0.tag = (got (tags leg.image) p block.0.tag 0 (tags_at leg.image p block.0 block.1)).1 in
      let from : from_of t.plan index ≡ block.0.tag = vault_from leg.image (bases x) free t.plan plan index less ∙ number in
      let n : ℕ = slice_index_or free index 0 in
      let to : to_of t.plan index ≡ n = vault_to leg.image (bases x) free t.plan plan index less in
      let left = free_from x.destination n (among_get_or free index 0 (in_free leg.image (bases x) free t.plan plan index less)) in
      let one = left.0 in
      let within : n ≤ d.physical = subst (λ (v : Volume). n ≤ v.physical) can.0.of_destination left.1 in
      let unused : stands n (tags_of d) ≡ false = subst (λ (v : Volume). stands n (tags_of v) ≡ false) can.0.of_destination left.2 in
      let ne = block.2 in record {
        is_index = less;
        fresh = fresh;
        from_one = let some : 1 ≤ block.0.tag = grind (arith, ne) in omega (arith, from, some);
        used = ap (λ (m : ℕ). stands m (tags_of s)) from ∙ used block.0.tag (among_map tag_of leg.image block.0 (get_among leg.image p block.0 block.1));
        to_one = omega (arith, to, one);
        within = omega (arith, to, within);
        free = ap (λ (m : ℕ). stands m (tags_of d)) to ∙ unused;
      }

pub planned_fits : PlannedShipsFit
planned_fits = λ kind relation s d x leg t index can maps by_snapshots is less fresh. elim (cases_Bool (is_mirror x.policy.kind)) [
  | inl mirror ↦ mirror_fits kind relation s d x leg t index can maps by_snapshots is less fresh mirror
  | inr vault ↦ vault_fits kind relation s d x leg t index can maps by_snapshots is less fresh vault
]

pub due_fits : DueShipsFit
due_fits = λ x leg t index is same may.
    let tests = and_parts (not (stands index x.transfer.landed)) (nat_lt index (cost x leg)) (and_parts (not (stands index x.transfer.landed) && nat_lt index (cost x leg)) (nat_lt index (x.transfer.checkpoint + WINDOW)) may).0 in
    let less = ltb-true index (cost x leg) tests.1 in
    let e = is.costs in
    (omega (arith, less, e), ap (λ (ls : List ℕ). stands index ls) same ∙ not-true (stands index x.transfer.landed) tests.0)
