-- What was shipped of a transfer's legs, where blocks are read as zeros.
use Rattle.std.proofs.Common.{◌≡◌, ℕ, suc, ◌==◌, ◌&&◌, ◌<◌, ◌≤◌, not, cond, if◌then◌else◌, List, [], ◌∷◌, length, flat_map, Option, None, Some, option_map, refl, sym, ap, subst, subst₂, ◌∙◌}
use Rattle.std.specs.List.{filter}
use Rattle.std.proofs.lemmas.Option.{same_Some}
use Rattle.std.proofs.lemmas.List.Folds.{flat_map-map}
use mathlib.Core.List.{map-map}
use Rattle.sm_base.specs.declared.numbers.Ident.{Ident}
use Rattle.sm_defs.specs.Words.{Among, same_ident}
use Rattle.sm_defs.specs.Image.{Image, tags, stands}
use Rattle.sm_defs.specs.Volume.{Snapshot, image_of}
use Rattle.sm_defs.specs.Missing.{tags_in, ascending, mirror_cost, is_missing_at, missing_from}
use Rattle.sm_defs.specs.Relationship.{Relationship, Transfer, is_mirror}
use Rattle.sm_defs.specs.World.{Up, policy_at}
use Rattle.sm_model.specs.Running.{Running, running_in}
use Rattle.sm_model.specs.Steps.{snapshot_of, image_or_none, cost}
use Rattle.sm_model.specs.LegsFit.{Agree, FitsSource, FirstLegFits, FirstFits, LegsFitFor, LegsFit}
use Rattle.sm_shape.specs.Blanked.{zeroed, zeroed_snapshot, zeroed_volume, blanked}
use Rattle.laws_blank.proofs.Mapped.{find_mapped}
use Rattle.laws_blank.proofs.Zeroed.{zeroed_tags, zeroed_list, zeroed_has, zeroed_free, at_blanked}
use Rattle.laws_blank.proofs.Origins.{For, zeroed_block, got_mapped, one_zeroed, snapshot_for}

-- ---- what a leg costs

tags_in_zeroed : (ss : List Snapshot) → tags_in (zeroed_list ss) ≡ tags_in ss
tags_in_zeroed ss =
    ap (flat_map tags) (map-map image_of zeroed_snapshot ss)
    ∙ (flat_map-map tags (λ (s : Snapshot). zeroed s.image) ss
    ∙ ((λ t. flat_map (λ (s : Snapshot). zeroed_tags s.image t) ss)
    ∙ sym (flat_map-map tags image_of ss)))

mirror_cost_zeroed : (leg : Image) (ss : List Snapshot) → mirror_cost (zeroed leg) (zeroed_list ss) ≡ mirror_cost leg ss
mirror_cost_zeroed leg ss = λ t. length (ascending (filter (λ n. not (n == 0) && not (stands n (tags_in_zeroed ss t))) (zeroed_tags leg t)))

missing_from_zeroed : (at : ℕ) (leg base : Image) → missing_from at (zeroed leg) (zeroed base) ≡ missing_from at leg base
missing_from_zeroed at [] base = refl
missing_from_zeroed at (b ∷ bs) [] = ap (λ (l : List ℕ). cond (is_missing_at b.tag 0) (at ∷ l) l) (missing_from_zeroed (suc at) bs [])
missing_from_zeroed at (b ∷ bs) (c ∷ cs) = ap (λ (l : List ℕ). cond (is_missing_at b.tag c.tag) (at ∷ l) l) (missing_from_zeroed (suc at) bs cs)

snapshot_of_zeroed : (ss : List Snapshot) (i : Option Ident) → snapshot_of (zeroed_list ss) i ≡ option_map zeroed_snapshot (snapshot_of ss i)
snapshot_of_zeroed ss None = refl
snapshot_of_zeroed ss (Some i) = find_mapped zeroed_snapshot (λ s. same_ident s.ident i) ss

image_zeroed : (o : Option Snapshot) → image_or_none (option_map zeroed_snapshot o) ≡ zeroed (image_or_none o)
image_zeroed None = refl
image_zeroed (Some s) = refl

vault_cost_zeroed : (leg : Image) (ss : List Snapshot) (base : Option Ident) → length (missing_from 0 (zeroed leg) (image_or_none (snapshot_of (zeroed_list ss) base))) ≡ length (missing_from 0 leg (image_or_none (snapshot_of ss base)))
vault_cost_zeroed leg ss base =
    ap (λ (i : Image). length (missing_from 0 (zeroed leg) i)) (ap image_or_none (snapshot_of_zeroed ss base) ∙ image_zeroed (snapshot_of ss base))
    ∙ ap (λ (l : List ℕ). length l) (missing_from_zeroed 0 leg (image_or_none (snapshot_of ss base)))

-- ---- a transfer with its volumes

abbrev zeroed_running : Running → Running
zeroed_running x = record x { source = zeroed_volume x.source; destination = zeroed_volume x.destination }

running_blanked : (w : Up) (r : Relationship) (t : Transfer) → running_in (blanked w) r t ≡ zeroed_running (running_in w r t)
running_blanked w r t = λ s. record { relation = r; transfer = t; policy = policy_at w r.policy; source = at_blanked w r.source s; destination = at_blanked w r.destination s }

some_for : {X Y : Type 0} (f : X → Y) (o : Option X) (y : Y) → option_map f o ≡ Some y → For f (λ x. o ≡ Some x) y
some_for f None y e = absurd (cc)
some_for f (Some x) y e = record { origin = x; there = refl; is = sym (same_Some (f x) y e) }

agree_zeroed : (s t : Snapshot) → Agree s t → Agree (zeroed_snapshot s) (zeroed_snapshot t)
agree_zeroed s t f = λ p q b c gb gc same some.
    let x = got_mapped zeroed_block s.image p b gb in
    let y = got_mapped zeroed_block t.image q c gc in
    one_zeroed b c x.origin y.origin x.is y.is same some (f p q x.origin y.origin x.there y.there)

module _ (x : Running) where
  cost_zeroed : (leg : Snapshot) → cost (zeroed_running x) (zeroed_snapshot leg) ≡ cost x leg
  cost_zeroed leg =
      λ t. if is_mirror x.policy.kind then mirror_cost_zeroed leg.image x.destination.snapshots t else vault_cost_zeroed leg.image x.source.snapshots x.relation.base t

  leg_for : (i : Ident) (leg : Snapshot) → snapshot_of (zeroed_running x).source.snapshots (Some i) ≡ Some leg → For zeroed_snapshot (λ s. snapshot_of x.source.snapshots (Some i) ≡ Some s) leg
  leg_for i leg e = some_for zeroed_snapshot (snapshot_of x.source.snapshots (Some i)) leg (sym (snapshot_of_zeroed x.source.snapshots (Some i)) ∙ e)

  cost_of : (leg origin : Snapshot) → leg ≡ zeroed_snapshot origin → cost (zeroed_running x) leg ≡ cost x origin
  cost_of leg origin e = ap (cost (zeroed_running x)) e ∙ cost_zeroed origin

  fits_source : FitsSource x → FitsSource (zeroed_running x)
  fits_source f = record {
    there = λ i leg. zeroed_has x.source.snapshots i ∙ f.there i leg;
    agree = λ s t a leg b.
        let u = snapshot_for x.source.snapshots s a in
        let v = snapshot_for x.destination.snapshots t b in
        subst₂ Agree (sym u.is) (sym v.is) (agree_zeroed u.origin v.origin (f.agree u.origin v.origin u.there (subst (λ (z : Snapshot). Among x.transfer.legs z.ident) u.is leg) v.there));
  }

  first_leg_fits : (i : Ident) → FirstLegFits x i → FirstLegFits (zeroed_running x) i
  first_leg_fits i f = record {
    there = zeroed_has x.source.snapshots i ∙ f.there;
    checkpoint = λ leg e.
        let l = leg_for i leg e in
        subst (λ (n : ℕ). x.transfer.checkpoint ≤ n) (sym (cost_of leg l.origin l.is)) (f.checkpoint l.origin l.there);
    landed = λ leg k e a.
        let l = leg_for i leg e in
        subst (λ (n : ℕ). k < n) (sym (cost_of leg l.origin l.is)) (f.landed l.origin k l.there a);
    room = λ leg e vault.
        let l = leg_for i leg e in
        subst₂ (λ (m n : ℕ). m ≤ n) (sym (cost_of leg l.origin l.is)) (sym (zeroed_free x.destination)) (f.room l.origin l.there vault);
  }

  first_fits : (is : List Ident) → FirstFits x is → FirstFits (zeroed_running x) is
  first_fits [] f = tt
  first_fits (i ∷ is) f = λ lacks under_way. first_leg_fits i (f (sym (zeroed_has x.destination.snapshots i) ∙ lacks) under_way)

  fits : LegsFitFor x → LegsFitFor (zeroed_running x)
  fits f = record {
    mirror = λ mirror checked. fits_source (f.mirror mirror checked);
    fresh = f.fresh;
    first = first_fits x.transfer.legs f.first;
    window = f.window;
  }

pub legs_fit_blanked : (w : Up) → LegsFit w → LegsFit (blanked w)
legs_fit_blanked w f = λ r t a is. subst LegsFitFor (sym (running_blanked w r t)) (fits (running_in w r t) (f r t a is))
