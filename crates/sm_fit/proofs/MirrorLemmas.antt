-- What a mirror shipped fits, by the table of its destination.
use Rattle.std.proofs.Common.{◌≡◌, ◌↔◌, ℕ, ◌+◌, true, cond, List, [], ◌∷◌, get_or, map, count_by, refl, sym, ap, subst, ◌∙◌, arith}
use Rattle.std.specs.Prelude.{Some, slice_get}
use Rattle.std.specs.List.{flat_map}
use Rattle.std.proofs.lemmas.Bool.{both_ways}
use Rattle.std.proofs.lemmas.List.{get_or_default}
use Rattle.sm_base.specs.declared.numbers.Ident.{Ident}
use Rattle.sm_defs.specs.Words.{Among}
use Rattle.sm_defs.specs.Image.{Block}
use Rattle.sm_defs.specs.Missing.{mirror_cost, vault_cost}
use Rattle.sm_defs.specs.Places.{OnePlace}
use Rattle.sm_defs.specs.Volume.{Snapshot, has}
use Rattle.sm_defs.specs.Relationship.{is_mirror}
use Rattle.sm_defs.proofs.Members.{among_map, from_map}
use Rattle.sm_model.specs.Running.{Running}
use Rattle.sm_model.specs.Steps.{snapshot_of, image_or_none, bases}
use Rattle.sm_model.specs.LegsFit.{Agree, FitsSource, FirstFits}
use Rattle.sm_model.specs.declared.world.WorldSnapshot.{WorldSnapshot}
use Rattle.sm_shape.specs.Blank.{blank_block, blank_image, blank_snapshot}
use Rattle.sm_shape.specs.Marks.{IsTableOf, one_map}
use Rattle.sm_shape.proofs.Idents.{known_among, among_known}
use Rattle.sm_shape.proofs.ListWords.{all_among, among_all}
use Rattle.sm_shape.proofs.TagsLemmas.{blank_at, at_blank}
use Rattle.sm_fit.specs.Maps.{map_of}
use Rattle.sm_fit.specs.Tables.{is_new}
use Rattle.sm_fit.specs.Shipped.{MapAgrees, LegAgrees, IsThere, SourceFits, MirrorLegFits, MirrorFirst, MirrorFits, ShippedFits}
use Rattle.sm_fit.proofs.BlankLemmas.{map_in, in_map_of, image_found, once_found}
use Rattle.sm_fit.proofs.TableLemmas.{cost_counted}
use Rattle.sm_fit.proofs.FirstLemmas.{Bounded, Costs, bounded_fits, fits_bounded, first_fit}

-- maps that a table does not tell apart agree, and the other way round
module _ (most : ℕ) (table : List ℕ) (ds : List WorldSnapshot) (is : IsTableOf most table (flat_map one_map ds)) (s : WorldSnapshot) where
  pub agrees : (t : WorldSnapshot) → Among ds t → MapAgrees table s.map.items → Agree (blank_snapshot s) (blank_snapshot t)
  agrees t a free p q b c sb tc same nz =
      let x = blank_at s.map.items p b sb in
      let y = blank_at t.map.items q c tc in
      let here : get_or s.map.items p 0 ≡ b.tag = ap (λ (z : Block). z.tag) (sym x.is) in
      let there : get_or t.map.items q 0 ≡ b.tag = ap (λ (z : Block). z.tag) (sym y.is) ∙ sym same in
      let stood = is.kept b.tag q nz (record { in_map = t.map.items; is_map = map_in ds t a; in_range = y.in_range; here = there }) in
      let at : get_or table (get_or s.map.items p 0) 0 ≡ q + 1 = ap (λ n. get_or table n 0) here ∙ stood in
      let place : get_or table (get_or s.map.items p 0) 0 ≡ p + 1 = free p 0 x.in_range (λ z. nz (sym here ∙ z)) (λ z. absurd (omega (arith, at, z))) in
      (omega (arith, at, place), x.is ∙ ap blank_block (here ∙ sym there) ∙ sym y.is)

  pub from_agree : ((t : WorldSnapshot) → Among ds t → Agree (blank_snapshot s) (blank_snapshot t)) → MapAgrees table s.map.items
  from_agree all k d lt full marked =
      let n = get_or s.map.items k d in
      let c = is.came n (omega (arith, marked)) in
      let t = in_map_of ds c.1.in_map c.1.is_map in
      let at : slice_get (blank_image s.map.items) k ≡ Some (blank_block n) = at_blank s.map.items k lt ∙ ap (λ m. Some (blank_block m)) (get_or_default s.map.items k 0 d lt) in
      let there : slice_get (blank_image t.0.map.items) c.0 ≡ Some (blank_block n) =
      subst (λ (m : List ℕ). slice_get (blank_image m) c.0 ≡ Some (blank_block n)) t.2 (at_blank c.1.in_map c.0 c.1.in_range ∙ ap (λ m. Some (blank_block m)) c.1.here) in
      let place : k ≡ c.0 = (all t.0 t.1 k c.0 (blank_block n) (blank_block n) at there refl full).0 in
      c.2 ∙ ap (λ m. m + 1) (sym place)

module _ (x : Running) (most : ℕ) (table : List ℕ) (ss ds : List WorldSnapshot)
    (is : IsTableOf most table (flat_map one_map ds)) (source : map blank_snapshot ss ≡ x.source.snapshots) (destination : map blank_snapshot ds ≡ x.destination.snapshots)
    (mirror : is_mirror x.policy.kind ≡ true) (one : OnePlace (flat_map one_map ss)) where
  source_fits : SourceFits x.transfer.legs table ss → FitsSource x
  source_fits f = record {
    there = λ i a. ap (λ l. has l i) (sym source) ∙ all_among (IsThere ss) x.transfer.legs f.there i a;
    agree = λ s t sa leg ta.
        let u = from_map blank_snapshot ss s (subst (λ l. Among l s) (sym source) sa) in
        let v = from_map blank_snapshot ds t (subst (λ l. Among l t) (sym destination) ta) in
        let own : Among x.transfer.legs u.0.ident = subst (λ (z : Snapshot). Among x.transfer.legs z.ident) u.2 leg in
        let fits = agrees most table ds is u.0 v.0 v.1 (all_among (LegAgrees x.transfer.legs table) ss f.agree u.0 u.1 (known_among x.transfer.legs u.0.ident own)) in
        subst (λ (z : Snapshot). Agree z t) (sym u.2) (subst (λ (z : Snapshot). Agree (blank_snapshot u.0) z) (sym v.2) fits);
  }

  fits_source : FitsSource x → SourceFits x.transfer.legs table ss
  fits_source f = record {
    there = among_all (IsThere ss) x.transfer.legs (λ i a. ap (λ l. has l i) source ∙ f.there i a);
    agree = among_all (LegAgrees x.transfer.legs table) ss (λ s a leg.
        from_agree most table ds is s (λ t b.
        f.agree (blank_snapshot s) (blank_snapshot t)
        (subst (λ l. Among l (blank_snapshot s)) source (among_map blank_snapshot ss s a))
        (among_known x.transfer.legs s.ident leg)
        (subst (λ l. Among l (blank_snapshot t)) destination (among_map blank_snapshot ds t b))));
  }

  costs : (i : Ident) → Costs x i (count_by (is_new table) (map_of ss i))
  costs i leg e =
      let image : leg.image ≡ blank_image (map_of ss i) = ap image_or_none (sym e) ∙ ap (λ l. image_or_none (snapshot_of l (Some i))) (sym source) ∙ image_found ss i in
      ap (λ b. cond b (mirror_cost leg.image x.destination.snapshots) (vault_cost leg.image (bases x))) mirror
      ∙ ap (λ l. mirror_cost l x.destination.snapshots) image
      ∙ ap (mirror_cost (blank_image (map_of ss i))) (sym destination)
      ∙ cost_counted most table (map_of ss i) ds is (once_found ss i one)

  leg_bounded : (i : Ident) → MirrorLegFits x.transfer table ss i → Bounded x ss i (count_by (is_new table) (map_of ss i))
  leg_bounded i f = record { there = f.there; within = f.within; room = λ vault. absurd (both_ways (is_mirror x.policy.kind) vault mirror) }

  first_fits : (legs : List Ident) → MirrorFirst x.transfer table ss ds legs ↔ FirstFits x legs
  first_fits [] = (λ f. f, λ f. f)
  first_fits (i ∷ is) = first_fit x ds destination i is (
    λ f. bounded_fits x ss source i (count_by (is_new table) (map_of ss i)) (costs i) (leg_bounded i f),
    λ f. let b = fits_bounded x ss source i (count_by (is_new table) (map_of ss i)) (costs i) f in record { there = b.there; within = b.within },
  )

  pub mirror_shipped : MirrorFits x.transfer table ss ds ↔ ShippedFits x
  mirror_shipped = (
    λ f. record {
      mirror = λ _ checked. source_fits (f.checked checked);
      fresh = λ _. f.fresh;
      first = (first_fits x.transfer.legs).0 f.first;
    },
    λ f. record {
      checked = λ checked. fits_source (f.mirror mirror checked);
      fresh = f.fresh mirror;
      first = (first_fits x.transfer.legs).1 f.first;
    },
  )
