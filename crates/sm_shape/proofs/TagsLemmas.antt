-- The maps of a volume, as the images of blocks of zeros.
use Rattle.std.proofs.Common.{◌≡◌, ℕ, zero, suc, ◌+◌, ◌<◌, ◌≤◌, List, [], ◌∷◌, length, get_or, map, refl, sym, ap, subst, ◌∙◌, arith}
use Rattle.std.specs.Prelude.{Some, slice_get}
use Rattle.std.specs.List.{flat_map}
use Rattle.sm_defs.specs.Words.{Among, KeysDiffer}
use Rattle.sm_defs.specs.Image.{Block, Image}
use Rattle.sm_defs.specs.Volume.{images_of, image_of, ident_of}
use Rattle.sm_model.specs.Standing.{Stored}
use Rattle.sm_model.specs.TagsFit.{TagsFitIn}
use Rattle.sm_model.specs.declared.world.WorldSnapshot.{WorldSnapshot}
use Rattle.sm_model.specs.declared.world.WorldVolume.{WorldVolume}
use Rattle.sm_shape.specs.Blank.{blank_block, blank_image, blank_snapshot, blank_volume}
use Rattle.sm_defs.specs.Places.{StandsAt}
use Rattle.sm_shape.specs.Marks.{AtOnePlace, one_map, maps_of}
use Rattle.sm_defs.proofs.Members.{among_map, from_map}

pub blank_images : (ss : List WorldSnapshot) → map image_of (map blank_snapshot ss) ≡ map blank_image (flat_map one_map ss)
blank_images [] = refl
blank_images (s ∷ ss) = ap (λ l. blank_image s.map.items ∷ l) (blank_images ss)

pub images_are : (v : WorldVolume) → images_of (blank_volume v) ≡ map blank_image (maps_of v)
images_are v = ap (λ l. blank_image v.active.items ∷ blank_image v.stable.items ∷ l) (blank_images v.snapshots.items)

pub record BlankAt (ns : List ℕ) (p : ℕ) (b : Block) : Type 0 where
  pub in_range : p < length ns
  pub is : b ≡ blank_block (get_or ns p 0)

pub blank_at : (ns : List ℕ) (p : ℕ) (b : Block) → slice_get (blank_image ns) p ≡ Some b → BlankAt ns p b
blank_at [] p b e = absurd cc
blank_at (n ∷ ns) zero b e = record { in_range = omega arith; is = cc }
blank_at (n ∷ ns) (suc p) b e = let t = blank_at ns p b e in record { in_range = omega (arith, t.in_range); is = t.is }

pub at_blank : (ns : List ℕ) (p : ℕ) → p < length ns → slice_get (blank_image ns) p ≡ Some (blank_block (get_or ns p 0))
at_blank [] p lt = absurd (omega arith)
at_blank (n ∷ ns) zero lt = refl
at_blank (n ∷ ns) (suc p) lt = at_blank ns p (omega arith)

pub record MarkedBlock (v : WorldVolume) (p : ℕ) (b : Block) : Type 0 where
  pub stands : StandsAt (maps_of v) b.tag p
  pub is : b ≡ blank_block b.tag

pub stored_stands : (v : WorldVolume) (p : ℕ) (b : Block) → Stored (blank_volume v) p b → MarkedBlock v p b
stored_stands v p b st =
    let f = from_map blank_image (maps_of v) st.0 (subst (λ l. Among l st.0) (images_are v) st.1) in
    let t = blank_at f.0 p b (subst (λ (i : Image). slice_get i p ≡ Some b) f.2 st.2) in
    let tag : get_or f.0 p 0 ≡ b.tag = ap (λ (x : Block). x.tag) (sym t.is) in
    record {
      stands = record { in_map = f.0; is_map = f.1; in_range = t.in_range; here = tag };
      is = t.is ∙ ap blank_block tag;
    }

pub stands_stored : (v : WorldVolume) (n p : ℕ) → StandsAt (maps_of v) n p → Stored (blank_volume v) p (blank_block n)
stands_stored v n p a =
    let there : Among (images_of (blank_volume v)) (blank_image a.in_map) = subst (λ l. Among l (blank_image a.in_map)) (sym (images_are v)) (among_map blank_image (maps_of v) a.in_map a.is_map) in
    (blank_image a.in_map, there, at_blank a.in_map p a.in_range ∙ ap (λ n. Some (blank_block n)) a.here)

pub tags_fit_of : (v : WorldVolume) → AtOnePlace (v.physical + 1) (maps_of v) → KeysDiffer ident_of (blank_volume v).snapshots → TagsFitIn (blank_volume v)
tags_fit_of v one differ = record {
  one_place = λ p q b c sb sc same nz.
      let x = stored_stands v p b sb in
      let y = stored_stands v q c sc in
      let there : StandsAt (maps_of v) b.tag q = subst (λ (n : ℕ). StandsAt (maps_of v) n q) (sym same) y.stands in
      (one.one_place b.tag p q nz x.stands there, x.is ∙ ap blank_block same ∙ sym y.is);
  in_range = λ p b sb. small p b.tag (stored_stands v p b sb).stands;
  idents_differ = differ;
}
  where
    small : (p n : ℕ) → StandsAt (maps_of v) n p → n ≤ v.physical
    small p zero a = omega arith
    small p (suc n) a = omega (arith, one.in_range (suc n) p (λ z. absurd (omega (arith, z))) a)

pub of_tags_fit : (v : WorldVolume) → TagsFitIn (blank_volume v) → AtOnePlace (v.physical + 1) (maps_of v)
of_tags_fit v fit = record {
  one_place = λ n p q nz a b. (fit.one_place p q (blank_block n) (blank_block n) (stands_stored v n p a) (stands_stored v n q b) refl nz).0;
  in_range = λ n p nz a. omega (arith, fit.in_range p (blank_block n) (stands_stored v n p a));
}
