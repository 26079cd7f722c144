-- Maps of numbers, as images of blocks of zeros.
use Rattle.std.proofs.Common.{◌≡◌, ℕ, ◌+◌, Bool, true, false, cond, List, [], ◌∷◌, length, get_or, map, find, refl, sym, ap, subst, ◌∙◌, inl, inr, arith}
use Rattle.std.specs.Prelude.{Option, Some, None, slice_get, option_map}
use Rattle.std.specs.List.{flat_map}
use Rattle.std.proofs.lemmas.Bool.{cases_lt, both_ways}
use Rattle.std.proofs.lemmas.List.{get_or_past}
use Rattle.sm_base.specs.declared.numbers.Ident.{Ident}
use Rattle.sm_defs.specs.Words.{Among, same_ident}
use Rattle.sm_defs.specs.Image.{Block, Image, tags, stands}
use Rattle.sm_defs.specs.Places.{StandsAt, OnePlace}
use Rattle.sm_defs.specs.Volume.{Volume, Snapshot, image_of, images_of, has, no_volume}
use Rattle.sm_defs.specs.World.{Up, volume_at}
use Rattle.sm_defs.proofs.Members.{among_map, among_flat, from_flat, among_flat_map, from_flat_map, among_stands, stands_among, among_get_or}
use Rattle.sm_defs.proofs.Searches.{find_is, find_none}
use Rattle.sm_model.specs.Standing.{Stored}
use Rattle.sm_model.specs.TagsFit.{TagsFit, TagsFitIn}
use Rattle.sm_model.specs.Steps.{snapshot_of, image_or_none}
use Rattle.sm_model.specs.declared.world.WorldSnapshot.{WorldSnapshot}
use Rattle.sm_shape.specs.Blank.{blank_block, blank_image, blank_snapshot}
use Rattle.sm_shape.specs.Marks.{AtOnePlace, one_map}
use Rattle.sm_shape.proofs.ListWords.{among_index}
use Rattle.sm_shape.proofs.FamiliesLemmas.{tags_blank}
use Rattle.sm_shape.proofs.TagsLemmas.{at_blank}
use Rattle.sm_fit.specs.Maps.{numbers_in, map_of, base_map}
use Rattle.sm_fit.proofs.Counted.{OnceIn}

-- a number that stands at a place stands among the tags
pub stands_tag : (maps : List (List ℕ)) (n p : ℕ) → StandsAt maps n p → stands n (flat_map tags (map blank_image maps)) ≡ true
stands_tag maps n p a =
    let there : Among a.in_map n = subst (Among a.in_map) a.here (among_get_or a.in_map p 0 a.in_range) in
    among_stands n (flat_map tags (map blank_image maps)) (among_flat_map tags blank_image maps a.in_map n a.is_map (subst (λ l. Among l n) (sym (tags_blank a.in_map)) there))

pub tag_stands : (maps : List (List ℕ)) (n : ℕ) → stands n (flat_map tags (map blank_image maps)) ≡ true → (p : ℕ) × StandsAt maps n p
tag_stands maps n e =
    let f = from_flat_map tags blank_image maps n (stands_among n (flat_map tags (map blank_image maps)) e) in
    let t = among_index f.0 0 n (subst (λ l. Among l n) (tags_blank f.0) f.2) in
    (t.at, record { in_map = f.0; is_map = f.1; in_range = t.in_range; here = t.is })

-- ---- snapshots by their maps

pub map_in : (ss : List WorldSnapshot) (s : WorldSnapshot) → Among ss s → Among (flat_map one_map ss) s.map.items
map_in ss s a = among_flat one_map ss s s.map.items a (inl refl)

pub in_map_of : (ss : List WorldSnapshot) (m : List ℕ) → Among (flat_map one_map ss) m → (s : WorldSnapshot) × Among ss s × (m ≡ s.map.items)
in_map_of ss m a = let f = from_flat one_map ss m a in (f.0, f.1, only m f.0.map.items f.2)
  where
    only : (m l : List ℕ) → Among (l ∷ []) m → m ≡ l
    only m l (inl e) = e
    only m l (inr e) = absurd e

find_blank : (i : Ident) (ss : List WorldSnapshot) → find (λ s. same_ident s.ident i) (map blank_snapshot ss) ≡ option_map blank_snapshot (find (λ s. same_ident s.ident i) ss)
find_blank i [] = refl
find_blank i (s ∷ ss) = go (same_ident s.ident i) (find_blank i ss)
  where
    go : (b : Bool) → find (λ s. same_ident s.ident i) (map blank_snapshot ss) ≡ option_map blank_snapshot (find (λ s. same_ident s.ident i) ss)
        → cond b (Some (blank_snapshot s)) (find (λ s. same_ident s.ident i) (map blank_snapshot ss)) ≡ option_map blank_snapshot (cond b (Some s) (find (λ s. same_ident s.ident i) ss))
    go true h = refl
    go false h = h

pub image_found : (ss : List WorldSnapshot) (i : Ident) → image_or_none (snapshot_of (map blank_snapshot ss) (Some i)) ≡ blank_image (map_of ss i)
image_found ss i = ap image_or_none (find_blank i ss) ∙ go (find (λ s. same_ident s.ident i) ss)
  where
    go : (o : Option WorldSnapshot) → image_or_none (option_map blank_snapshot o) ≡ blank_image (numbers_in o)
    go None = refl
    go (Some s) = refl

pub base_found : (ss : List WorldSnapshot) (base : Option Ident) → image_or_none (snapshot_of (map blank_snapshot ss) base) ≡ blank_image (base_map ss base)
base_found ss None = refl
base_found ss (Some i) = image_found ss i

-- its numbers stand once, as those of all maps at one place
pub once_found : (ss : List WorldSnapshot) (i : Ident) → OnePlace (flat_map one_map ss) → OnceIn (map_of ss i)
once_found ss i one = go (find (λ s. same_ident s.ident i) ss) refl
  where
    go : (o : Option WorldSnapshot) → find (λ s. same_ident s.ident i) ss ≡ o → OnceIn (numbers_in o)
    go None is = record { same = λ p q a b nz e. absurd (omega (arith, a)) }
    go (Some s) is = record {
      same = λ p q a b nz e.
          let there = map_in ss s (find_is (λ t. same_ident t.ident i) ss s is).0 in
          one (get_or s.map.items p 0) p q nz
          (record { in_map = s.map.items; is_map = there; in_range = a; here = refl })
          (record { in_map = s.map.items; is_map = there; in_range = b; here = sym e });
    }

-- ---- a volume's numbers

hollow : (image : Image) (p : ℕ) (b : Block) → image ≡ [] → slice_get image p ≡ Some b → ⊥
hollow [] p b e is = absurd cc
hollow (c ∷ cs) p b e is = absurd cc

nothing_stored : (p : ℕ) (b : Block) → Stored no_volume p b → ⊥
nothing_stored p b (image, inl e, is) = hollow image p b e is
nothing_stored p b (image, inr (inl e), is) = hollow image p b e is
nothing_stored p b (image, inr (inr a), is) = absurd a

no_tags : TagsFitIn no_volume
no_tags = record {
  one_place = λ p q b c sb. absurd (nothing_stored p b sb);
  in_range = λ p b sb. absurd (nothing_stored p b sb);
  idents_differ = tt;
}

pub tags_at : (w : Up) → TagsFit w → (i : ℕ) → TagsFitIn (volume_at w i)
tags_at w fit i = elim (cases_lt i (length w.volumes)) [
  | inl lt ↦ fit (volume_at w i) (among_get_or w.volumes i no_volume lt)
  | inr past ↦ subst TagsFitIn (sym (get_or_past w.volumes i no_volume past)) no_tags
]

pub stored_in : (v : Volume) (ss : List WorldSnapshot) → map blank_snapshot ss ≡ v.snapshots → (n p : ℕ) → StandsAt (flat_map one_map ss) n p → Stored v p (blank_block n)
stored_in v ss are n p a =
    let s = in_map_of ss a.in_map a.is_map in
    let there : Among v.snapshots (blank_snapshot s.0) = subst (λ l. Among l (blank_snapshot s.0)) are (among_map blank_snapshot ss s.0 s.1) in
    let image : Among (images_of v) (blank_image s.0.map.items) = inr (inr (among_map image_of v.snapshots (blank_snapshot s.0) there)) in
    (blank_image a.in_map, subst (λ (m : List ℕ). Among (images_of v) (blank_image m)) (sym s.2) image, at_blank a.in_map p a.in_range ∙ ap (λ n. Some (blank_block n)) a.here)

pub one_place_in : (v : Volume) (ss : List WorldSnapshot) → map blank_snapshot ss ≡ v.snapshots → TagsFitIn v → AtOnePlace (v.physical + 1) (flat_map one_map ss)
one_place_in v ss are fit = record {
  one_place = λ n p q nz a b. (fit.one_place p q (blank_block n) (blank_block n) (stored_in v ss are n p a) (stored_in v ss are n q b) refl nz).0;
  in_range = λ n p nz a. omega (arith, fit.in_range p (blank_block n) (stored_in v ss are n p a));
}
