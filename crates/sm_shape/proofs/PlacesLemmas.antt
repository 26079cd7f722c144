-- Maps of a read-only volume, as the definitions speak of its images.
use Rattle.std.proofs.Common.{◌≡◌, ◌≢◌, ◌↔◌, ℕ, ◌<◌, List, [], ◌∷◌, length, get_or, map, refl, sym, ap, subst, ◌∙◌, inl, inr}
use Rattle.std.specs.List.{All, flat_map}
use Rattle.std.proofs.lemmas.List.{get_or_default}
use Rattle.sm_defs.specs.Words.{Among}
use Rattle.sm_defs.specs.Image.{Block, hole, tags}
use Rattle.sm_defs.specs.Volume.{Snapshot}
use Rattle.sm_model.specs.DestinationsStand.{StandsAtSnapshot}
use Rattle.sm_model.specs.declared.world.WorldSnapshot.{WorldSnapshot}
use Rattle.sm_model.specs.declared.world.WorldVolume.{WorldVolume}
use Rattle.sm_shape.specs.Blank.{zeros, blank_block, blank_image, blank_snapshot, blank_volume}
use Rattle.sm_defs.specs.Places.{StandsAt}
use Rattle.sm_shape.specs.Marks.{one_map, maps_of}
use Rattle.sm_shape.specs.Places.{HasMap}
use Rattle.sm_defs.proofs.Members.{among_map, from_map}
use Rattle.sm_shape.proofs.TagsLemmas.{stored_stands, stands_stored}
use Rattle.sm_shape.proofs.FamiliesLemmas.{tags_blank}

pub hole_is : hole ≡ blank_block 0
unfolding hole zeros
hole_is = refl

pub same_maps : (ms ns : List ℕ) → blank_image ms ≡ blank_image ns → ms ≡ ns
same_maps ms ns e = sym (tags_blank ms) ∙ ap tags e ∙ tags_blank ns

some_snapshots : (ss : List WorldSnapshot) → map blank_snapshot ss ≢ [] → ss ≢ []
some_snapshots [] some e = some refl
some_snapshots (s ∷ ss) some e = absurd cc

pub no_snapshots : (ss : List WorldSnapshot) → map blank_snapshot ss ≡ [] → ss ≡ []
no_snapshots [] e = refl
no_snapshots (s ∷ ss) e = absurd cc

pub nil_image : (ss : List WorldSnapshot) → ss ≡ [] → map blank_snapshot ss ≡ []
nil_image ss e = ap (map blank_snapshot) e

module _ (v : WorldVolume) where
  pub blank_of : v.snapshots.items ≡ [] → (All (λ n. n ≡ 0) v.active.items × All (λ n. n ≡ 0) v.stable.items) ↔ StandsAtSnapshot (blank_volume v)
  blank_of none = (
    λ both. record {
      blank = λ _ p b st. let m = stored_stands v p b st in m.is ∙ ap blank_block (zero_at both p b.tag m.stands) ∙ sym hole_is;
      still = λ some. absurd (some (nil_image v.snapshots.items none));
      at = λ some. absurd (some (nil_image v.snapshots.items none));
    },
    λ stands. (
      λ k d lt. is_zero stands k (get_or v.active.items k d) (record { in_map = v.active.items; is_map = inl refl; in_range = lt; here = get_or_default v.active.items k 0 d lt }),
      λ k d lt. is_zero stands k (get_or v.stable.items k d) (record { in_map = v.stable.items; is_map = inr (inl refl); in_range = lt; here = get_or_default v.stable.items k 0 d lt }),
    ),
  )
    where
      zero_in : (All (λ n. n ≡ 0) v.active.items × All (λ n. n ≡ 0) v.stable.items) → (m : List ℕ) → Among (maps_of v) m → (p : ℕ) → p < length m → get_or m p 0 ≡ 0
      zero_in both m (inl same) p lt = subst (λ (x : List ℕ). get_or x p 0 ≡ 0) (sym same) (both.0 p 0 (subst (λ (x : List ℕ). p < length x) same lt))
      zero_in both m (inr (inl same)) p lt = subst (λ (x : List ℕ). get_or x p 0 ≡ 0) (sym same) (both.1 p 0 (subst (λ (x : List ℕ). p < length x) same lt))
      zero_in both m (inr (inr later)) p lt = absurd (subst (λ ss. Among (flat_map one_map ss) m) none later)

      zero_at : (All (λ n. n ≡ 0) v.active.items × All (λ n. n ≡ 0) v.stable.items) → (p n : ℕ) → StandsAt (maps_of v) n p → n ≡ 0
      zero_at both p n a = sym a.here ∙ zero_in both a.in_map a.is_map p a.in_range

      is_zero : StandsAtSnapshot (blank_volume v) → (p n : ℕ) → StandsAt (maps_of v) n p → n ≡ 0
      is_zero stands p n a =
          let e : blank_block n ≡ hole = stands.blank (nil_image v.snapshots.items none) p (blank_block n) (stands_stored v n p a) in
          ap (λ (b : Block). b.tag) (e ∙ hole_is)

  pub still_of : v.snapshots.items ≢ [] → ((v.stable.items ≡ v.active.items) × HasMap v.snapshots.items v.active.items) ↔ StandsAtSnapshot (blank_volume v)
  still_of some = (
    λ both. record {
      blank = λ none. absurd (some (no_snapshots v.snapshots.items none));
      still = λ _. ap blank_image both.0;
      at = λ _. (blank_snapshot both.1.0, among_map blank_snapshot v.snapshots.items both.1.0 both.1.1, ap blank_image both.1.2);
    },
    λ stands.
        let full : map blank_snapshot v.snapshots.items ≢ [] = λ e. some (no_snapshots v.snapshots.items e) in
        let at = stands.at full in
        let s = from_map blank_snapshot v.snapshots.items at.0 at.1 in
        (same_maps v.stable.items v.active.items (stands.still full), (s.0, s.1, same_maps v.active.items s.0.map.items (at.2 ∙ ap (λ (t : Snapshot). t.image) s.2))),
  )
