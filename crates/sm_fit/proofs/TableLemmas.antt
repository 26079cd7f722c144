-- What a table says of the numbers that stand in its maps.
use Rattle.std.proofs.Common.{◌≡◌, ◌≢◌, ℕ, suc, ◌+◌, ◌<◌, ◌==◌, ◌&&◌, not, Bool, true, false, List, [], ◌∷◌, ◌++◌, length, get_or, take, drop, map, filter, count_by, refl, sym, ap, ◌∙◌, inl, inr, append-nil, arith}
use Rattle.std.specs.List.{flat_map}
use Rattle.std.proofs.lemmas.Bool.{cases_Bool, cases_eq, both_ways}
use Rattle.std.proofs.lemmas.Bool.Decides.{nat_tests}
use Rattle.std.proofs.lemmas.List.{get_or-drop, length-drop, drop_all, take_all}
use Rattle.std.proofs.lemmas.List.Elements.{filter_agree}
use Rattle.std.proofs.lemmas.List.Sums.{length-filter}
use Rattle.sm_defs.specs.Image.{Image, tags, stands, distinct}
use Rattle.sm_defs.specs.Missing.{ascending, is_missing_tag, mirror_cost}
use Rattle.sm_defs.specs.Volume.{used}
use Rattle.sm_defs.proofs.Members.{among_stands, among_left, among_right, among_append}
use Rattle.sm_model.specs.declared.world.WorldSnapshot.{WorldSnapshot}
use Rattle.sm_model.specs.declared.world.WorldVolume.{WorldVolume}
use Rattle.sm_shape.specs.Blank.{blank_image, blank_snapshot, blank_volume}
use Rattle.sm_shape.specs.Marks.{AtOnePlace, IsTableOf, TakesMaps, one_map, maps_of}
use Rattle.sm_shape.proofs.Tables.{one_within, table_same}
use Rattle.sm_shape.proofs.TagsLemmas.{images_are}
use Rattle.sm_shape.proofs.TakesSteps.{Within}
use Rattle.sm_fit.specs.Tables.{is_marked, is_new}
use Rattle.sm_fit.proofs.Counted.{OnceIn, Marks, once_long, distinct_marked}
use Rattle.sm_fit.proofs.BlankLemmas.{stands_tag, tag_stands}
use Rattle.sm_shape.proofs.FamiliesLemmas.{tags_blank}
use Rattle.sm_shape.proofs.TagsLemmas.{blank_images}

abbrev all_tags : List (List ℕ) → List ℕ
all_tags maps = flat_map tags (map blank_image maps)

-- the maps are taken, since they are at one place beside those before
pub taken : (most : ℕ) (old new : List ℕ) (maps seen : List (List ℕ)) (b : Bool) → TakesMaps most old new maps b → IsTableOf most old seen → AtOnePlace most (maps ++ seen) → IsTableOf most new (maps ++ seen)
taken most old new maps seen b takes is one = elim (cases_Bool b) [
  | inl good ↦ takes.joins good seen is
  | inr bad ↦ absurd (takes.differs bad seen is one)
]

-- the maps of a volume, one after the other
pub volume_taken : (most : ℕ) (before first second last : List ℕ) (active stable : List ℕ) (maps : List (List ℕ)) (a b c : Bool)
    → TakesMaps most before first (active ∷ []) a → TakesMaps most first second (stable ∷ []) b → TakesMaps most second last maps c
    → IsTableOf most before [] → AtOnePlace most (active ∷ stable ∷ maps) → IsTableOf most last (active ∷ stable ∷ maps)
volume_taken most before first second last active stable maps a b c takes_active takes_stable takes_maps empty one =
    let one_map = taken most before first (active ∷ []) [] a takes_active empty (one_within most (active ∷ []) (active ∷ stable ∷ maps) front one) in
    let two_maps = taken most first second (stable ∷ []) (active ∷ []) b takes_stable one_map (one_within most (stable ∷ active ∷ []) (active ∷ stable ∷ maps) both one) in
    let all_maps = taken most second last maps (stable ∷ active ∷ []) c takes_maps two_maps (one_within most (maps ++ stable ∷ active ∷ []) (active ∷ stable ∷ maps) back one) in
    table_same most last (maps ++ stable ∷ active ∷ []) (active ∷ stable ∷ maps) back there all_maps
  where
    front : Within (active ∷ []) (active ∷ stable ∷ maps)
    front m (inl e) = inl e
    front m (inr e) = absurd e

    both : Within (stable ∷ active ∷ []) (active ∷ stable ∷ maps)
    both m (inl e) = inr (inl e)
    both m (inr (inl e)) = inl e
    both m (inr (inr e)) = absurd e

    back : Within (maps ++ stable ∷ active ∷ []) (active ∷ stable ∷ maps)
    back m k = elim (among_append maps (stable ∷ active ∷ []) m k) [
      | inl i ↦ inr (inr i)
      | inr i ↦ both m i
    ]

    there : Within (active ∷ stable ∷ maps) (maps ++ stable ∷ active ∷ [])
    there m (inl e) = among_right maps (stable ∷ active ∷ []) m (inr (inl e))
    there m (inr (inl e)) = among_right maps (stable ∷ active ∷ []) m (inl e)
    there m (inr (inr k)) = among_left maps (stable ∷ active ∷ []) m k

-- a table that was lent whole and came back
pub lent : (len : ℕ) (new old : List ℕ) → length new ≡ length old → len ≡ length old → take len (new ++ drop (length new) old) ≡ new
lent len new old same long =
    let past : drop (length new) old ≡ [] = drop_all (length new) old (omega arith) in
    let whole : new ++ drop (length new) old ≡ new = ap (λ l. new ++ l) past ∙ append-nil new in
    ap (take len) whole ∙ take_all len new (omega arith)

module _ (most : ℕ) (table : List ℕ) (maps : List (List ℕ)) (is : IsTableOf most table maps) where
  pub marked_stands : (n : ℕ) → n ≢ 0 → is_marked (get_or table n 0) ≡ stands n (all_tags maps)
  marked_stands n nz = elim (cases_Bool (stands n (all_tags maps))) [
    | inl stood ↦
        let t = tag_stands maps n stood in
        let at = is.kept n t.0 nz t.1 in
        let marked : is_marked (get_or table n 0) ≡ true = grind (arith, nat_tests) in
        marked ∙ sym stood
    | inr free ↦ elim (cases_eq (get_or table n 0) 0) [
      | inl none ↦
          let unmarked : is_marked (get_or table n 0) ≡ false = grind (arith, nat_tests) in
          unmarked ∙ sym free
      | inr some ↦
          let c = is.came n (omega (arith, some)) in
          absurd (both_ways (stands n (all_tags maps)) free (stands_tag maps n c.0 c.1))
    ]
  ]

  pub new_is : (n : ℕ) → is_new table n ≡ (not (n == 0) && not (stands n (all_tags maps)))
  new_is n = elim (cases_eq n 0) [
    | inl hole ↦ let e : (n == 0) ≡ true = grind (arith, nat_tests) in rw e refl
    | inr full ↦
        let e : (n == 0) ≡ false = grind (arith, nat_tests) in
        rw (e, ← marked_stands n full) (twice (get_or table n 0 == 0))
  ]
    where
      twice : (b : Bool) → b ≡ not (not b)
      twice true = refl
      twice false = refl

  -- the entries behind that of 0
  pub entries_mark : 0 < most → AtOnePlace most maps → Marks (drop 1 table) (all_tags maps)
  entries_mark some one = record {
    small = λ t a. elim (cases_eq t 0) [
      | inl hole ↦ omega arith
      | inr full ↦
          let s = tag_stands maps t (among_stands t (all_tags maps) a) in
          omega (arith, one.in_range t s.0 full s.1, is.long, length-drop 1 table)
    ];
    marks = λ k lt. ap is_marked (at k) ∙ marked_stands (suc k) (λ e. absurd (omega (arith, e)));
  }
    where
      at : (k : ℕ) → get_or (drop 1 table) k 0 ≡ get_or table (suc k) 0
      at k = get_or-drop 1 table k 0 ∙ ap (λ n. get_or table n 0) (let e : 1 + k ≡ suc k = omega arith in e)

-- what a mirror still has to ship of a leg
pub cost_counted : (most : ℕ) (table m : List ℕ) (ds : List WorldSnapshot) → IsTableOf most table (flat_map one_map ds) → OnceIn m
    → mirror_cost (blank_image m) (map blank_snapshot ds) ≡ count_by (is_new table) m
cost_counted most table m ds is once =
    ap (λ ts. length (ascending (filter (is_missing_tag (map blank_snapshot ds)) ts))) (tags_blank m)
    ∙ (ap (λ l. length (ascending l)) (sym (filter_agree (is_new table) (is_missing_tag (map blank_snapshot ds)) same m))
    ∙ (once_long (is_new table) refl m once ∙ length-filter (is_new table) m))
  where
    same : (n : ℕ) → is_new table n ≡ is_missing_tag (map blank_snapshot ds) n
    same n = new_is most table (flat_map one_map ds) is n ∙ ap (λ (l : List Image). not (n == 0) && not (stands n (flat_map tags l))) (sym (blank_images ds))

pub used_counted : (v : WorldVolume) (table : List ℕ) → IsTableOf (v.physical + 1) table (maps_of v) → AtOnePlace (v.physical + 1) (maps_of v) → used (blank_volume v) ≡ count_by is_marked (drop 1 table)
used_counted v table is one =
    ap (λ l. distinct (flat_map tags l)) (images_are v) ∙ distinct_marked (all_tags (maps_of v)) (drop 1 table) (entries_mark (v.physical + 1) table (maps_of v) is (omega arith) one)
