-- The numbers of a map are marked part by part in place of those of another.
use Rattle.std.proofs.Common.{◌≡◌, ℕ, zero, suc, ◌+◌, ◌<◌, ◌≤◌, List, [], ◌∷◌, length, get_or, take, drop, Bool, true, false, not, ◌||◌, ◌&&◌, inl, inr, refl, sym, ◌∙◌, ap, subst, arith}
use Rattle.std.proofs.lemmas.Bool.{false≢true}
use Rattle.std.proofs.lemmas.List.{take-append-drop}
use Rattle.std.proofs.Math.Seq.{get_or-take, get_or-drop, drop-drop, take-add}
use Rattle.sm_defs.specs.Image.{stands}
use Rattle.volume_store.specs.Maps.{OnePlace}
use Rattle.volume_store.proofs.PutLemmas.{where_it_stands}
use Rattle.volume_store.proofs.MapLemmas.{part_inside, rest_inside, stands-append}

-- the numbers of a part are as small as all
pub slice_inside : (bound at k : ℕ) (xs : List ℕ) → ((i : ℕ) → get_or xs i 0 < bound) → (i : ℕ) → get_or (take k (drop at xs)) i 0 < bound
slice_inside bound at k xs inside i =
    part_inside bound (take k (drop at xs)) (drop k (drop at xs)) (drop at xs) (sym (take-append-drop k (drop at xs)))
    (λ j. rest_inside bound (take at xs) (drop at xs) xs (sym (take-append-drop at xs)) inside j) i

take_short : (k : ℕ) (xs : List ℕ) → length (take k xs) ≤ k
take_short zero xs = omega arith
take_short (suc k) [] = omega arith
take_short (suc k) (x ∷ xs) = let h = take_short k xs in omega (arith, h)

-- where a number of the first places stands
stands_first : (n at : ℕ) (xs : List ℕ) → stands n (take at xs) ≡ true → (i : ℕ) × (i < at) × (get_or xs i 0 ≡ n)
stands_first n at xs is =
    let there = where_it_stands (take at xs) n is in
    let less : there.0 < at = (let a = there.1 in let b = take_short at xs in omega (arith, a, b)) in
    (there.0, less, sym (get_or-take at xs there.0 0 less) ∙ there.2)

-- where one of the later places does
stands_later : (n at : ℕ) (xs : List ℕ) → stands n (drop at xs) ≡ true → (i : ℕ) × (get_or xs (at + i) 0 ≡ n)
stands_later n at xs is =
    let there = where_it_stands (drop at xs) n is in
    (there.0, sym (get_or-drop at xs there.0 0) ∙ there.2)

-- where one of a part does
stands_between : (n at k : ℕ) (xs : List ℕ) → stands n (take k (drop at xs)) ≡ true → (i : ℕ) × (i < k) × (get_or xs (at + i) 0 ≡ n)
stands_between n at k xs is =
    let there = stands_first n k (drop at xs) is in
    (there.0, there.1, sym (get_or-drop at xs there.0 0) ∙ there.2)

-- a number of a part is as small as all
pub part_number : (bound n at k : ℕ) (xs : List ℕ) → ((i : ℕ) → get_or xs i 0 < bound) → stands n (take k (drop at xs)) ≡ true → n < bound
part_number bound n at k xs inside is =
    let there = stands_between n at k xs is in
    subst (λ (m : ℕ). m < bound) there.2 (inside (at + there.0))

not_true : (b : Bool) → (b ≡ true → false ≡ true) → b ≡ false
not_true true h = sym (h refl)
not_true false h = refl

later_is : (n at k : ℕ) (xs : List ℕ) → stands n (drop at xs) ≡ (stands n (take k (drop at xs)) || stands n (drop (at + k) xs))
later_is n at k xs =
    ap (stands n) (sym (take-append-drop k (drop at xs))) ∙ stands-append n (take k (drop at xs)) (drop k (drop at xs))
    ∙ ap (λ (l : List ℕ). stands n (take k (drop at xs)) || stands n l) (drop-drop k at xs)

first_is : (n at k : ℕ) (xs : List ℕ) → stands n (take (at + k) xs) ≡ (stands n (take at xs) || stands n (take k (drop at xs)))
first_is n at k xs = ap (stands n) (take-add at k xs) ∙ stands-append n (take at xs) (take k (drop at xs))

-- the marks once a part has gone and another has come
merged : (first gone rest come : Bool) → (gone ≡ true → first ≡ false) → (gone ≡ true → rest ≡ false)
    → (((first || (gone || rest)) && not gone) || come) ≡ ((first || come) || rest)
merged true true rest come apart behind = absurd (false≢true (sym (apart refl)))
merged false true true come apart behind = absurd (false≢true (sym (behind refl)))
merged false true false true apart behind = refl
merged false true false false apart behind = refl
merged true false rest come apart behind = refl
merged false false true true apart behind = refl
merged false false true false apart behind = refl
merged false false false true apart behind = refl
merged false false false false apart behind = refl

module _ (before new : List ℕ) (place : OnePlace (before ∷ new ∷ [])) (at k n : ℕ) (some : 1 ≤ n) where
  apart : stands n (take k (drop at before)) ≡ true → stands n (take at new) ≡ false
  apart is = not_true (stands n (take at new)) (λ stood.
      let here = stands_between n at k before is in
      let there = stands_first n at new stood in
      let full : 0 < get_or before (at + here.0) 0 = (let e = here.2 in omega (arith, e, some)) in
      let same : at + here.0 ≡ there.0 = place before new (at + here.0) there.0 (inl refl) (inr (inl refl)) (here.2 ∙ sym there.2) full in
      absurd (let less = there.1 in omega (arith, same, less)))

  behind : stands n (take k (drop at before)) ≡ true → stands n (drop (at + k) before) ≡ false
  behind is = not_true (stands n (drop (at + k) before)) (λ stood.
      let here = stands_between n at k before is in
      let there = stands_later n (at + k) before stood in
      let full : 0 < get_or before (at + here.0) 0 = (let e = here.2 in omega (arith, e, some)) in
      let same : at + here.0 ≡ at + k + there.0 = place before before (at + here.0) (at + k + there.0) (inl refl) (inl refl) (here.2 ∙ sym there.1) full in
      absurd (let less = here.1 in omega (arith, same, less)))

  -- a part more is marked
  pub part_marked : (old marked : Bool) → old ≡ (stands n (take at new) || stands n (drop at before))
      → marked ≡ ((old && not (stands n (take k (drop at before)))) || stands n (take k (drop at new)))
      → marked ≡ (stands n (take (at + k) new) || stands n (drop (at + k) before))
  part_marked old marked was is =
      is ∙ ap (λ b. (b && not (stands n (take k (drop at before)))) || stands n (take k (drop at new))) (was ∙ ap (λ b. stands n (take at new) || b) (later_is n at k before))
      ∙ merged (stands n (take at new)) (stands n (take k (drop at before))) (stands n (drop (at + k) before)) (stands n (take k (drop at new))) apart behind
      ∙ ap (λ b. b || stands n (drop (at + k) before)) (sym (first_is n at k new))

-- a number of the part that is to go is marked
pub part_stands : (n at k : ℕ) (before new : List ℕ) (old : Bool) → old ≡ (stands n (take at new) || stands n (drop at before)) → stands n (take k (drop at before)) ≡ true → old ≡ true
part_stands n at k before new old was is =
    was ∙ ap (λ b. stands n (take at new) || b) (later_is n at k before ∙ ap (λ b. b || stands n (drop (at + k) before)) is) ∙ or_true (stands n (take at new))
  where
    or_true : (a : Bool) → (a || true) ≡ true
    or_true true = refl
    or_true false = refl
