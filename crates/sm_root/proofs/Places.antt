-- Numbers that were tested one after the other stand at one place each, and such numbers pass the tests.
use Rattle.std.proofs.Common.{◌≡◌, ◌≢◌, ℕ, zero, suc, ◌+◌, ◌^◌, ◌<◌, ◌≤◌, ◌==◌, ◌⊎◌, true, false, List, [], ◌∷◌, ◌++◌, length, get_or, refl, sym, ap, subst, ◌∙◌, arith, inl, inr, length-append}
use Rattle.std.specs.Prelude.{nat_le, Option, Some, None}
use Rattle.std.proofs.lemmas.Bool.{cases_eq, leb-true, le-leb, and_parts, and_from}
use Rattle.sm_defs.specs.Words.{Among}
use Rattle.sm_fields.specs.Format.{bits32}
use Rattle.sm_fields.specs.Grammar.{limit, AllInTurn}
use Rattle.sm_defs.specs.Places.{StandsAt, OnePlace}
use Rattle.sm_defs.proofs.Places.{wider}
use Rattle.sm_root.specs.Condition.{AllAtMost}
use Rattle.sm_root.specs.Spots.{Spot, place_of, with_spot, with_map, with_maps, is_place, may_stand}

abbrev pub Fit : ℕ → List Spot → ℕ → List ℕ → Type 0
Fit most seen place [] = Unit {0}
Fit most seen place (n ∷ ns) = (may_stand most seen place n ≡ true) × Fit most (with_spot seen place n) (suc place) ns

abbrev pub FitAll : ℕ → List Spot → List (List ℕ) → Type 0
FitAll most seen [] = Unit {0}
FitAll most seen (m ∷ ms) = Fit most seen 0 m × FitAll most (with_map seen 0 m) ms

abbrev some_of : ℕ → Option ℕ
some_of p = Some p

nonzero : (n : ℕ) → (suc n == 0) ≡ false
nonzero n = grind arith

same_some : (p q : ℕ) → some_of p ≡ some_of q → p ≡ q
same_some p q e = cc

-- ---- what passes stands at one place

passed : (most : ℕ) (seen : List Spot) (place n : ℕ) → may_stand most seen place (suc n) ≡ true → (suc n ≤ most) × (is_place (place_of seen (suc n)) place ≡ true)
passed most seen place n e =
    let both = and_parts (nat_le (suc n) most) (is_place (place_of seen (suc n)) place) (rw (nonzero n) at e) in
    (leb-true (suc n) most both.0, both.1)

is_at : (o : Option ℕ) (p place : ℕ) → is_place o place ≡ true → o ≡ Some p → p ≡ place
is_at None p place e is = absurd cc
is_at (Some q) p place e is = grind (arith, e, same_some q p is)

spot_kept : (most : ℕ) (seen : List Spot) (place m n p : ℕ) → may_stand most seen place m ≡ true → place_of seen n ≡ Some p → place_of (with_spot seen place m) n ≡ Some p
spot_kept most seen place zero n p e is = is
spot_kept most seen place (suc m) n p e is =
    elim (cases_eq (suc m) n) [
      | inl same ↦
          let here : (suc m == n) ≡ true = grind (arith, same) in
          let at : p ≡ place = is_at (place_of seen (suc m)) p place (passed most seen place m e).1 (subst (λ (x : ℕ). place_of seen x ≡ Some p) (sym same) is) in
          rw (nonzero m, here) (ap some_of (sym at))
      | inr other ↦
          let elsewhere : (suc m == n) ≡ false = grind (arith, other) in
          rw (nonzero m, elsewhere) is
    ]

map_kept : (most : ℕ) (seen : List Spot) (place : ℕ) (ns : List ℕ) (n p : ℕ) → Fit most seen place ns → place_of seen n ≡ Some p → place_of (with_map seen place ns) n ≡ Some p
map_kept most seen place [] n p fit is = is
map_kept most seen place (m ∷ ns) n p fit is = map_kept most (with_spot seen place m) (suc place) ns n p fit.1 (spot_kept most seen place m n p fit.0 is)

spot_here : (seen : List Spot) (place n : ℕ) → place_of (with_spot seen place (suc n)) (suc n) ≡ Some place
spot_here seen place n =
    let here : (suc n == suc n) ≡ true = grind arith in
    rw (nonzero n, here) refl

map_stands : (most : ℕ) (seen : List Spot) (place : ℕ) (ns : List ℕ) (i n : ℕ) → Fit most seen place ns → i < length ns → get_or ns i 0 ≡ suc n → (place_of (with_map seen place ns) (suc n) ≡ Some (place + i)) × (suc n ≤ most)
map_stands most seen place [] i n fit lt is = absurd (omega arith)
map_stands most seen place (m ∷ ns) zero n fit lt is =
    let tested : may_stand most seen place (suc n) ≡ true = subst (λ (x : ℕ). may_stand most seen place x ≡ true) is fit.0 in
    let here : place_of (with_spot seen place m) (suc n) ≡ Some place = subst (λ (x : ℕ). place_of (with_spot seen place x) (suc n) ≡ Some place) (sym is) (spot_here seen place n) in
    (map_kept most (with_spot seen place m) (suc place) ns (suc n) place fit.1 here ∙ ap some_of (omega arith), (passed most seen place n tested).0)
map_stands most seen place (m ∷ ns) (suc i) n fit lt is =
    let t = map_stands most (with_spot seen place m) (suc place) ns i n fit.1 (omega arith) is in
    (t.0 ∙ ap some_of (omega arith), t.1)

maps_kept : (most : ℕ) (seen : List Spot) (ms : List (List ℕ)) (n p : ℕ) → FitAll most seen ms → place_of seen n ≡ Some p → place_of (with_maps seen ms) n ≡ Some p
maps_kept most seen [] n p fit is = is
maps_kept most seen (m ∷ ms) n p fit is = maps_kept most (with_map seen 0 m) ms n p fit.1 (map_kept most seen 0 m n p fit.0 is)

maps_stand : (most : ℕ) (seen : List Spot) (ms : List (List ℕ)) (m : List ℕ) (n p : ℕ) → FitAll most seen ms → Among ms m → p < length m → get_or m p 0 ≡ suc n → (place_of (with_maps seen ms) (suc n) ≡ Some p) × (suc n ≤ most)
maps_stand most seen [] m n p fit among lt is = absurd among
maps_stand most seen (x ∷ ms) m n p fit (inl same) lt is =
    let fits : Fit most seen 0 m = subst (Fit most seen 0) (sym same) fit.0 in
    let t = map_stands most seen 0 m p n fits lt is in
    let here : place_of (with_map seen 0 x) (suc n) ≡ Some p = subst (λ y. place_of (with_map seen 0 y) (suc n) ≡ Some p) same (t.0 ∙ ap some_of (omega arith)) in
    (maps_kept most (with_map seen 0 x) ms (suc n) p fit.1 here, t.1)
maps_stand most seen (x ∷ ms) m n p fit (inr later) lt is = maps_stand most (with_map seen 0 x) ms m n p fit.1 later lt is

pub one_place_of : (most : ℕ) (ms : List (List ℕ)) → FitAll most [] ms → OnePlace ms
one_place_of most ms fit zero p q nonzero a b = absurd (nonzero refl)
one_place_of most ms fit (suc n) p q nonzero a b =
    let one = (maps_stand most [] ms a.in_map n p fit a.is_map a.in_range a.here).0 in
    let two = (maps_stand most [] ms b.in_map n q fit b.is_map b.in_range b.here).0 in
    same_some p q (sym one ∙ two)

pub at_most_of : (most : ℕ) (ms : List (List ℕ)) → FitAll most [] ms → AllAtMost ms most
at_most_of most ms fit zero p a = omega arith
at_most_of most ms fit (suc n) p a = (maps_stand most [] ms a.in_map n p fit a.is_map a.in_range a.here).1

-- ---- what stands at one place passes

record Came (ns : List ℕ) (place n q : ℕ) : Type 0 where
  index : ℕ
  in_range : index < length ns
  here : get_or ns index 0 ≡ n
  at : q ≡ place + index
  nonzero : n ≢ 0

came_from : (seen : List Spot) (place : ℕ) (ns : List ℕ) (n q : ℕ) → place_of (with_map seen place ns) n ≡ Some q → (place_of seen n ≡ Some q) ⊎ Came ns place n q
came_from seen place [] n q is = inl is
came_from seen place (zero ∷ ns) n q is =
    elim (came_from seen (suc place) ns n q is) [
      | inl before ↦ inl before
      | inr t ↦ inr (record { index = suc t.index; in_range = omega (arith, t.in_range); here = t.here; at = omega (arith, t.at); nonzero = t.nonzero })
    ]
came_from seen place (suc m ∷ ns) n q is =
    elim (came_from (with_spot seen place (suc m)) (suc place) ns n q is) [
      | inl before ↦
          elim (cases_eq (suc m) n) [
            | inl same ↦
                let test : (suc m == n) ≡ true = grind (arith, same) in
                let now : some_of place ≡ some_of q = rw (nonzero m, test) at before in
                inr (record { index = 0; in_range = omega arith; here = same; at = omega (arith, same_some place q now); nonzero = λ z. absurd (omega (arith, same, z)) })
            | inr other ↦
                let test : (suc m == n) ≡ false = grind (arith, other) in
                inl (rw (nonzero m, test) at before)
          ]
      | inr t ↦ inr (record { index = suc t.index; in_range = omega (arith, t.in_range); here = t.here; at = omega (arith, t.at); nonzero = t.nonzero })
    ]

is_place_of : (o : Option ℕ) (place : ℕ) → ((q : ℕ) → o ≡ Some q → q ≡ place) → is_place o place ≡ true
is_place_of None place at = refl
is_place_of (Some q) place at = grind (arith, at q refl)

fits_at_one : (most : ℕ) (seen : List Spot) (place : ℕ) (ns : List ℕ)
    → ((i : ℕ) → i < length ns → get_or ns i 0 ≤ most)
    → ((i q : ℕ) → i < length ns → get_or ns i 0 ≢ 0 → place_of seen (get_or ns i 0) ≡ Some q → q ≡ place + i)
    → ((i j : ℕ) → i < length ns → j < length ns → get_or ns i 0 ≢ 0 → get_or ns i 0 ≡ get_or ns j 0 → i ≡ j)
    → Fit most seen place ns
fits_at_one most seen place [] bounded agrees own = tt
fits_at_one most seen place (zero ∷ ns) bounded agrees own = (
  refl,
  fits_at_one most seen (suc place) ns (λ i lt. bounded (suc i) (omega arith)) (λ i q lt nz is. agrees (suc i) q (omega arith) nz is ∙ omega arith)
      (λ i j lt lt' nz same. let e = own (suc i) (suc j) (omega arith) (omega arith) nz same in omega arith),
)
fits_at_one most seen place (suc m ∷ ns) bounded agrees own =
    let small : suc m ≤ most = bounded 0 (omega arith) in
    let here : is_place (place_of seen (suc m)) place ≡ true = is_place_of (place_of seen (suc m)) place (λ q is. agrees 0 q (omega arith) (λ z. absurd (omega (arith, z))) is ∙ omega arith) in
    let test : may_stand most seen place (suc m) ≡ true = rw (nonzero m) (and_from (nat_le (suc m) most) (is_place (place_of seen (suc m)) place) (le-leb (suc m) most small) here) in
    let later : (i q : ℕ) → i < length ns → get_or ns i 0 ≢ 0 → place_of (with_spot seen place (suc m)) (get_or ns i 0) ≡ Some q → q ≡ suc place + i =
    λ i q lt nz is. elim (cases_eq (suc m) (get_or ns i 0)) [
      | inl same ↦ absurd (omega (arith, own 0 (suc i) (omega arith) (omega arith) (λ z. absurd (omega (arith, z))) same))
      | inr other ↦
          let passes_by : (suc m == get_or ns i 0) ≡ false = grind (arith, other) in
          agrees (suc i) q (omega arith) nz (rw (nonzero m, passes_by) at is) ∙ omega arith
    ] in (
      test,
      fits_at_one most (with_spot seen place (suc m)) (suc place) ns (λ i lt. bounded (suc i) (omega arith)) later
          (λ i j lt lt' nz same. let e = own (suc i) (suc j) (omega arith) (omega arith) nz same in omega arith),
    )

in_first : (m : List ℕ) (ms : List (List ℕ)) (i : ℕ) → i < length m → StandsAt (m ∷ ms) (get_or m i 0) i
in_first m ms i lt = record { in_map = m; is_map = inl refl; in_range = lt; here = refl }

pub maps_fit : (most : ℕ) (seen : List Spot) (ms : List (List ℕ)) → AllAtMost ms most → OnePlace ms
    → ((n p q : ℕ) → n ≢ 0 → StandsAt ms n p → place_of seen n ≡ Some q → q ≡ p) → FitAll most seen ms
maps_fit most seen [] bounded one agrees = tt
maps_fit most seen (m ∷ ms) bounded one agrees =
    let fit : Fit most seen 0 m = fits_at_one most seen 0 m (λ i lt. bounded (get_or m i 0) i (in_first m ms i lt))
    (λ i q lt nz is. agrees (get_or m i 0) i q nz (in_first m ms i lt) is ∙ omega arith)
    (λ i j lt lt' nz same. one (get_or m i 0) i j nz (in_first m ms i lt) (subst (λ (x : ℕ). StandsAt (m ∷ ms) x j) (sym same) (in_first m ms j lt'))) in
    let later : (n p q : ℕ) → n ≢ 0 → StandsAt ms n p → place_of (with_map seen 0 m) n ≡ Some q → q ≡ p =
    λ n p q nz a is. elim (came_from seen 0 m n q is) [
      | inl before ↦ agrees n p q nz (wider m ms n p a) before
      | inr t ↦
          let there : StandsAt (m ∷ ms) n t.index = subst (λ (x : ℕ). StandsAt (m ∷ ms) x t.index) t.here (in_first m ms t.index t.in_range) in
          let same = one n t.index p nz there (wider m ms n p a) in
          omega (arith, t.at, same)
    ] in
    (fit, maps_fit most (with_map seen 0 m) ms (λ n p a. bounded n p (wider m ms n p a)) (λ n p q nz a b. one n p q nz (wider m ms n p a) (wider m ms n q b)) later)

-- ---- the tests of a map's entries, each behind those before it

abbrev pub EntryFits : ℕ → List Spot → List ℕ → ℕ → Type 0
EntryFits most seen before n = (n < limit bits32) × (may_stand most (with_map seen 0 before) (length before) n ≡ true)

with_map-push : (seen : List Spot) (place : ℕ) (ns : List ℕ) (n : ℕ) → with_map seen place (ns ++ n ∷ []) ≡ with_spot (with_map seen place ns) (place + length ns) n
with_map-push seen place [] n = ap (λ (p : ℕ). with_spot seen p n) (omega arith)
with_map-push seen place (m ∷ ns) n = with_map-push (with_spot seen place m) (suc place) ns n ∙ ap (λ (p : ℕ). with_spot (with_map (with_spot seen place m) (suc place) ns) p n) (omega arith)

refit : (most : ℕ) (a b : List Spot) (k l : ℕ) (ns : List ℕ) → a ≡ b → k ≡ l → Fit most a k ns → Fit most b l ns
refit most a b k l ns p q fit = subst (λ (x : ℕ). Fit most b x ns) q (subst (λ x. Fit most x k ns) p fit)

spots_push : (seen : List Spot) (before : List ℕ) (n : ℕ) → with_map seen 0 (before ++ n ∷ []) ≡ with_spot (with_map seen 0 before) (length before) n
spots_push seen before n = with_map-push seen 0 before n ∙ ap (λ (p : ℕ). with_spot (with_map seen 0 before) p n) (omega arith)

length-push : (before : List ℕ) (n : ℕ) → length (before ++ n ∷ []) ≡ suc (length before)
length-push before n = omega (arith, length-append before (n ∷ []))

pub fit_from : (most : ℕ) (seen : List Spot) (before ns : List ℕ) → AllInTurn (EntryFits most seen) before ns → Fit most (with_map seen 0 before) (length before) ns
fit_from most seen before [] all = tt
fit_from most seen before (n ∷ ns) all = (all.0.1, refit most _ _ _ _ ns (spots_push seen before n) (length-push before n) (fit_from most seen (before ++ n ∷ []) ns all.1))

below_limit : (most : ℕ) (seen : List Spot) (place n : ℕ) → most < 2 ^ 32 → may_stand most seen place n ≡ true → n < limit bits32
below_limit most seen place zero lt e = omega arith
below_limit most seen place (suc n) lt e = omega (arith, (passed most seen place n e).0)

pub fit_to : (most : ℕ) (seen : List Spot) (before ns : List ℕ) → most < 2 ^ 32 → Fit most (with_map seen 0 before) (length before) ns → AllInTurn (EntryFits most seen) before ns
fit_to most seen before [] lt fit = tt
fit_to most seen before (n ∷ ns) lt fit = ((below_limit most (with_map seen 0 before) (length before) n lt fit.0, fit.0), fit_to most seen (before ++ n ∷ []) ns lt (refit most _ _ _ _ ns (sym (spots_push seen before n)) (sym (length-push before n)) fit.1))
