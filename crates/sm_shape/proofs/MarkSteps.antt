-- A table of the maps that were seen, with one number more.
use Rattle.std.proofs.Common.{◌≡◌, ◌≢◌, ℕ, zero, suc, ◌+◌, ◌<◌, ◌==◌, ◌⊎◌, true, false, List, ◌∷◌, length, get_or, take, set, refl, sym, subst, ◌∙◌, inl, inr, arith}
use Rattle.std.specs.Prelude.{◌&&◌, ◌||◌, nat_lt}
use Rattle.std.proofs.lemmas.Bool.{cases_eq}
use Rattle.std.proofs.lemmas.Bool.Decides.{nat_tests}
use Rattle.std.proofs.lemmas.List.{get_or-set_same, get_or-set_other, get_or-take, length-take, length-set}
use Rattle.sm_defs.specs.Words.{Among}
use Rattle.sm_defs.specs.Places.{StandsAt}
use Rattle.sm_defs.proofs.Places.{wider}
use Rattle.sm_shape.specs.Marks.{AtOnePlace, IsTableOf, free_at, with_number}

-- in the first map or in the others
pub record Here (x : List ℕ) (n p : ℕ) : Type 0 where
  pub in_range : p < length x
  pub here : get_or x p 0 ≡ n

pub apart : (x : List ℕ) (maps : List (List ℕ)) (n p : ℕ) → StandsAt (x ∷ maps) n p → Here x n p ⊎ StandsAt maps n p
apart x maps n p a = go a.in_map a.is_map a.in_range a.here
  where
    go : (m : List ℕ) → Among (x ∷ maps) m → p < length m → get_or m p 0 ≡ n → Here x n p ⊎ StandsAt maps n p
    go m (inl same) lt is = inl (record { in_range = subst (λ (y : List ℕ). p < length y) same lt; here = subst (λ (y : List ℕ). get_or y p 0 ≡ n) same is })
    go m (inr later) lt is = inr (record { in_map = m; is_map = later; in_range = lt; here = is })

pub in_first : (x : List ℕ) (maps : List (List ℕ)) (n p : ℕ) → Here x n p → StandsAt (x ∷ maps) n p
in_first x maps n p h = record { in_map = x; is_map = inl refl; in_range = h.in_range; here = h.here }

pub before_any : (most : ℕ) (table m : List ℕ) (maps : List (List ℕ)) → IsTableOf most table maps → IsTableOf most table (take 0 m ∷ maps)
before_any most table m maps is = record {
  long = is.long;
  kept = λ n p nz a. elim (apart (take 0 m) maps n p a) [ inl h ↦ absurd (omega (arith, h.in_range)) | inr b ↦ is.kept n p nz b ];
  came = λ n some. let c = is.came n some in (c.0, wider (take 0 m) maps n c.0 c.1, c.2);
}

-- what is in the front is in the list
shorter : (m : List ℕ) (k n p : ℕ) → Here (take k m) n p → Here m n p
shorter m k n p h =
    let lt : p < k = omega (arith, h.in_range, length-take k m) in
    record { in_range = omega (arith, h.in_range, length-take k m); here = sym (get_or-take k m p 0 lt) ∙ h.here }

free_parts : (table : List ℕ) (k n : ℕ) → 0 < n → free_at table k n ≡ true → (n < length table) × ((get_or table n 0 ≡ 0) ⊎ (get_or table n 0 ≡ k + 1))
free_parts table k n some may = go (get_or table n 0) (length table) may
  where
    go : (x l : ℕ) → ((n == 0) || (nat_lt n l && ((x == 0) || (x == k + 1)))) ≡ true → (n < l) × ((x ≡ 0) ⊎ (x ≡ k + 1))
    go x l e = elim (cases_eq x 0) [
      | inl z ↦ (grind (arith, nat_tests), inl z)
      | inr nz ↦ (grind (arith, nat_tests), inr (grind (arith, nat_tests)))
    ]

taken_parts : (table : List ℕ) (k n : ℕ) → free_at table k n ≡ false → (n ≢ 0) × (n < length table → (0 < get_or table n 0) × (get_or table n 0 ≢ k + 1))
taken_parts table k n may = go (get_or table n 0) (length table) may
  where
    go : (x l : ℕ) → ((n == 0) || (nat_lt n l && ((x == 0) || (x == k + 1)))) ≡ false → (n ≢ 0) × (n < l → (0 < x) × (x ≢ k + 1))
    go x l e = (grind (arith, nat_tests), λ lt. (grind (arith, nat_tests), grind (arith, nat_tests)))

module _ (most : ℕ) (table m : List ℕ) (maps : List (List ℕ)) (k : ℕ) (room : k < length m) (is : IsTableOf most table (take k m ∷ maps)) where
  -- one more of the front
  newer : (n p : ℕ) → StandsAt (take (k + 1) m ∷ maps) n p → StandsAt (take k m ∷ maps) n p ⊎ ((p ≡ k) × (get_or m k 0 ≡ n))
  newer n p a = elim (apart (take (k + 1) m) maps n p a) [
    | inr b ↦ inl (wider (take k m) maps n p b)
    | inl h ↦
        let lt : p < k + 1 = omega (arith, h.in_range, length-take (k + 1) m) in
        let at : get_or m p 0 ≡ n = sym (get_or-take (k + 1) m p 0 lt) ∙ h.here in
        elim (cases_eq p k) [
          | inl same ↦ inr (same, subst (λ (x : ℕ). get_or m x 0 ≡ n) same at)
          | inr other ↦
              let less : p < k = omega arith in
              inl (in_first (take k m) maps n p (record { in_range = omega (arith, less, room, length-take k m); here = get_or-take k m p 0 less ∙ at }))
        ]
  ]

  older : (n p : ℕ) → StandsAt (take k m ∷ maps) n p → StandsAt (take (k + 1) m ∷ maps) n p
  older n p a = elim (apart (take k m) maps n p a) [
    | inr b ↦ wider (take (k + 1) m) maps n p b
    | inl h ↦
        let lt : p < k = omega (arith, h.in_range, length-take k m) in
        let whole = shorter m k n p h in
        in_first (take (k + 1) m) maps n p (record { in_range = omega (arith, lt, whole.in_range, length-take (k + 1) m); here = get_or-take (k + 1) m p 0 (omega arith) ∙ whole.here })
  ]

  last : (n : ℕ) → get_or m k 0 ≡ n → StandsAt (take (k + 1) m ∷ maps) n k
  last n e = in_first (take (k + 1) m) maps n k (record { in_range = omega (arith, room, length-take (k + 1) m); here = get_or-take (k + 1) m k 0 (omega arith) ∙ e })

  with_hole : get_or m k 0 ≡ 0 → IsTableOf most table (take (k + 1) m ∷ maps)
  with_hole e = record {
    long = is.long;
    kept = λ n p nz a. elim (newer n p a) [ inl b ↦ is.kept n p nz b | inr b ↦ absurd (nz (sym b.1 ∙ e)) ];
    came = λ n some. let c = is.came n some in (c.0, older n c.0 c.1, c.2);
  }

  module _ (n : ℕ) (at : get_or m k 0 ≡ n) (in_table : n < length table) (free : (get_or table n 0 ≡ 0) ⊎ (get_or table n 0 ≡ k + 1)) where
    same_now : get_or (set table n (k + 1)) n 0 ≡ k + 1
    same_now = get_or-set_same table n (k + 1) 0 in_table

    with_one : IsTableOf most (set table n (k + 1)) (take (k + 1) m ∷ maps)
    with_one = record {
      long = length-set table n (k + 1) ∙ is.long;
      kept = λ x p nz a. elim (cases_eq x n) [
        | inl same ↦ elim (newer x p a) [
          | inr b ↦ rw (same, same_now, b.0) refl
          | inl b ↦
              let stood = is.kept x p nz b in
              let here : get_or table n 0 ≡ p + 1 = subst (λ (y : ℕ). get_or table y 0 ≡ p + 1) same stood in
              let now : k + 1 ≡ p + 1 = elim free [ inl none ↦ absurd (omega (arith, none, here)) | inr one ↦ sym one ∙ here ] in
              rw (same, same_now) now
        ]
        | inr other ↦ elim (newer x p a) [
          | inr b ↦ absurd (other (sym b.1 ∙ at))
          | inl b ↦ get_or-set_other table n x (k + 1) 0 (λ e. other e) ∙ is.kept x p nz b
        ]
      ];
      came = λ x some. elim (cases_eq x n) [
        | inl same ↦ (k, last x (at ∙ sym same), rw (same, same_now) refl)
        | inr other ↦
            let e = get_or-set_other table n x (k + 1) 0 (λ e. other e) in
            let c = is.came x (rw e at some) in
            (c.0, older x c.0 c.1, e ∙ c.2)
      ];
    }

  pub goes_on : free_at table k (get_or m k 0) ≡ true → IsTableOf most (with_number table k (get_or m k 0)) (take (k + 1) m ∷ maps)
  goes_on may = go (get_or m k 0) refl may
    where
      go : (n : ℕ) → get_or m k 0 ≡ n → free_at table k n ≡ true → IsTableOf most (with_number table k n) (take (k + 1) m ∷ maps)
      go zero e may = with_hole e
      go (suc n) e may =
          let test : (suc n == 0) ≡ false = grind arith in
          let parts = free_parts table k (suc n) (omega arith) may in
          rw test (with_one (suc n) e parts.0 parts.1)

  pub clashes : free_at table k (get_or m k 0) ≡ false → ¬ (AtOnePlace most (m ∷ maps))
  clashes taken one =
      let parts = taken_parts table k (get_or m k 0) taken in
      let there : StandsAt (m ∷ maps) (get_or m k 0) k = in_first m maps (get_or m k 0) k (record { in_range = room; here = refl }) in
      let full = parts.1 (omega (arith, one.in_range (get_or m k 0) k parts.0 there, is.long)) in
      let c = is.came (get_or m k 0) full.0 in
      let same : k ≡ c.0 = one.one_place (get_or m k 0) k c.0 parts.0 there (before_all c.0 c.1) in
      full.1 (c.2 ∙ subst (λ (p : ℕ). c.0 + 1 ≡ p + 1) (sym same) refl)
    where
      before_all : (p : ℕ) → StandsAt (take k m ∷ maps) (get_or m k 0) p → StandsAt (m ∷ maps) (get_or m k 0) p
      before_all p a = elim (apart (take k m) maps (get_or m k 0) p a) [
        | inr b ↦ wider m maps (get_or m k 0) p b
        | inl h ↦ in_first m maps (get_or m k 0) p (shorter m k (get_or m k 0) p h)
      ]
