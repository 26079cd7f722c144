-- A table depends only on which maps there are.
use Rattle.std.proofs.Common.{◌≡◌, ℕ, ◌<◌, ◌≤◌, List, [], length, get_or, replicate, sym, subst, arith, inl, inr}
use Rattle.std.proofs.lemmas.Bool.{cases_lt}
use Rattle.std.proofs.lemmas.List.{get_or-replicate, length-replicate, get_or_past}
use Rattle.sm_defs.specs.Places.{StandsAt}
use Rattle.sm_shape.specs.Marks.{AtOnePlace, IsTableOf}
use Rattle.sm_shape.proofs.TakesSteps.{Within}

at_within : (xs ys : List (List ℕ)) → Within xs ys → (n p : ℕ) → StandsAt xs n p → StandsAt ys n p
at_within xs ys to n p a = record { in_map = a.in_map; is_map = to a.in_map a.is_map; in_range = a.in_range; here = a.here }

pub table_same : (most : ℕ) (table : List ℕ) (xs ys : List (List ℕ)) → Within xs ys → Within ys xs → IsTableOf most table xs → IsTableOf most table ys
table_same most table xs ys to back is = record {
  long = is.long;
  kept = λ n p nz a. is.kept n p nz (at_within ys xs back n p a);
  came = λ n some. let c = is.came n some in (c.0, at_within xs ys to n c.0 c.1, c.2);
}

pub one_within : (most : ℕ) (xs ys : List (List ℕ)) → Within xs ys → AtOnePlace most ys → AtOnePlace most xs
one_within most xs ys to one = record {
  one_place = λ n p q nz a b. one.one_place n p q nz (at_within xs ys to n p a) (at_within xs ys to n q b);
  in_range = λ n p nz a. one.in_range n p nz (at_within xs ys to n p a);
}

pub empty_table : (k : ℕ) → IsTableOf k (replicate k 0) []
empty_table k = record {
  long = length-replicate {A = ℕ} k 0;
  kept = λ n p nz a. absurd a.is_map;
  came = λ n some. absurd (zero_there n some);
}
  where
    past_zeros : (n : ℕ) → length {A = ℕ} (replicate k 0) ≤ n → get_or {A = ℕ} (replicate k 0) n 0 ≡ 0
    past_zeros n past = get_or_past _ n 0 past

    zero_there : (n : ℕ) → 0 < get_or (replicate k 0) n 0 → ⊥
    zero_there n some = elim (cases_lt n k) [
      | inl lt ↦ omega (arith, some, get_or-replicate {A = ℕ} k n 0 0 lt)
      | inr ge ↦ omega (arith, some, past_zeros n (omega (arith, length-replicate {A = ℕ} k 0)))
    ]

pub empty_long : (k : ℕ) → IsTableOf (length {A = ℕ} (replicate k 0)) (replicate k 0) []
empty_long k = subst (λ n. IsTableOf n (replicate k 0) []) (sym (length-replicate {A = ℕ} k 0)) (empty_table k)

pub one_of_table : (most : ℕ) (table : List ℕ) (maps : List (List ℕ)) → IsTableOf most table maps → AtOnePlace most maps
one_of_table most table maps is = record {
  one_place = λ n p q nz a b. omega (arith, is.kept n p nz a, is.kept n q nz b);
  in_range = λ n p nz a. elim (cases_lt n (length table)) [
    | inl lt ↦ omega (arith, lt, is.long)
    | inr ge ↦ absurd (omega (arith, is.kept n p nz a, get_or_past table n 0 ge))
  ];
}
