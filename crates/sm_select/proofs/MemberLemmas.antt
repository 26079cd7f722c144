-- The members of a set, one by one.
use Rattle.std.proofs.Common.{◌≡◌, ℕ, zero, suc, ◌+◌, ◌<◌, ◌≤◌, ◌||◌, Bool, true, false, cond, not, set, List, [], ◌∷◌, ◌++◌, length, map, replicate, refl, sym, ◌∙◌, ap, subst, inl, inr, eqb-true, eq-eqb, arith}
use Rattle.std.specs.Prelude.{slice_set, nat_lt, nat_le, ◌==◌, ◌&&◌}
use Rattle.std.specs.List.{filter}
use Rattle.std.proofs.lemmas.Bool.Decides.{nat_tests}
use Rattle.std.proofs.lemmas.Bool.{cases_lt, cases_eq, or_left, or_right}
use Rattle.std.proofs.lemmas.List.{append_assoc, append-nil, length-replicate, length-set, ext_get_or, get_or-set_same, get_or-set_other}
use Rattle.std.proofs.lemmas.List.Sums.{sum_by-cons}
use Rattle.std.proofs.lemmas.Map.Views.{any-filter_same}
use Rattle.sm_bits.specs.Places.{has, size, difference_of, HasNoneFrom, IsLeastFrom}
use Rattle.sm_defs.specs.Image.{stands}
use Rattle.sm_defs.specs.Missing.{insert_once, ascending}
use Rattle.sm_select.specs.Planned.{members_from, members, is_lacking, lacking, twice}

-- a number below all of them goes to the front
insert_low : (k : ℕ) (bs : List Bool) (t : ℕ) → t < k → insert_once t (members_from k bs) ≡ t ∷ members_from k bs
insert_low k [] t less = refl
insert_low k (true ∷ bs) t less = let a : (t == k) ≡ false = grind (arith, nat_tests) in let b : nat_lt t k ≡ true = grind (arith, nat_tests) in rw (a, b) refl
insert_low k (false ∷ bs) t less = insert_low (suc k) bs t (omega arith)

insert_past : (k t : ℕ) (us : List ℕ) → k < t → insert_once t (k ∷ us) ≡ k ∷ insert_once t us
insert_past k t us less = let a : (t == k) ≡ false = grind (arith, nat_tests) in let b : nat_lt t k ≡ false = grind (arith, nat_tests) in rw (a, b) refl

-- a place that is put into the set
set_from : (k : ℕ) (bs : List Bool) (i : ℕ) → i < length bs → members_from k (slice_set bs i true) ≡ insert_once (k + i) (members_from k bs)
set_from k [] i less = absurd (omega arith)
set_from k (true ∷ bs) zero less = let e : k + 0 ≡ k = omega arith in let a : (k == k) ≡ true = grind (arith, nat_tests) in rw (e, a) refl
set_from k (false ∷ bs) zero less = let e : k + 0 ≡ k = omega arith in rw e (sym (insert_low (suc k) bs k (omega arith)))
set_from k (true ∷ bs) (suc i) less =
    ap (λ xs. k ∷ xs) (set_from (suc k) bs i (omega arith))
    ∙ sym (insert_past k (suc k + i) (members_from (suc k) bs) (omega arith))
    ∙ ap (λ t. insert_once t (k ∷ members_from (suc k) bs)) (let e : suc k + i ≡ k + suc i = omega arith in e)
set_from k (false ∷ bs) (suc i) less = set_from (suc k) bs i (omega arith) ∙ ap (λ t. insert_once t (members_from (suc k) bs)) (let e : suc k + i ≡ k + suc i = omega arith in e)

none_from : (k n : ℕ) → members_from k (replicate n false) ≡ []
none_from k zero = refl
none_from k (suc n) = none_from (suc k) n

pub set_one : (set : List Bool) (n : ℕ) → n < length set → members (slice_set set n true) ≡ insert_once n (members set)
set_one set n less = set_from 0 set n less ∙ ap (λ t. insert_once t (members set)) (let e : 0 + n ≡ n = omega arith in e)

none : (n : ℕ) → members (replicate n false) ≡ []
none n = none_from 0 n

-- ---- the members from a place on

abbrev pub members_above : List Bool → ℕ → List ℕ
members_above set from = filter (λ t. nat_le from t) (members set)

above_all : (k : ℕ) (bs : List Bool) (from : ℕ) → from ≤ k → filter (λ t. nat_le from t) (members_from k bs) ≡ members_from k bs
above_all k [] from le = refl
above_all k (true ∷ bs) from le = let a : nat_le from k ≡ true = grind (arith, nat_tests) in rw a (ap (λ xs. k ∷ xs) (above_all (suc k) bs from (omega arith)))
above_all k (false ∷ bs) from le = above_all (suc k) bs from (omega arith)

above_none : (k : ℕ) (bs : List Bool) (from : ℕ) → ((i : ℕ) → from ≤ k + i → has bs i ≡ false) → filter (λ t. nat_le from t) (members_from k bs) ≡ []
above_none k [] from none = refl
above_none k (true ∷ bs) from none = elim (cases_lt k from) [
  | inl less ↦ let a : nat_le from k ≡ false = grind (arith, nat_tests) in rw a (above_none (suc k) bs from (λ i le. none (suc i) (omega arith)))
  | inr le ↦ let e : true ≡ false = none 0 (omega arith) in absurd (cc)
]
above_none k (false ∷ bs) from none = above_none (suc k) bs from (λ i le. none (suc i) (omega arith))

above_one : (k : ℕ) (bs : List Bool) (from n : ℕ) → from ≤ k + n → has bs n ≡ true → ((i : ℕ) → from ≤ k + i → i < n → has bs i ≡ false)
    → filter (λ t. nat_le from t) (members_from k bs) ≡ (k + n) ∷ filter (λ t. nat_le (suc (k + n)) t) (members_from k bs)
above_one k [] from n le is none = let e : false ≡ true = is in absurd (cc)
above_one k (true ∷ bs) from zero le is none =
    let e : k + 0 ≡ k = omega arith in
    let a : nat_le from k ≡ true = grind (arith, nat_tests) in
    let b : nat_le (suc k) k ≡ false = grind (arith, nat_tests) in
    subst (λ (t : ℕ). filter (λ u. nat_le from u) (members_from k (true ∷ bs)) ≡ t ∷ filter (λ u. nat_le (suc t) u) (members_from k (true ∷ bs))) (sym e)
    (rw (a, b) (ap (λ xs. k ∷ xs) (above_all (suc k) bs from (omega arith) ∙ sym (above_all (suc k) bs (suc k) (omega arith)))))
above_one k (false ∷ bs) from zero le is none = absurd (cc)
above_one k (true ∷ bs) from (suc n) le is none = elim (cases_lt k from) [
  | inl less ↦
      let a : nat_le from k ≡ false = grind (arith, nat_tests) in
      let b : nat_le (suc (k + suc n)) k ≡ false = grind (arith, nat_tests) in
      let e : suc k + n ≡ k + suc n = omega arith in
      rw (a, b) (subst (λ (t : ℕ). filter (λ u. nat_le from u) (members_from (suc k) bs) ≡ t ∷ filter (λ u. nat_le (suc t) u) (members_from (suc k) bs)) e
      (above_one (suc k) bs from n (omega arith) is (λ i le lt. none (suc i) (omega arith) (omega arith))))
  | inr le' ↦ let f : true ≡ false = none 0 (omega arith) (omega arith) in absurd (cc)
]
above_one k (false ∷ bs) from (suc n) le is none =
    let e : suc k + n ≡ k + suc n = omega arith in
    subst (λ (t : ℕ). filter (λ u. nat_le from u) (members_from (suc k) bs) ≡ t ∷ filter (λ u. nat_le (suc t) u) (members_from (suc k) bs)) e
    (above_one (suc k) bs from n (omega arith) is (λ i le lt. none (suc i) (omega arith) (omega arith)))

none_above : (set : List Bool) (from : ℕ) → HasNoneFrom set from → members_above set from ≡ []
none_above set from none = above_none 0 set from (λ i le. none i (omega arith))

one_above : (set : List Bool) (from n : ℕ) → IsLeastFrom set from n → members_above set from ≡ n ∷ members_above set (n + 1)
one_above set from n is =
    let e : 0 + n ≡ n = omega arith in
    subst (λ (t : ℕ). members_above set from ≡ t ∷ members_above set (suc t)) e
    (above_one 0 set from n (let h = is.from_on in omega arith) is.is_in (λ i le lt. is.least i (omega arith) lt))
    ∙ ap (λ (m : ℕ). n ∷ members_above set m) (let f : suc n ≡ n + 1 = omega arith in f)

-- one pair more, and the end
pub one_more : (set : List Bool) (from n : ℕ) (pairs all : List (ℕ × ℕ)) → IsLeastFrom set from n → pairs ++ map twice (members_above set from) ≡ all → (pairs ++ (n, n) ∷ []) ++ map twice (members_above set (n + 1)) ≡ all
one_more set from n pairs all is so =
    append_assoc pairs ((n, n) ∷ []) (map twice (members_above set (n + 1))) ∙ ap (λ ns. pairs ++ map twice ns) (sym (one_above set from n is)) ∙ so

pub no_more : (set : List Bool) (from : ℕ) (pairs all : List (ℕ × ℕ)) → HasNoneFrom set from → pairs ++ map twice (members_above set from) ≡ all → pairs ≡ all
no_more set from pairs all none so = sym (append-nil pairs) ∙ ap (λ ns. pairs ++ map twice ns) (sym (none_above set from none)) ∙ so

pub all_above : (set : List Bool) → members_above set 0 ≡ members set
all_above set = above_all 0 set 0 (omega arith)

as_many_from : (k : ℕ) (bs : List Bool) → length (members_from k bs) ≡ size bs
as_many_from k [] = refl
as_many_from k (true ∷ bs) = ap suc (as_many_from (suc k) bs) ∙ (let e = sum_by-cons (λ b. cond b 1 0) true bs in omega (arith, e))
as_many_from k (false ∷ bs) = as_many_from (suc k) bs ∙ (let e = sum_by-cons (λ b. cond b 1 0) false bs in omega (arith, e))

-- what is in a set is one of its places
pub within : (set : List Bool) (n : ℕ) → has set n ≡ true → n < length set
within [] n is = let e : false ≡ true = is in absurd (cc)
within (b ∷ bs) zero is = omega arith
within (b ∷ bs) (suc n) is = let h = within bs n is in omega (arith, h)

-- ---- the numbers of a list, as a set and in order

-- a set of so many places with the numbers of a list
abbrev put : ℕ → List ℕ → List Bool
put n [] = replicate n false
put n (t ∷ ts) = slice_set (put n ts) t true

long_put : (n : ℕ) (ts : List ℕ) → length (put n ts) ≡ n
long_put n [] = length-replicate n false
long_put n (t ∷ ts) = length-set (put n ts) t true ∙ long_put n ts

pub none_has : (n k : ℕ) → has (replicate n false) k ≡ false
none_has zero k = refl
none_has (suc n) zero = refl
none_has (suc n) (suc k) = none_has n k

put_has : (n : ℕ) (ts : List ℕ) → ((t : ℕ) → stands t ts ≡ true → t < n) → (k : ℕ) → has (put n ts) k ≡ stands k ts
put_has n [] below k = none_has n k
put_has n (t ∷ ts) below k = elim (cases_eq k t) [
  | inl here ↦
      let yes : (t == t) ≡ true = eq-eqb t t refl in
      let less = below t (or_left _ _ yes) in
      ap (has (set (put n ts) t true)) here
      ∙ get_or-set_same (put n ts) t true false (let e = long_put n ts in omega (arith, e, less))
      ∙ sym (ap (λ j. stands j (t ∷ ts)) here ∙ or_left _ _ yes)
  | inr other ↦
      let no : (t == k) ≡ false = grind (arith, nat_tests) in
      get_or-set_other (put n ts) t k true false other ∙ put_has n ts (λ u e. below u (or_right _ _ e)) k
      ∙ sym (ap (λ b. b || stands k ts) no)
]

put_members : (n : ℕ) (ts : List ℕ) → ((t : ℕ) → stands t ts ≡ true → t < n) → members (put n ts) ≡ ascending ts
put_members n [] below = none n
put_members n (t ∷ ts) below =
    set_one (put n ts) t (let e = long_put n ts in let less = below t (or_left _ _ (eq-eqb t t refl)) in omega (arith, e, less))
    ∙ ap (insert_once t) (put_members n ts (λ u e. below u (or_right _ _ e)))

-- the members of a set that has just the numbers of a list
pub in_order : (set : List Bool) (ts : List ℕ) → ((k : ℕ) → has set k ≡ stands k ts) → members set ≡ ascending ts
in_order set ts each =
    ap members (ext_get_or false set (put (length set) ts) (sym (long_put (length set) ts)) (λ k less. each k ∙ sym (put_has (length set) ts inside k)))
    ∙ put_members (length set) ts inside
  where
    inside : (t : ℕ) → stands t ts ≡ true → t < length set
    inside t e = within set t (each t ∙ e)

difference_has : (xs ys : List Bool) → length ys ≡ length xs → (k : ℕ) → has (difference_of xs ys) k ≡ (has xs k && not (has ys k))
difference_has [] ys same k = refl
difference_has (x ∷ xs) [] same k = absurd (omega arith)
difference_has (x ∷ xs) (y ∷ ys) same zero = refl
difference_has (x ∷ xs) (y ∷ ys) same (suc k) = difference_has xs ys (omega arith) k

stands_kept : (p : ℕ → Bool) (ts : List ℕ) (k : ℕ) → stands k (filter p ts) ≡ (p k && stands k ts)
stands_kept p ts k = any-filter_same (λ u. u == k) p (p k) (λ u e. ap p (eqb-true u k e)) ts

-- what an empty set has after the numbers of a map were added, and those of another set taken away
pub lacking_members : (numbers : List ℕ) (have added : List Bool) → length added ≡ length have → has added 0 ≡ has (replicate (length have) false) 0
    → ((n : ℕ) → 1 ≤ n → has added n ≡ (has (replicate (length have) false) n || stands n numbers)) → members (difference_of added have) ≡ ascending (lacking have numbers)
lacking_members numbers have added long hole each =
    in_order (difference_of added have) (lacking have numbers) (λ k. difference_has added have (sym long) k ∙ at k ∙ sym (stands_kept (is_lacking have) numbers k))
  where
    turn : (zero a b : Bool) → zero ≡ false → (a && not b) ≡ ((not zero && not b) && a)
    turn true a b e = let f : true ≡ false = e in absurd (cc)
    turn false true true e = refl
    turn false true false e = refl
    turn false false true e = refl
    turn false false false e = refl

    at : (k : ℕ) → (has added k && not (has have k)) ≡ (is_lacking have k && stands k numbers)
    at zero = ap (λ b. b && not (has have 0)) (hole ∙ none_has (length have) 0)
    at (suc k) =
        ap (λ b. b && not (has have (suc k))) (each (suc k) (omega arith) ∙ ap (λ b. b || stands (suc k) numbers) (none_has (length have) (suc k)))
        ∙ turn (suc k == 0) (stands (suc k) numbers) (has have (suc k)) (grind (arith, nat_tests))

-- ---- the least one is taken

taken_from : (k : ℕ) (bs : List Bool) (n : ℕ) → has bs n ≡ true → ((i : ℕ) → i < n → has bs i ≡ false) → members_from k bs ≡ (k + n) ∷ members_from k (slice_set bs n false)
taken_from k [] n is none = let e : false ≡ true = is in absurd (cc)
taken_from k (true ∷ bs) zero is none = ap (λ t. t ∷ members_from (suc k) bs) (let e : k ≡ k + 0 = omega arith in e)
taken_from k (false ∷ bs) zero is none = let e : false ≡ true = is in absurd (cc)
taken_from k (true ∷ bs) (suc n) is none = let e : true ≡ false = none 0 (omega arith) in absurd (cc)
taken_from k (false ∷ bs) (suc n) is none =
    taken_from (suc k) bs n is (λ i less. none (suc i) (omega arith))
    ∙ ap (λ t. t ∷ members_from (suc k) (slice_set bs n false)) (let e : suc k + n ≡ k + suc n = omega arith in e)

pub one_taken : (set : List Bool) (n : ℕ) → IsLeastFrom set 0 n → members set ≡ n ∷ members (slice_set set n false)
one_taken set n is = taken_from 0 set n is.is_in (λ i less. is.least i (omega arith) less) ∙ ap (λ t. t ∷ members (slice_set set n false)) (let e : 0 + n ≡ n = omega arith in e)

pub none_left : (set : List Bool) → HasNoneFrom set 0 → members set ≡ []
none_left set none = sym (all_above set) ∙ none_above set 0 none

pub as_many_members : (set : List Bool) → length (members set) ≡ size set
as_many_members set = as_many_from 0 set
