-- The marks of the indexes that have landed, and their list.
use Rattle.std.proofs.Common.{◌≡◌, ℕ, zero, suc, ◌+◌, ◌<◌, ◌≤◌, Bool, true, false, cond, List, [], ◌∷◌, length, refl, sym, ◌∙◌, ap, inl, inr, replicate, arith}
use Rattle.std.specs.Prelude.{slice_set, nat_lt, ◌==◌}
use Rattle.std.proofs.lemmas.Bool.Decides.{nat_tests}
use Rattle.std.proofs.lemmas.Bool.{or_parts, cases_lt, cases_eq}
use Rattle.std.proofs.lemmas.List.{get_or_past, get_or-set_same, get_or-set_other}
use Rattle.sm_bits.specs.Places.{has}
use Rattle.sm_defs.specs.Image.{stands}
use Rattle.sm_defs.specs.Words.{Among, Ascends}
use Rattle.sm_defs.specs.Volume.{numbers}
use Rattle.sm_defs.specs.Missing.{insert_once}
use Rattle.sm_defs.specs.Progress.{prefix_from, landed_prefix}
use Rattle.sm_defs.proofs.Members.{each_among, stands_among, among_stands}
use Rattle.sm_model.specs.Due.{insert_landed}
use Rattle.sm_select.specs.Planned.{members_from, members}
use Rattle.sm_select.proofs.MemberLemmas.{set_one, none_has, within}

below_none : (k : ℕ) (bs : List Bool) (t : ℕ) → t < k → stands t (members_from k bs) ≡ false
below_none k [] t less = refl
below_none k (true ∷ bs) t less = let a : (k == t) ≡ false = grind (arith, nat_tests) in rw a (below_none (suc k) bs t (omega arith))
below_none k (false ∷ bs) t less = below_none (suc k) bs t (omega arith)

stands_from : (k : ℕ) (bs : List Bool) (i : ℕ) → stands (k + i) (members_from k bs) ≡ has bs i
stands_from k [] i = refl
stands_from k (true ∷ bs) zero = let a : (k == (k + 0)) ≡ true = grind (arith, nat_tests) in rw a refl
stands_from k (false ∷ bs) zero = below_none (suc k) bs (k + 0) (omega arith)
stands_from k (true ∷ bs) (suc i) =
    let a : (k == (k + suc i)) ≡ false = grind (arith, nat_tests) in
    let e : k + suc i ≡ suc k + i = omega arith in
    rw a (ap (λ t. stands t (members_from (suc k) bs)) e ∙ stands_from (suc k) bs i)
stands_from k (false ∷ bs) (suc i) =
    let e : k + suc i ≡ suc k + i = omega arith in
    ap (λ t. stands t (members_from (suc k) bs)) e ∙ stands_from (suc k) bs i

-- an index has landed where its mark is set
pub stands_marked : (bs : List Bool) (i : ℕ) → stands i (members bs) ≡ has bs i
stands_marked bs i = ap (λ t. stands t (members bs)) (let e : i ≡ 0 + i = omega arith in e) ∙ stands_from 0 bs i

insert_same : (t : ℕ) (ts : List ℕ) → stands t ts ≡ false → insert_once t ts ≡ insert_landed t ts
insert_same t [] out = refl
insert_same t (u ∷ us) out =
    let both = or_parts (u == t) (stands t us) out in
    let here = both.0 in
    let a : (t == u) ≡ false = grind (arith, nat_tests) in
    rw a (ap (λ xs. cond (nat_lt t u) (t ∷ u ∷ us) (u ∷ xs)) (insert_same t us both.1))

-- one mark more
pub set_landed : (bs : List Bool) (i : ℕ) → i < length bs → has bs i ≡ false → members (slice_set bs i true) ≡ insert_landed i (members bs)
set_landed bs i less out = set_one bs i less ∙ insert_same i (members bs) (stands_marked bs i ∙ out)

run_from : (k : ℕ) (bs : List Bool) (n : ℕ) → n ≤ length bs → ((i : ℕ) → i < n → has bs i ≡ true) → ((i : ℕ) → n ≤ i → has bs i ≡ false) → members_from k bs ≡ numbers k n
run_from k [] zero le set clear = refl
run_from k [] (suc n) le set clear = absurd (omega arith)
run_from k (true ∷ bs) zero le set clear = let e : true ≡ false = clear 0 (omega arith) in absurd (cc)
run_from k (false ∷ bs) zero le set clear = run_from (suc k) bs 0 (omega arith) (λ i less. absurd (omega arith)) (λ i h. clear (suc i) (omega arith))
run_from k (true ∷ bs) (suc n) le set clear = ap (λ ns. k ∷ ns) (run_from (suc k) bs n (omega arith) (λ i less. set (suc i) (omega arith)) (λ i h. clear (suc i) (omega arith)))
run_from k (false ∷ bs) (suc n) le set clear = let e : false ≡ true = set 0 (omega arith) in absurd (cc)

-- all below a number and nothing else
pub run_of : (bs : List Bool) (n : ℕ) → n ≤ length bs → ((i : ℕ) → i < n → has bs i ≡ true) → ((i : ℕ) → n ≤ i → has bs i ≡ false) → members bs ≡ numbers 0 n
run_of bs n le set clear = run_from 0 bs n le set clear

as_many : (k : ℕ) (bs : List Bool) (m : ℕ) → ((i : ℕ) → i < m → has bs i ≡ true) → m ≤ length (members_from k bs)
as_many k bs zero set = omega arith
as_many k [] (suc m) set = let e : false ≡ true = set 0 (omega arith) in absurd (cc)
as_many k (true ∷ bs) (suc m) set = let h = as_many (suc k) bs m (λ i less. set (suc i) (omega arith)) in omega (arith, h)
as_many k (false ∷ bs) (suc m) set = let e : false ≡ true = set 0 (omega arith) in absurd (cc)

prefix_go : (n k m : ℕ) (landed : List ℕ) → m ≤ n → ((i : ℕ) → i < m → stands (k + i) landed ≡ true) → stands (k + m) landed ≡ false → prefix_from n k landed ≡ k + m
prefix_go zero k m landed le set gap = omega arith
prefix_go (suc n) k zero landed le set gap =
    let e : k + 0 ≡ k = omega arith in
    let g : stands k landed ≡ false = ap (λ t. stands t landed) (sym e) ∙ gap in
    rw g (sym e)
prefix_go (suc n) k (suc m) landed le set gap =
    let e : k + 0 ≡ k = omega arith in
    let g : stands k landed ≡ true = ap (λ t. stands t landed) (sym e) ∙ set 0 (omega arith) in
    let f : k + suc m ≡ suc k + m = omega arith in
    rw g (prefix_go n (suc k) m landed (omega arith)
    (λ i less. ap (λ t. stands t landed) (let h : suc k + i ≡ k + suc i = omega arith in h) ∙ set (suc i) (omega arith))
    (ap (λ t. stands t landed) (sym f) ∙ gap)
    ∙ sym f)

-- where the run of marks ends
pub prefix_is : (bs : List Bool) (m : ℕ) → ((i : ℕ) → i < m → has bs i ≡ true) → has bs m ≡ false → m ≡ landed_prefix (members bs)
prefix_is bs m set gap =
    let e : 0 + m ≡ m = omega arith in
    sym (prefix_go (length (members bs)) 0 m (members bs) (as_many 0 bs m set)
    (λ i less. stands_from 0 bs i ∙ set i less) (stands_from 0 bs m ∙ gap) ∙ e)

-- ---- what is known of the list

each_from : (k : ℕ) (bs : List Bool) (t : ℕ) → Among (members_from k bs) t → k ≤ t
each_from k [] t in_it = absurd in_it
each_from k (true ∷ bs) t (inl e) = omega (arith, e)
each_from k (true ∷ bs) t (inr in_it) = let h = each_from (suc k) bs t in_it in omega (arith, h)
each_from k (false ∷ bs) t in_it = let h = each_from (suc k) bs t in_it in omega (arith, h)

ascend_from : (k : ℕ) (bs : List Bool) → Ascends (members_from k bs)
ascend_from k [] = tt
ascend_from k (true ∷ bs) = (each_among (λ m. k < m) (members_from (suc k) bs) (λ t in_it. let h = each_from (suc k) bs t in_it in omega (arith, h)), ascend_from (suc k) bs)
ascend_from k (false ∷ bs) = ascend_from (suc k) bs

pub ascend : (bs : List Bool) → Ascends (members bs)
ascend bs = ascend_from 0 bs

pub marked_among : (bs : List Bool) (k : ℕ) → has bs k ≡ true → Among (members bs) k
marked_among bs k is = stands_among k (members bs) (stands_marked bs k ∙ is)

pub among_marked : (bs : List Bool) (k : ℕ) → Among (members bs) k → has bs k ≡ true
among_marked bs k in_it = sym (stands_marked bs k) ∙ among_stands k (members bs) in_it

pub among_within : (bs : List Bool) (k : ℕ) → Among (members bs) k → k < length bs
among_within bs k in_it = within bs k (among_marked bs k in_it)

-- ---- marks that are set and cleared one by one

pub past_end : (bs : List Bool) (k : ℕ) → length bs ≤ k → has bs k ≡ false
past_end bs k le = get_or_past bs k false le

-- all below a number are marked, and none from it on
pub record IsRun (bs : List Bool) (n : ℕ) : Type 0 where
  pub below : (k : ℕ) → k < n → has bs k ≡ true
  pub above : (k : ℕ) → n ≤ k → has bs k ≡ false

pub run_begins : (bs : List Bool) → bs ≡ replicate (length bs) false → IsRun bs 0
run_begins bs empty = record {
  below = λ k less. absurd (omega arith);
  above = λ k le. ap (λ xs. has xs k) empty ∙ none_has (length bs) k;
}

pub run_grows : (bs new : List Bool) (i : ℕ) → i < length bs → new ≡ slice_set bs i true → IsRun bs i → IsRun new (i + 1)
run_grows bs new i less is run = record {
  below = λ k lt. ap (λ xs. has xs k) is ∙ elim (cases_eq k i) [
    | inl here ↦ ap (has (slice_set bs i true)) here ∙ get_or-set_same bs i true false less
    | inr other ↦ get_or-set_other bs i k true false other ∙ run.below k (omega arith)
  ];
  above = λ k le. ap (λ xs. has xs k) is ∙ get_or-set_other bs i k true false (λ e. absurd (omega arith)) ∙ run.above k (omega arith);
}

pub run_ends : (bs : List Bool) (n : ℕ) → n ≤ length bs → IsRun bs n → members bs ≡ numbers 0 n
run_ends bs n le run = run_of bs n le run.below run.above

-- all below a number are marked, and none from it up to another
pub record IsCleared (bs : List Bool) (from to : ℕ) : Type 0 where
  pub below : (k : ℕ) → k < from → has bs k ≡ true
  pub between : (k : ℕ) → from ≤ k → k < to → has bs k ≡ false

pub cleared_more : (bs new : List Bool) (from i : ℕ) → from ≤ i → i < length bs → new ≡ slice_set bs i false → IsCleared bs from i → IsCleared new from (i + 1)
cleared_more bs new from i le less is run = record {
  below = λ k lt. ap (λ xs. has xs k) is ∙ get_or-set_other bs i k false false (λ e. absurd (omega arith)) ∙ run.below k lt;
  between = λ k at lt. ap (λ xs. has xs k) is ∙ elim (cases_eq k i) [
    | inl here ↦ ap (has (slice_set bs i false)) here ∙ get_or-set_same bs i false false less
    | inr other ↦ get_or-set_other bs i k false false other ∙ run.between k at (omega arith)
  ];
}

pub cleared_all : (bs : List Bool) (from : ℕ) → from ≤ length bs → IsCleared bs from (length bs) → members bs ≡ numbers 0 from
cleared_all bs from le run = run_of bs from le run.below (λ k at. elim (cases_lt k (length bs)) [
  | inl less ↦ run.between k at less
  | inr past ↦ past_end bs k past
])
