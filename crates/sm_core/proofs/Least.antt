-- The lowest of ascending numbers above one.
use Rattle.std.proofs.Common.{◌≡◌, inl, inr, ℕ, zero, suc, ◌<◌, ◌≤◌, List, [], ◌∷◌, map, Some, refl, sym, ap, subst, arith}
use Rattle.std.specs.Prelude.{slice_get, ◌+◌}
use Rattle.std.specs.List.{AllByRecursion}
use Rattle.std.proofs.lemmas.Bool.{cases_lt}
use Rattle.sm_defs.specs.Words.{Among, Ascends}
use Rattle.sm_defs.proofs.Members.{among_each}
use Rattle.sm_relation.specs.declared.relation.Relation.{Relation}
use Rattle.sm_catroot.specs.Condition.{number_of, IsRelation}
use Rattle.sm_node.specs.Nodes.{stopped_relation}
use Rattle.sm_seats.proofs.Lists.{one_value}
use Rattle.sm_core.specs.Next.{IsLeastAbove, relation_number}

-- those before a place are not above it, and the one there is
pub least_at : (ns : List ℕ) (after k n : ℕ) → Ascends ns → ((j m : ℕ) → j < k → slice_get ns j ≡ Some m → m ≤ after) → slice_get ns k ≡ Some n → after < n → IsLeastAbove ns after n
least_at [] after k n up below e above = absurd (cc)
least_at (m ∷ ns) after zero n up below e above =
    let same : m ≡ n = cc in
    record {
      one = inl (sym same);
      above = above;
      least = λ x a gt. elim a [
        | inl is ↦ omega (arith, same, is)
        | inr later ↦ (let lt = among_each (λ (y : ℕ). m < y) ns x up.0 later in omega (arith, lt, same))
      ];
    }
least_at (m ∷ ns) after (suc k) n up below e above =
    let rest = least_at ns after k n up.1 (λ j x lt f. below (suc j) x (omega (arith, lt)) f) e above in
    let low = below 0 m (omega arith) refl in
    record {
      one = inr rest.one;
      above = above;
      least = λ x a gt. elim a [
        | inl is ↦ absurd (omega (arith, low, is, gt))
        | inr later ↦ rest.least x later gt
      ];
    }

-- one more that is not above it
pub one_more : (ns : List ℕ) (after k n : ℕ) → ((j m : ℕ) → j < k → slice_get ns j ≡ Some m → m ≤ after) → slice_get ns k ≡ Some n → n ≤ after → (j m : ℕ) → j < k + 1 → slice_get ns j ≡ Some m → m ≤ after
one_more ns after k n below e low j m lt f = elim (cases_lt j k) [
  | inl less ↦ below j m less f
  | inr ge ↦
      let here : j ≡ k = omega (arith, lt, ge) in
      let same = one_value (slice_get ns k) n m e (subst (λ (i : ℕ). slice_get ns i ≡ Some m) here f) in
      omega (arith, low, same)
]

-- none of them is above it
pub none_above : (ns : List ℕ) (after : ℕ) → ((j m : ℕ) → slice_get ns j ≡ Some m → m ≤ after) → (m : ℕ) → Among ns m → m ≤ after
none_above [] after below m a = absurd a
none_above (n ∷ ns) after below m (inl is) = let low = below 0 n refl in omega (arith, low, is)
none_above (n ∷ ns) after below m (inr later) = none_above ns after (λ j x e. below (suc j) x e) m later

-- a relationship of the world has its number
pub numbers_of : (rs : List Relation) → map relation_number (map stopped_relation rs) ≡ map number_of rs
numbers_of [] = refl
numbers_of (r ∷ rs) = ap (λ (ns : List ℕ). number_of r ∷ ns) (numbers_of rs)

-- no relationship of a record has the number 0
pub from_one : (rs : List Relation) → ((r : Relation) → Among rs r → IsRelation r) → AllByRecursion (λ m. 0 < m) (map number_of rs)
from_one [] each = tt
from_one (r ∷ rs) each = (let low = (each r (inl refl)).number.0 in omega (arith, low), from_one rs (λ s a. each s (inr a)))
