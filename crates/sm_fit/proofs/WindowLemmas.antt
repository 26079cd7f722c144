-- Numbers that ascend.
use Rattle.std.proofs.Common.{◌≡◌, ℕ, zero, suc, ◌+◌, ◌<◌, ◌≤◌, List, [], ◌∷◌, length, get_or, refl, sym, subst, inl, inr, arith}
use Rattle.sm_defs.specs.Words.{Among, Ascends}
use Rattle.sm_defs.proofs.Members.{among_each, each_among, among_get_or}

-- each number is below the next
pub steps_ascend : (ns : List ℕ) → ((j : ℕ) → suc j < length ns → get_or ns j 0 < get_or ns (suc j) 0) → Ascends ns
steps_ascend [] step = tt
steps_ascend (n ∷ []) step = (tt, tt)
steps_ascend (n ∷ m ∷ ns) step =
    let behind = steps_ascend (m ∷ ns) (λ j lt. step (suc j) (omega arith)) in
    let first : n < m = step 0 (omega arith) in
    ((first, each_among (λ k. n < k) ns (λ k a. let h = among_each (λ k. m < k) ns k behind.0 a in omega arith)), behind)

pub ascend_steps : (ns : List ℕ) → Ascends ns → (j : ℕ) → suc j < length ns → get_or ns j 0 < get_or ns (suc j) 0
ascend_steps [] asc j lt = absurd (omega arith)
ascend_steps (n ∷ []) asc j lt = absurd (omega arith)
ascend_steps (n ∷ m ∷ ns) asc zero lt = asc.0.0
ascend_steps (n ∷ m ∷ ns) asc (suc j) lt = ascend_steps (m ∷ ns) asc.1 j (omega arith)

-- the number stands at its own place, counted from a first one
pub record AtOwnPlace (ns : List ℕ) (from j : ℕ) : Type 0 where
  pub in_range : j < length ns
  pub is : get_or ns j 0 ≡ from + j

-- where all from a first one on stand in a list that ascends, each stands at its own place
own_place : (ns : List ℕ) (from count j : ℕ) → Ascends ns → ((k : ℕ) → Among ns k → from ≤ k) → ((k : ℕ) → from ≤ k → k < from + count → Among ns k) → j < count → AtOwnPlace ns from j
own_place [] from count j asc least all lt = absurd (all from (omega arith) (omega arith))
own_place (n ∷ ns) from count j asc least all lt = at j lt (own_place ns)
  where
    first : n ≡ from
    first = elim (all from (omega arith) (omega arith)) [
      | inl e ↦ sym e
      | inr a ↦ let h = among_each (λ k. n < k) ns from asc.0 a in let l = least n (inl refl) in absurd (omega arith)
    ]

    behind : (k : ℕ) → suc from ≤ k → k < from + count → Among ns k
    behind k more less = elim (all k (omega arith) less) [
      | inl e ↦ absurd (omega (arith, first, e))
      | inr a ↦ a
    ]

    at : (j : ℕ) → j < count → ((from count j : ℕ) → Ascends ns → ((k : ℕ) → Among ns k → from ≤ k) → ((k : ℕ) → from ≤ k → k < from + count → Among ns k) → j < count → AtOwnPlace ns from j) → AtOwnPlace (n ∷ ns) from j
    at zero lt ih = record { in_range = omega arith; is = omega (arith, first) }
    at (suc j) lt ih = go count lt behind
      where
        go : (c : ℕ) → suc j < c → ((k : ℕ) → suc from ≤ k → k < from + c → Among ns k) → AtOwnPlace (n ∷ ns) from (suc j)
        go zero lt all = absurd (omega arith)
        go (suc c) lt all =
            let t = ih (suc from) c j asc.1 (λ k a. let h = among_each (λ k. n < k) ns k asc.0 a in omega (arith, first, h)) (λ k more less. all k more (omega arith)) (omega arith) in
            record { in_range = omega (arith, t.in_range); is = omega (arith, t.is) }

pub below_at : (ns : List ℕ) (checkpoint : ℕ) → Ascends ns → ((k : ℕ) → k < checkpoint → Among ns k) → (j : ℕ) → j < checkpoint → AtOwnPlace ns 0 j
below_at ns checkpoint asc all j lt = own_place ns 0 checkpoint j asc (λ k a. omega arith) (λ k more less. all k (omega arith)) lt

pub at_below : (ns : List ℕ) (checkpoint : ℕ) → checkpoint ≤ length ns → ((j : ℕ) → j < checkpoint → get_or ns j 0 ≡ j) → (k : ℕ) → k < checkpoint → Among ns k
at_below ns checkpoint long at k lt = subst (Among ns) (at k lt) (among_get_or ns k 0 (omega arith))
