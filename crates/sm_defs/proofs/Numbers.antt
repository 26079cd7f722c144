-- Numbers in order.
use Rattle.std.proofs.Common.{◌≡◌, ◌⊎◌, ◌<◌, ◌≤◌, ℕ, zero, suc, ◌+◌, Bool, true, false, cond, List, [], ◌∷◌, inl, inr, arith}
use Rattle.std.proofs.lemmas.Bool.{cases_eq}
use Rattle.std.specs.List.{filter}
use Rattle.sm_defs.specs.Words.{Among, Ascends}
use Rattle.sm_defs.specs.Volume.{numbers}
use Rattle.sm_defs.proofs.Members.{each_among, among_each, among_filter}

pub numbers_from : (n t k : ℕ) → Among (numbers t n) k → (t ≤ k) × (k < t + n)
numbers_from zero t k m = absurd m
numbers_from (suc n) t k (inl e) = (omega arith, omega arith)
numbers_from (suc n) t k (inr m) = let h = numbers_from n (suc t) k m in (omega arith, omega arith)

pub order : (t k : ℕ) → t ≤ k → (k ≡ t) ⊎ (suc t ≤ k)
order t k h = go (cases_eq k t)
  where
    go : (k ≡ t) ⊎ (k ≡ t → ⊥) → (k ≡ t) ⊎ (suc t ≤ k)
    go (inl e) = inl e
    go (inr n) = inr (omega arith)

pub to_numbers : (n t k : ℕ) → t ≤ k → k < t + n → Among (numbers t n) k
to_numbers zero t k h l = absurd (omega arith)
to_numbers (suc n) t k h l = go (order t k h) (to_numbers n (suc t) k)
  where
    go : (k ≡ t) ⊎ (suc t ≤ k) → (suc t ≤ k → k < suc t + n → Among (numbers (suc t) n) k) → Among (numbers t (suc n)) k
    go (inl e) ih = inl e
    go (inr g) ih = inr (ih g (omega arith))

pub below_numbers : (n t k : ℕ) → Among (numbers t n) k → k < t + n
below_numbers zero t k m = absurd m
below_numbers (suc n) t k (inl e) = omega arith
below_numbers (suc n) t k (inr m) = let h = below_numbers n (suc t) k m in omega arith

pub numbers_ascend : (n t : ℕ) → Ascends (numbers t n)
numbers_ascend zero t = tt
numbers_ascend (suc n) t = (each_among (λ u. t < u) (numbers (suc t) n) (λ x m. let h = numbers_from n (suc t) x m in omega arith), numbers_ascend n (suc t))

pub filter_ascends : (p : ℕ → Bool) (ts : List ℕ) → Ascends ts → Ascends (filter p ts)
filter_ascends p [] h = tt
filter_ascends p (t ∷ ts) h = go (p t) (filter_ascends p ts h.1)
  where
    go : (b : Bool) → Ascends (filter p ts) → Ascends (cond b (t ∷ filter p ts) (filter p ts))
    go true ih = (each_among (λ u. t < u) (filter p ts) (λ x m. among_each (λ u. t < u) ts x h.0 (among_filter p ts x m).0), ih)
    go false ih = ih
