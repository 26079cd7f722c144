-- Relationships are crossed exactly where each fits behind those before it.
use Rattle.std.proofs.Common.{◌≡◌, ◌≢◌, ℕ, zero, suc, ◌<◌, Bool, true, List, [], ◌∷◌, length, get_or, take, refl, sym, subst, inl, inr, arith}
use Rattle.std.specs.List.{filter, AllByRecursion}
use Rattle.sm_defs.specs.Words.{Among, KeysDiffer}
use Rattle.std.proofs.lemmas.Bool.{cases_Bool, both_ways}
use Rattle.sm_defs.proofs.Members.{among_get_or}
use Rattle.sm_shape.proofs.ListWords.{among_index}

-- of each element behind
abbrev pub Apart : {X : Type 0} → (X → X → Type 0) → List X → Type 0
Apart R [] = Unit {0}
Apart {X} R (x ∷ xs) = ((y : X) → Among xs y → R x y) × Apart R xs

-- of each element before the k-th
abbrev pub New : {X : Type 0} → (X → X → Type 0) → List X → ℕ → X → Type 0
New {X} R xs k d = (q : X) → Among (take k xs) q → R q (get_or xs k d)

pub apart_new : {X : Type 0} (R : X → X → Type 0) (xs : List X) (d : X) → Apart R xs → (k : ℕ) → k < length xs → New R xs k d
apart_new R [] d apart k lt q a = absurd (omega arith)
apart_new R (x ∷ xs) d apart zero lt q a = absurd a
apart_new R (x ∷ xs) d apart (suc k) lt q (inl same) = subst (λ z. R z (get_or xs k d)) (sym same) (apart.0 (get_or xs k d) (among_get_or xs k d (omega arith)))
apart_new R (x ∷ xs) d apart (suc k) lt q (inr later) = apart_new R xs d apart.1 k (omega arith) q later

pub new_apart : {X : Type 0} (R : X → X → Type 0) (xs : List X) (d : X) → ((k : ℕ) → k < length xs → New R xs k d) → Apart R xs
new_apart R [] d new = tt
new_apart R (x ∷ xs) d new = (
  λ y a. let t = among_index xs d y a in subst (R x) t.is (new (suc t.at) (omega (arith, t.in_range)) x (inl refl)),
  new_apart R xs d (λ k lt q a. new (suc k) (omega arith) q (inr a)),
)

-- those with a half have different keys
module _ {X : Type 0} (half : X → Bool) (key : X → ℕ) where
  abbrev pub Differ : X → X → Type 0
  Differ x y = half y ≡ true → half x ≡ true → key x ≢ key y

  kept_apart : (xs : List X) (n : ℕ) → AllByRecursion (λ y. ¬ (key y ≡ n)) (filter half xs) → (y : X) → Among xs y → half y ≡ true → key y ≢ n
  kept_apart [] n all y a h = absurd a
  kept_apart (x ∷ xs) n all y a h = elim (cases_Bool (half x)) [
    | inl has ↦ let both = rw has at all in elim a [ inl same ↦ subst (λ z. key z ≢ n) (sym same) both.0 | inr later ↦ kept_apart xs n both.1 y later h ]
    | inr lacks ↦ elim a [ inl same ↦ absurd (both_ways (half x) lacks (subst (λ z. half z ≡ true) same h)) | inr later ↦ kept_apart xs n (rw lacks at all) y later h ]
  ]

  apart_kept : (xs : List X) (n : ℕ) → ((y : X) → Among xs y → half y ≡ true → key y ≢ n) → AllByRecursion (λ y. ¬ (key y ≡ n)) (filter half xs)
  apart_kept [] n all = tt
  apart_kept (x ∷ xs) n all =
      let rest = apart_kept xs n (λ y a. all y (inr a)) in
      elim (cases_Bool (half x)) [
        | inl has ↦ rw has (all x (inl refl) has, rest)
        | inr lacks ↦ rw lacks rest
      ]

  pub keys_apart : (xs : List X) → KeysDiffer key (filter half xs) → Apart Differ xs
  keys_apart [] d = tt
  keys_apart (x ∷ xs) d = elim (cases_Bool (half x)) [
    | inl has ↦ let both = rw has at d in (λ y a hy hx e. kept_apart xs (key x) both.0 y a hy (sym e), keys_apart xs both.1)
    | inr lacks ↦ (λ y a hy hx e. both_ways (half x) lacks hx, keys_apart xs (rw lacks at d))
  ]

  pub apart_keys : (xs : List X) → Apart Differ xs → KeysDiffer key (filter half xs)
  apart_keys [] d = tt
  apart_keys (x ∷ xs) d =
      let rest = apart_keys xs d.1 in
      elim (cases_Bool (half x)) [
        | inl has ↦ rw has (apart_kept xs (key x) (λ y a hy e. d.0 y a hy has (sym e)), rest)
        | inr lacks ↦ rw lacks rest
      ]
