-- Identities that are new one after the other differ.
use Rattle.std.proofs.Common.{◌≡◌, ℕ, zero, suc, ◌<◌, true, false, cond, List, [], ◌∷◌, ◌++◌, length, get_or, take, map, refl, subst, inl, inr, arith}
use Rattle.std.specs.List.{AllByRecursion}
use Rattle.std.proofs.lemmas.Bool.{cases_Bool, both_ways}
use Rattle.sm_base.specs.declared.numbers.Ident.{Ident}
use Rattle.sm_defs.specs.Words.{Among, KeysDiffer, same_ident, has_ident}
use Rattle.sm_defs.proofs.Idents.{same_is, is_same}
use Rattle.sm_defs.proofs.Members.{any_among, among_any, among_each, among_get_or}
use Rattle.sm_defs.proofs.Keys.{differ_push}

pub among_known : (is : List Ident) (i : Ident) → has_ident is i ≡ true → Among is i
among_known is i e = let (j, a, same) = among_any (λ j. same_ident j i) is e in subst (Among is) (same_is j i same) a

pub known_among : (is : List Ident) (i : Ident) → Among is i → has_ident is i ≡ true
known_among is i a = any_among (λ j. same_ident j i) is i a (is_same i i refl)

-- one more identity is known
pub known_push : (is : List Ident) (j i : Ident) → has_ident (is ++ j ∷ []) i ≡ cond (same_ident j i) true (has_ident is i)
known_push [] j i = elim (cases_Bool (same_ident j i)) [ inl same ↦ rw same refl | inr other ↦ rw other refl ]
known_push (x ∷ is) j i =
    let rest = known_push is j i in
    elim (cases_Bool (same_ident x i)) [
      | inl same ↦ elim (cases_Bool (same_ident j i)) [ inl s ↦ rw (same, s) refl | inr o ↦ rw (same, o) refl ]
      | inr other ↦ rw other rest
    ]

abbrev pub self : Ident → Ident
self i = i

pub push_differ : (is : List Ident) (i : Ident) → KeysDiffer self is → has_ident is i ≡ false → KeysDiffer self (is ++ i ∷ [])
push_differ is i d new = differ_push self is i d (λ j a same. both_ways (has_ident is i) new (known_among is i (subst (Among is) same a)))

-- of identities that differ none comes again
pub not_again : (is : List Ident) (k : ℕ) (d : Ident) → k < length is → KeysDiffer self is → Among (take k is) (get_or is k d) → ⊥
not_again [] k d lt differ a = absurd (omega arith)
not_again (i ∷ is) zero d lt differ a = a
not_again (i ∷ is) (suc k) d lt differ (inl same) = among_each (λ z. ¬ (self z ≡ self i)) is (get_or is k d) differ.0 (among_get_or is k d (omega arith)) same
not_again (i ∷ is) (suc k) d lt differ (inr later) = not_again is k d (omega arith) differ.1 later

module _ (X Y : Type 0) (f : X → Y) (key : Y → Ident) where
  keys_apart : (xs : List X) (i : Ident) → AllByRecursion (λ y. ¬ (key y ≡ i)) (map f xs) → AllByRecursion (λ j. ¬ (self j ≡ i)) (map (λ x. key (f x)) xs)
  keys_apart [] i all = tt
  keys_apart (x ∷ xs) i all = (all.0, keys_apart xs i all.1)

  pub keys_differ : (xs : List X) → KeysDiffer key (map f xs) → KeysDiffer self (map (λ x. key (f x)) xs)
  keys_differ [] d = tt
  keys_differ (x ∷ xs) d = (keys_apart xs (key (f x)) d.0, keys_differ xs d.1)

  apart_keys : (xs : List X) (i : Ident) → AllByRecursion (λ j. ¬ (self j ≡ i)) (map (λ x. key (f x)) xs) → AllByRecursion (λ y. ¬ (key y ≡ i)) (map f xs)
  apart_keys [] i all = tt
  apart_keys (x ∷ xs) i all = (all.0, apart_keys xs i all.1)

  pub differ_keys : (xs : List X) → KeysDiffer self (map (λ x. key (f x)) xs) → KeysDiffer key (map f xs)
  differ_keys [] d = tt
  differ_keys (x ∷ xs) d = (apart_keys xs (key (f x)) d.0, differ_keys xs d.1)
