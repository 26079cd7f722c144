-- Words on lists that the definitions share.
use Rattle.std.specs.Prelude.{◌≡◌, ℕ, suc, ◌<◌, Bool, true, false, cond, ◌==◌, ◌&&◌, ◌⊎◌, List, [], ◌∷◌, Option, Some, None}
use Rattle.std.specs.List.{list_any, AllByRecursion}
use Rattle.sm_base.specs.declared.numbers.Ident.{Ident}

-- x is one of the list
abbrev pub Among : {X : Type 0} → List X → X → Type 0
Among [] x = ⊥
Among (y ∷ ys) x = (x ≡ y) ⊎ Among ys x

-- no two elements have the same key
abbrev pub KeysDiffer : {X K : Type 0} → (X → K) → List X → Type 0
KeysDiffer key [] = Unit {0}
KeysDiffer key (x ∷ xs) = AllByRecursion (λ y. ¬ (key y ≡ key x)) xs × KeysDiffer key xs

-- each number is below all behind it
abbrev pub Ascends : List ℕ → Type 0
Ascends [] = Unit {0}
Ascends (n ∷ ns) = AllByRecursion (λ m. n < m) ns × Ascends ns

-- an element and its place
pub record Found (X : Type 0) : Type 0 where
  pub at : ℕ
  pub item : X

abbrev pub next_place : {X : Type 0} → Option (Found X) → Option (Found X)
next_place None = None
next_place (Some f) = Some (record { at = suc f.at; item = f.item })

-- the first that passes
abbrev pub found : {X : Type 0} → (X → Bool) → List X → Option (Found X)
found test [] = None
found test (x ∷ xs) = cond (test x) (Some (record { at = 0; item = x })) (next_place (found test xs))

-- the first, or else the second
abbrev pub or_else : {X : Type 0} → Option X → Option X → Option X
or_else (Some x) o = Some x
or_else None o = o

-- the last that passes
abbrev pub or_earlier : {X : Type 0} → Option X → Bool → X → Option X
or_earlier (Some y) b x = Some y
or_earlier None true x = Some x
or_earlier None false x = None

abbrev pub last_that : {X : Type 0} → (X → Bool) → List X → Option X
last_that test [] = None
last_that test (x ∷ xs) = or_earlier (last_that test xs) (test x) x

-- what stands behind the first that passes
abbrev pub after : {X : Type 0} → (X → Bool) → List X → List X
after test [] = []
after test (x ∷ xs) = cond (test x) xs (after test xs)

-- the elements up to the first that passes, that one too
abbrev pub up_to : {X : Type 0} → (X → Bool) → List X → List X
up_to test [] = []
up_to test (x ∷ xs) = cond (test x) (x ∷ []) (x ∷ up_to test xs)

abbrev pub same_ident : Ident → Ident → Bool
same_ident i j = (i.origin == j.origin) && (i.seq == j.seq)

abbrev pub is_ident : Option Ident → Ident → Bool
is_ident None i = false
is_ident (Some j) i = same_ident j i

abbrev pub has_ident : List Ident → Ident → Bool
has_ident is i = list_any (λ j. same_ident j i) is
