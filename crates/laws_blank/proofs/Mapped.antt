-- What a search through a list finds where each element was changed in what the search does not look at.
use Rattle.std.proofs.Common.{◌≡◌, ◌||◌, Bool, true, false, cond, List, [], ◌∷◌, map, Option, Some, None, option_map, refl, ap, ◌∙◌}
use Rattle.std.specs.List.{list_any, filter, find}
use Rattle.sm_defs.specs.Words.{Found, found, next_place, last_that, or_earlier, after, up_to}
use Rattle.sm_defs.specs.Edges.{is_empty}

abbrev pub on : {X Y : Type 0} → (X → Y) → Found X → Found Y
on f x = record { at = x.at; item = f x.item }

module _ {X Y : Type 0} (f : X → Y) where
  pub one_or_other : (b : Bool) (xs ys : List X) → cond b (map f xs) (map f ys) ≡ map f (cond b xs ys)
  one_or_other true xs ys = refl
  one_or_other false xs ys = refl

  first_or_later : (b : Bool) (x : X) (o : Option (Found X)) → cond b (Some (record { at = 0; item = f x })) (next_place (option_map (on f) o)) ≡ option_map (on f) (cond b (Some (record { at = 0; item = x })) (next_place o))
  first_or_later true x o = refl
  first_or_later false x None = refl
  first_or_later false x (Some g) = refl

  pub found_mapped : (test : Y → Bool) (xs : List X) → found test (map f xs) ≡ option_map (on f) (found (λ x. test (f x)) xs)
  found_mapped test [] = refl
  found_mapped test (x ∷ xs) =
      ap (λ (o : Option (Found Y)). cond (test (f x)) (Some (record { at = 0; item = f x })) (next_place o)) (found_mapped test xs)
      ∙ first_or_later (test (f x)) x (found (λ y. test (f y)) xs)

  this_or_next : (b : Bool) (x : X) (o : Option X) → cond b (Some (f x)) (option_map f o) ≡ option_map f (cond b (Some x) o)
  this_or_next true x o = refl
  this_or_next false x o = refl

  pub find_mapped : (test : Y → Bool) (xs : List X) → find test (map f xs) ≡ option_map f (find (λ x. test (f x)) xs)
  find_mapped test [] = refl
  find_mapped test (x ∷ xs) = ap (λ (o : Option Y). cond (test (f x)) (Some (f x)) o) (find_mapped test xs) ∙ this_or_next (test (f x)) x (find (λ y. test (f y)) xs)

  later_or_this : (o : Option X) (b : Bool) (x : X) → or_earlier (option_map f o) b (f x) ≡ option_map f (or_earlier o b x)
  later_or_this (Some y) b x = refl
  later_or_this None true x = refl
  later_or_this None false x = refl

  pub last_mapped : (test : Y → Bool) (xs : List X) → last_that test (map f xs) ≡ option_map f (last_that (λ x. test (f x)) xs)
  last_mapped test [] = refl
  last_mapped test (x ∷ xs) = ap (λ (o : Option Y). or_earlier o (test (f x)) (f x)) (last_mapped test xs) ∙ later_or_this (last_that (λ y. test (f y)) xs) (test (f x)) x

  pub any_mapped : (test : Y → Bool) (xs : List X) → list_any test (map f xs) ≡ list_any (λ x. test (f x)) xs
  any_mapped test [] = refl
  any_mapped test (x ∷ xs) = ap (λ (b : Bool). test (f x) || b) (any_mapped test xs)

  pub filter_mapped : (test : Y → Bool) (xs : List X) → filter test (map f xs) ≡ map f (filter (λ x. test (f x)) xs)
  filter_mapped test [] = refl
  filter_mapped test (x ∷ xs) = ap (λ (ys : List Y). cond (test (f x)) (f x ∷ ys) ys) (filter_mapped test xs) ∙ one_or_other (test (f x)) (x ∷ filter (λ y. test (f y)) xs) (filter (λ y. test (f y)) xs)

  pub after_mapped : (test : Y → Bool) (xs : List X) → after test (map f xs) ≡ map f (after (λ x. test (f x)) xs)
  after_mapped test [] = refl
  after_mapped test (x ∷ xs) = ap (λ (ys : List Y). cond (test (f x)) (map f xs) ys) (after_mapped test xs) ∙ one_or_other (test (f x)) xs (after (λ y. test (f y)) xs)

  pub up_to_mapped : (test : Y → Bool) (xs : List X) → up_to test (map f xs) ≡ map f (up_to (λ x. test (f x)) xs)
  up_to_mapped test [] = refl
  up_to_mapped test (x ∷ xs) = ap (λ (ys : List Y). cond (test (f x)) (f x ∷ []) (f x ∷ ys)) (up_to_mapped test xs) ∙ one_or_other (test (f x)) (x ∷ []) (x ∷ up_to (λ y. test (f y)) xs)

  pub empty_mapped : (xs : List X) → is_empty (map f xs) ≡ is_empty xs
  empty_mapped [] = refl
  empty_mapped (x ∷ xs) = refl
