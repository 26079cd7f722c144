-- Elements of lists, by `Among`.
use Rattle.std.proofs.Common.{◌≡◌, ℕ, zero, suc, ◌+◌, ◌<◌, ◌≤◌, List, [], ◌∷◌, ◌++◌, length, get_or, take, map, refl, sym, ap, subst, ◌∙◌, inl, inr, arith}
use Rattle.std.proofs.lemmas.List.{take_more, take_all}
use Rattle.std.specs.List.{All}
use Rattle.sm_defs.specs.Words.{Among}
use Rattle.sm_defs.proofs.Members.{among_append, among_map, from_map, among_get_or}

pub among_read : {X : Type 0} (xs : List X) (k : ℕ) (x : X) → k < length xs → x ≡ get_or xs k x → Among xs x
among_read xs k x lt is = subst (Among xs) (sym is) (among_get_or xs k x lt)

pub record At (X : Type 0) (xs : List X) (d y : X) : Type 0 where
  pub at : ℕ
  pub in_range : at < length xs
  pub is : get_or xs at d ≡ y

pub among_index : {X : Type 0} (xs : List X) (d y : X) → Among xs y → At X xs d y
among_index [] d y a = absurd a
among_index (x ∷ xs) d y (inl same) = record { at = 0; in_range = omega arith; is = sym same }
among_index (x ∷ xs) d y (inr later) = let t = among_index xs d y later in record { at = suc t.at; in_range = omega (arith, t.in_range); is = t.is }

-- one more of the front
pub front_more : {X : Type 0} (xs : List X) (k : ℕ) (x : X) → k < length xs → x ≡ get_or xs k x → take (k + 1) xs ≡ take k xs ++ x ∷ []
front_more xs k x lt is = take_more xs k x lt ∙ ap (λ y. take k xs ++ y ∷ []) (sym is)

-- what holds of the front and of the next holds of one more
pub each_more : {X : Type 0} (P : X → Type 0) (xs : List X) (k : ℕ) (x : X) → k < length xs → x ≡ get_or xs k x
    → ((y : X) → Among (take k xs) y → P y) → P x → (y : X) → Among (take (k + 1) xs) y → P y
each_more P xs k x lt is before here y a =
    elim (among_append (take k xs) (x ∷ []) y (subst (λ l. Among l y) (front_more xs k x lt is) a)) [
      | inl b ↦ before y b
      | inr (inl same) ↦ subst P (sym same) here
      | inr (inr none) ↦ absurd none
    ]

-- of all the images of elements
pub each_image : {X Y : Type 0} (f : X → Y) (P : Y → Type 0) (xs : List X) → ((x : X) → Among xs x → P (f x)) → (y : Y) → Among (map f xs) y → P y
each_image f P xs all y a = let t = from_map f xs y a in subst P (sym t.2) (all t.0 t.1)

pub image_each : {X Y : Type 0} (f : X → Y) (P : Y → Type 0) (xs : List X) → ((y : Y) → Among (map f xs) y → P y) → (x : X) → Among xs x → P (f x)
image_each f P xs all x a = all (f x) (among_map f xs x a)

pub whole_front : {X : Type 0} (P : X → Type 0) (xs : List X) (k : ℕ) → length xs ≤ k → ((x : X) → Among (take k xs) x → P x) → (x : X) → Among xs x → P x
whole_front P xs k end all x a = all x (subst (λ l. Among l x) (sym (take_all k xs end)) a)

-- `All` and `Among`
pub all_among : {X : Type 0} (P : X → Type 0) (xs : List X) → All P xs → (x : X) → Among xs x → P x
all_among P xs all x a = let t = among_index xs x x a in subst P t.is (all t.at x t.in_range)

pub among_all : {X : Type 0} (P : X → Type 0) (xs : List X) → ((x : X) → Among xs x → P x) → All P xs
among_all P xs each k d lt = each (get_or xs k d) (among_get_or xs k d lt)
