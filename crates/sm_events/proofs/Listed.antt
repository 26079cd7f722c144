-- The lines of relationships.
use Rattle.std.proofs.Common.{◌≡◌, ℕ, ◌+◌, List, [], ◌∷◌, ◌++◌, map, take, sym, ap, ◌∙◌, Some}
use Rattle.std.specs.Prelude.{slice_get}
use Rattle.std.proofs.lemmas.List.{map-append, take_more}
use Rattle.std.proofs.lemmas.Option.{get_or_from_slice_get, slice_get_within}

-- one line more
pub lines_on : {X Y : Type 0} (f : X → Y) (xs : List X) (i j : ℕ) (x : X) (lines more : List Y) → j ≡ i + 1 → slice_get xs i ≡ Some x → lines ≡ map f (take i xs) → more ≡ lines ++ f x ∷ [] → more ≡ map f (take j xs)
lines_on f xs i j x lines more after is so_far pushed =
    pushed ∙ ap (λ ls. ls ++ f x ∷ []) so_far ∙ sym (map-append f (take i xs) (x ∷ []))
    ∙ ap (λ y. map f (take i xs ++ y ∷ [])) (sym (get_or_from_slice_get xs i x x is))
    ∙ sym (ap (map f) (take_more xs i x (slice_get_within xs i x is)))
    ∙ ap (λ (n : ℕ). map f (take n xs)) (sym after)
