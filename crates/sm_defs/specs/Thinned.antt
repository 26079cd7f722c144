-- A list with some members left out.
use Rattle.std.specs.Prelude.{List, [], ◌∷◌}

-- the first list is the second with some members left out, in the same order
pub data Thinned {X : Type 0} : List X → List X → Type 0 where
  end : Thinned [] []
  kept : {x : X} {xs ys : List X} → Thinned xs ys → Thinned (x ∷ xs) (x ∷ ys)
  left_out : {y : X} {xs ys : List X} → Thinned xs ys → Thinned xs (y ∷ ys)
