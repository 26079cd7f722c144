-- Texts are put together from the left.
use Rattle.std.specs.Prelude.{ℕ, List, ◌++◌}

-- one text after another
infixr 5 ◌then◌
abbrev pub ◌then◌ : List ℕ → List ℕ → List ℕ
xs then ys = xs ++ ys
