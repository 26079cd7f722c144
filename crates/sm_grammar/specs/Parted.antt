-- Words parted by blanks.
use Rattle.std.specs.Prelude.{◌≡◌, ℕ, Bool, true, not, List, [], ◌∷◌, ◌++◌}
use Rattle.std.specs.List.{list_all}
use Rattle.sm_grammar.specs.Words.{is_blank, is_word}

-- a word, and the blanks before it
pub record Placed : Type 0 where
  pub blanks : List ℕ
  pub word : List ℕ

abbrev pub parted : List Placed → List ℕ → List ℕ
parted [] end = end
parted (p ∷ ps) end = p.blanks ++ (p.word ++ parted ps end)

abbrev pub all_blank : List ℕ → Bool
all_blank text = list_all is_blank text

-- a word has bytes, and none of them is a blank
pub record IsPlaced (p : Placed) : Type 0 where
  pub blank : all_blank p.blanks ≡ true
  pub some : is_word p.word ≡ true
  pub solid : list_all (λ b. not (is_blank b)) p.word ≡ true

-- a blank at least stands before each of these
abbrev pub AreApart : List Placed → Type 0
AreApart [] = Unit {0}
AreApart (p ∷ ps) = IsPlaced p × (is_word p.blanks ≡ true) × AreApart ps

-- the first may begin at once
abbrev pub AreParted : List Placed → List ℕ → Type 0
AreParted [] end = all_blank end ≡ true
AreParted (p ∷ ps) end = IsPlaced p × AreApart ps × (all_blank end ≡ true)
