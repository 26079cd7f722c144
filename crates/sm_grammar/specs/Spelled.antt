-- A script spells its commands, line by line.
use Rattle.std.specs.Prelude.{◌≡◌, ℕ, ◌+◌, List, [], ◌∷◌, MatchBool}
use Rattle.sm_grammar.specs.declared.command.Command.{Command}
use Rattle.sm_grammar.specs.Grammar.{is_skipped}
use Rattle.sm_grammar.specs.Spelling.{SpellsTask}

-- the lines from the n-th on spell these commands, one each, but for the lines that are skipped
abbrev pub LinesSpell : ℕ → List (List ℕ) → List Command → Type 0
LinesSpell n [] commands = commands ≡ []
LinesSpell n (line ∷ lines) commands =
    MatchBool (is_skipped line) (LinesSpell (n + 1) lines commands)
    ((first : Command) × (more : List Command) × (commands ≡ first ∷ more) × (first.line ≡ n) × SpellsTask line first.task × LinesSpell (n + 1) lines more)
