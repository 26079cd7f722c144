-- The options of a line in another order.
use Rattle.std.specs.Prelude.{◌≡◌, ◌↔◌, ℕ, ◌≤◌, ◌++◌, true, List, length, flat_map, Contains}
use Rattle.std.specs.List.{list_all}
use Rattle.sm_grammar.specs.declared.limits.TheConstants.{LONGEST_LINE}
use Rattle.sm_grammar.specs.declared.command.Task.{Task}
use Rattle.sm_grammar.specs.Words.{words_of}
use Rattle.sm_grammar.specs.Table.{form_text}
use Rattle.sm_grammar.specs.Grammar.{is_line_byte}
use Rattle.sm_grammar.specs.Spelling.{Spelled, words_spelled, AreSpelled, SpellsTask}

-- the line has the same options, in this order
pub record IsReordered (line : List ℕ) (task : Task) (s : SpellsTask line task) (other : List ℕ) (spelled : List Spelled) : Type 0 where
  pub words : words_of other ≡ words_of (form_text s.form) ++ flat_map words_spelled spelled
  pub short : length other ≤ LONGEST_LINE
  pub bytes : list_all is_line_byte other ≡ true
  pub each : AreSpelled s.form spelled
  pub same : (t : Spelled) → Contains s.spelled t ↔ Contains spelled t
