-- A line that spells a task is read as that task.
use Rattle.std.proofs.Common.{◌≡◌, ℕ, ◌≤◌, false, List, [], length, map, flat_map, nat_lt, Ok, Some, ap, ◌∙◌}
use borrow.Author.Tests.{le-ltb}
use Rattle.sm_grammar.specs.declared.limits.TheConstants.{LONGEST_LINE}
use Rattle.sm_grammar.specs.declared.command.Task.{Task}
use Rattle.sm_grammar.specs.declared.table.Form.{Form}
use Rattle.sm_grammar.specs.Words.{words_of}
use Rattle.sm_grammar.specs.Forms.{form_of}
use Rattle.sm_grammar.specs.Options.{value_given}
use Rattle.sm_grammar.specs.Tasks.{task_of}
use Rattle.sm_grammar.specs.Grammar.{too_few, task_behind, task_in}
use Rattle.sm_grammar.specs.Spelling.{Spelled, words_spelled, pair_of, AreSpelled, SpellsTask}
use Rattle.sm_grammar.proofs.TableLemmas.{form_read}
use Rattle.sm_grammar.proofs.OptionSpelled.{options_given, all_fresh}

behind_given : (form : Form) (spelled : List Spelled) (task : Task) → AreSpelled form spelled → too_few (map pair_of spelled) ≡ false → task_of form (value_given (map pair_of spelled)) ≡ Ok task →
    task_behind form (flat_map words_spelled spelled) ≡ Ok task
unfolding task_behind
behind_given form spelled task each enough asks = rw (options_given form spelled [] each (all_fresh spelled), enough) asks

short_enough : (n : ℕ) → n ≤ LONGEST_LINE → nat_lt LONGEST_LINE n ≡ false
short_enough n h = le-ltb LONGEST_LINE n h

pub task_given : (line : List ℕ) (task : Task) → SpellsTask line task → task_in line ≡ Ok task
unfolding task_in
task_given line task s =
    let form : form_of (words_of line) ≡ Some (s.form, flat_map words_spelled s.spelled) = ap form_of s.words ∙ form_read s.form (flat_map words_spelled s.spelled) in
    rw (short_enough (length line) s.short, s.bytes, form) (behind_given s.form s.spelled task s.each s.enough s.asks)
