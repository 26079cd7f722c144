-- A task that was read is spelled by its line.
use Rattle.std.proofs.Common.{◌≡◌, ℕ, ◌≤◌, ◌++◌, true, false, not, cond, List, [], length, nat_lt, Ok, Err, ok_or, sym, ap, ◌∙◌}
use Rattle.std.specs.List.{list_all}
use borrow.Author.Tests.{ltb-false, not-false}
use Rattle.sm_grammar.specs.declared.limits.TheConstants.{LONGEST_LINE}
use Rattle.sm_grammar.specs.declared.command.Task.{Task}
use Rattle.sm_grammar.specs.declared.given.Pair.{Pair}
use Rattle.sm_grammar.specs.declared.table.Form.{Form}
use Rattle.sm_grammar.specs.declared.fault.LineKind.TheVariants.{TooLong, BadByte, UnknownCommand, BadNumber}
use Rattle.sm_grammar.specs.Fault.{◌>>=◌}
use Rattle.sm_grammar.specs.Words.{words_of}
use Rattle.sm_grammar.specs.Table.{form_text}
use Rattle.sm_grammar.specs.Forms.{form_of}
use Rattle.sm_grammar.specs.Options.{options, value_given}
use Rattle.sm_grammar.specs.Tasks.{task_of}
use Rattle.sm_grammar.specs.Grammar.{is_line_byte, too_few, task_behind, task_in}
use Rattle.sm_grammar.specs.Spelling.{SpellsTask}
use Rattle.sm_grammar.proofs.Taken.{bind_taken, not_first, some_taken}
use Rattle.sm_grammar.proofs.FormTaken.{form_taken}
use Rattle.sm_grammar.proofs.OptionTaken.{Taken, options_taken}

-- the parts of a line that was read
spelled_so : (line : List ℕ) (task : Task) (form : Form) (rest : List (List ℕ)) (given : List Pair) → Taken form rest [] given → words_of line ≡ words_of (form_text form) ++ rest → length line ≤ LONGEST_LINE → list_all is_line_byte line ≡ true →
    too_few given ≡ false → task_of form (value_given given) ≡ Ok task → SpellsTask line task
spelled_so line task form rest given taken named short bytes enough asks = record {
  form = form;
  spelled = taken.spelled;
  words = named ∙ ap (λ ws. words_of (form_text form) ++ ws) taken.are;
  short = short;
  bytes = bytes;
  each = taken.each;
  enough = ap too_few (sym taken.pairs) ∙ enough;
  asks = ap (λ g. task_of form (value_given g)) (sym taken.pairs) ∙ asks;
}

pub task_taken : (line : List ℕ) (task : Task) → task_in line ≡ Ok task → SpellsTask line task
unfolding task_in task_behind
task_taken line task e =
    let long = not_first (nat_lt LONGEST_LINE (length line)) TooLong (cond (not (list_all is_line_byte line)) (Err BadByte) (ok_or (form_of (words_of line)) UnknownCommand >>= λ f. task_behind f.0 f.1)) task e in
    let bytes = not_first (not (list_all is_line_byte line)) BadByte (ok_or (form_of (words_of line)) UnknownCommand >>= λ f. task_behind f.0 f.1) task long.1 in
    let form = bind_taken (ok_or (form_of (words_of line)) UnknownCommand) (λ f. task_behind f.0 f.1) task bytes.1 in
    let named = form_taken form.0.0 (words_of line) form.0.1 (some_taken (form_of (words_of line)) UnknownCommand form.0 form.1) in
    let read = bind_taken (options form.0.0 form.0.1 []) (λ given. cond (too_few given) (Err BadNumber) (task_of form.0.0 (value_given given))) task form.2 in
    let enough = not_first (too_few read.0) BadNumber (task_of form.0.0 (value_given read.0)) task read.2 in
    let taken = options_taken form.0.0 form.0.1 [] read.0 read.1 in
    spelled_so line task form.0.0 form.0.1 read.0 taken named (ltb-false LONGEST_LINE (length line) long.0) (not-false (list_all is_line_byte line) bytes.0) enough.0 enough.1
