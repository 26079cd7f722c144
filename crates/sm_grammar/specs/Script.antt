-- The commands of a script, or its first bad line.
use Rattle.std.specs.Prelude.{◌≡◌, ℕ, ◌+◌, if◌then◌else◌, List, [], ◌∷◌, Result, Ok, Err}
use Rattle.sm_grammar.specs.declared.command.Command.{Command}
use Rattle.sm_grammar.specs.declared.command.Task.{Task}
use Rattle.sm_grammar.specs.declared.fault.LineKind.{LineKind}
use Rattle.sm_grammar.specs.declared.fault.ScriptFault.{ScriptFault}
use Rattle.sm_grammar.specs.declared.fault.ScriptFault.TheVariants as faults
use Rattle.sm_grammar.specs.Lines.{lines_of}
use Rattle.sm_grammar.specs.Grammar.{is_skipped, task_in}

-- the first bad line, and what is wrong with it
pub record Bad : Type 0 where
  pub line : ℕ
  pub kind : LineKind

abbrev pub Parsed : Type 0
Parsed = Result (List Command) Bad

abbrev pub with_first : ℕ → Result Task LineKind → Parsed → Parsed
with_first n (Err kind) rest = Err (record { line = n; kind = kind })
with_first n (Ok task) (Ok commands) = Ok (record { line = n; task = task } ∷ commands)
with_first n (Ok task) (Err bad) = Err bad

-- the commands of these lines, of which the first has this number
abbrev pub commands_from : ℕ → List (List ℕ) → Parsed
commands_from n [] = Ok []
commands_from n (line ∷ lines) = if is_skipped line then commands_from (n + 1) lines else with_first n (task_in line) (commands_from (n + 1) lines)

abbrev pub parse : List ℕ → Parsed
parse text = commands_from 1 (lines_of text)

-- a fault says what is wrong with the script, or that memory ran out
abbrev pub Tells : ScriptFault → Parsed → Type 0
Tells (faults.BadLine line kind) parsed = parsed ≡ Err (record { line = line; kind = kind })
Tells faults.NoMemory parsed = Unit {0}
