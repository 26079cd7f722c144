-- The commands of a script are those that its lines spell.
use Rattle.std.proofs.Common.{◌≡◌, ◌↔◌, ℕ, ◌+◌, Bool, true, false, cond, List, [], ◌∷◌, Result, Ok, Err, MatchBool, refl, sym, ap}
use Rattle.sm_grammar.specs.declared.command.Command.{Command}
use Rattle.sm_grammar.specs.declared.fault.LineKind.{LineKind}
use Rattle.sm_grammar.specs.declared.command.Task.{Task}
use Rattle.sm_grammar.specs.Grammar.{is_skipped, task_in}
use Rattle.sm_grammar.specs.Lines.{lines_of}
use Rattle.sm_grammar.specs.Script.{Parsed, with_first, commands_from, parse}
use Rattle.sm_grammar.specs.Spelling.{SpellsTask}
use Rattle.sm_grammar.specs.Spelled.{LinesSpell}
use Rattle.sm_grammar.proofs.TaskSpelled.{task_given}
use Rattle.sm_grammar.proofs.TaskTaken.{task_taken}

abbrev Gives : Parsed → List Command → Type 0
Gives parsed commands = parsed ≡ Ok commands

abbrev given_or : List Command → Parsed → List Command
given_or other (Ok commands) = commands
given_or other (Err bad) = other

same_given : (given commands : List Command) → Gives (Ok given) commands → commands ≡ given
same_given given commands e = sym (ap (given_or given) e)

-- the first command and those behind it
record First (n : ℕ) (read : Result Task LineKind) (rest : Parsed) (commands : List Command) : Type 0 where
  task : Task
  more : List Command
  first : read ≡ Ok task
  behind : Gives rest more
  are : commands ≡ record { line = n; task = task } ∷ more

first_taken : (n : ℕ) (read : Result Task LineKind) (rest : Parsed) (commands : List Command) → Gives (with_first n read rest) commands → First n read rest commands
first_taken n (Err kind) rest commands e = absurd (cc)
first_taken n (Ok task) (Err bad) commands e = absurd (cc)
first_taken n (Ok task) (Ok more) commands e =
    record { task = task; more = more; first = refl; behind = refl; are = same_given (record { line = n; task = task } ∷ more) commands e }

line_taken : (n : ℕ) (line : List ℕ) (lines : List (List ℕ)) (commands : List Command) (t : Bool) → Gives (cond t (commands_from (n + 1) lines) (with_first n (task_in line) (commands_from (n + 1) lines))) commands →
    ((more : List Command) → Gives (commands_from (n + 1) lines) more → LinesSpell (n + 1) lines more) →
    MatchBool t (LinesSpell (n + 1) lines commands) ((first : Command) × (more : List Command) × (commands ≡ first ∷ more) × (first.line ≡ n) × SpellsTask line first.task × LinesSpell (n + 1) lines more)
line_taken n line lines commands true e rest = rest commands e
line_taken n line lines commands false e rest =
    let f = first_taken n (task_in line) (commands_from (n + 1) lines) commands e in
    (record { line = n; task = f.task }, f.more, f.are, refl, task_taken line f.task f.first, rest f.more f.behind)

lines_taken : (n : ℕ) (lines : List (List ℕ)) (commands : List Command) → Gives (commands_from n lines) commands → LinesSpell n lines commands
lines_taken n [] commands e = same_given [] commands e
lines_taken n (line ∷ lines) commands e = line_taken n line lines commands (is_skipped line) e (λ more h. lines_taken (n + 1) lines more h)

line_given : (n : ℕ) (line : List ℕ) (lines : List (List ℕ)) (commands : List Command) (t : Bool) →
    MatchBool t (LinesSpell (n + 1) lines commands) ((first : Command) × (more : List Command) × (commands ≡ first ∷ more) × (first.line ≡ n) × SpellsTask line first.task × LinesSpell (n + 1) lines more) →
    ((more : List Command) → LinesSpell (n + 1) lines more → Gives (commands_from (n + 1) lines) more) →
    Gives (cond t (commands_from (n + 1) lines) (with_first n (task_in line) (commands_from (n + 1) lines))) commands
line_given n line lines commands true s rest = rest commands s
line_given n line lines commands false (first, more, are, number, spells, behind) rest =
    rw (task_given line first.task spells, rest more behind, are, ← number) refl

lines_given : (n : ℕ) (lines : List (List ℕ)) (commands : List Command) → LinesSpell n lines commands → Gives (commands_from n lines) commands
lines_given n [] commands s = ap Ok (sym s)
lines_given n (line ∷ lines) commands s = line_given n line lines commands (is_skipped line) s (λ more h. lines_given (n + 1) lines more h)

pub script_spelled : (text : List ℕ) (commands : List Command) → (parse text ≡ Ok commands) ↔ LinesSpell 1 (lines_of text) commands
script_spelled text commands = (lines_taken 1 (lines_of text) commands, lines_given 1 (lines_of text) commands)
