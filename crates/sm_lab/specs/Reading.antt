-- What was read of a source.
use Rattle.std.specs.Prelude.{◌≡◌, ℕ, ◌+◌, ◌≤◌, List, length, Option, Err}
use Rattle.std.specs.Io.KnownBytes.{prepend_known, IsAtEnd}
use Rattle.sm_base.specs.declared.limits.TheConstants.{LONGEST_SCRIPT}
use Rattle.sm_stream.specs.Whole.{Took}
use Rattle.sm_grammar.specs.Script.{Parsed, parse}
use Rattle.sm_grammar.specs.declared.fault.LineKind.{LineKind}
use Rattle.sm_output.specs.declared.status.Status.{Status}
use Rattle.sm_output.specs.declared.status.Status.TheVariants as statuses

-- The source, of which the first bytes were left, gave all of a text that says this; now the second are left. Of a source that
-- does not tell its bytes that is some text.
pub record Gave (old new : Option (List ℕ)) (parsed : Parsed) : Type 0 where
  pub text : List ℕ
  pub short : length text ≤ LONGEST_SCRIPT
  pub came : old ≡ prepend_known text new
  pub at_end : IsAtEnd new
  pub says : parse text ≡ parsed

-- Why it gave no script, by the status; `failed` says that its count of failures rose. Want of memory has no cause.
pub data GaveNone (old new : Option (List ℕ)) (failed : Type 0) : Status → Type 0 where
  bad_line : (line : ℕ) (kind : LineKind) → Gave old new (Err (record { line = line; kind = kind })) → GaveNone old new failed (statuses.BadLine line kind)
  too_long : Took (LONGEST_SCRIPT + 1) old new → GaveNone old new failed statuses.ScriptTooLong
  read_fault : failed → GaveNone old new failed statuses.ReadFault
  starved : GaveNone old new failed statuses.NoMemory
