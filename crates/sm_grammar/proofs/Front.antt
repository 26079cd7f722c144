-- Commands in front of those of the lines that are left.
use Rattle.std.proofs.Common.{List, ◌++◌, Ok, Err}
use Rattle.sm_grammar.specs.declared.command.Command.{Command}
use Rattle.sm_grammar.specs.Script.{Parsed}

abbrev pub with_front : List Command → Parsed → Parsed
with_front front (Ok commands) = Ok (front ++ commands)
with_front front (Err bad) = Err bad
