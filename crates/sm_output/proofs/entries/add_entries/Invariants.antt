use Rattle.std.proofs.Common.{◌≡◌, take}
use Rattle.sm_report.specs.Transcript.{transcript}
use Rattle.sm_output.proofs.entries.add_entries.Given as goal

abbrev pub invariant-loop-entry : goal.invariant-loop-entry
invariant-loop-entry l = l.text.items ≡ transcript (take l.entry-index l.history)
