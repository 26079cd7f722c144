use Rattle.std.proofs.Common.{◌≡◌, take}
use Rattle.sm_output.specs.Listing.{listing}
use Rattle.sm_output.proofs.entries.lines_of.Given as goal

abbrev pub invariant-loop-entry : goal.invariant-loop-entry
invariant-loop-entry l = l.lines.items ≡ listing (take l.entry-index l.history)
