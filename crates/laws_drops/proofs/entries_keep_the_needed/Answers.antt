use Rattle.laws_drops.proofs.EntryDrops.{entries_keep_needed}
use Rattle.laws_drops.proofs.entries_keep_the_needed.Goals as goal

pub returns : goal.returns
returns c = entries_keep_needed
