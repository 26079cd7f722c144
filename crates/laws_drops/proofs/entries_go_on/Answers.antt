use Rattle.laws_drops.proofs.EntryDrops.{entries_go_on}
use Rattle.laws_drops.proofs.entries_go_on.Goals as goal

pub returns : goal.returns
returns c = entries_go_on
