use Rattle.laws_drops.proofs.EntryDrops.{entries_drop_named}
use Rattle.laws_drops.proofs.entries_drop_what_is_named.Goals as goal

pub returns : goal.returns
returns c = entries_drop_named
