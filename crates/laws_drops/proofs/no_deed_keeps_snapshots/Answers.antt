use Rattle.laws_drops.proofs.EntryDrops.{no_deed_keeps}
use Rattle.laws_drops.proofs.no_deed_keeps_snapshots.Goals as goal

pub returns : goal.returns
returns c = no_deed_keeps
