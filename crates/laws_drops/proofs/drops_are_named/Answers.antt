use Rattle.laws_drops.proofs.Dropping.{drops_are_named}
use Rattle.laws_drops.proofs.drops_are_named.Goals as goal

pub returns : goal.returns
returns c = drops_are_named
