use Rattle.laws_drops.proofs.Dropping.{answers_drop_named}
use Rattle.laws_drops.proofs.answers_drop_what_is_named.Goals as goal

pub returns : goal.returns
returns c = answers_drop_named
