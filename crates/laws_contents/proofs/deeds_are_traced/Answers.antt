use Rattle.laws_contents.proofs.Traced.{deeds_traced}
use Rattle.laws_contents.proofs.deeds_are_traced.Goals as goal

pub returns : goal.returns
returns c = deeds_traced
