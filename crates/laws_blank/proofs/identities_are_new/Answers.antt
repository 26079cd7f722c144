use Rattle.laws_blank.proofs.Fresh.{idents_are_new}
use Rattle.laws_blank.proofs.identities_are_new.Goals as goal

pub returns : goal.returns
returns c = idents_are_new
