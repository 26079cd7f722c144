use Rattle.laws_blank.proofs.Commuting.{commutes}
use Rattle.laws_blank.proofs.answers_commute.Goals as goal

pub returns : goal.returns
returns c = commutes
