use Rattle.laws_cases.proofs.Needed.NeedsStay.{deeds_keep}
use Rattle.laws_cases.proofs.deeds_keep_the_needed.Goals as goal

pub returns : goal.returns
returns c = deeds_keep
