use Rattle.laws_cases.proofs.Needed.NeedsStay.{answers_keep}
use Rattle.laws_cases.proofs.answers_keep_the_needed.Goals as goal

pub returns : goal.returns
returns c = answers_keep
