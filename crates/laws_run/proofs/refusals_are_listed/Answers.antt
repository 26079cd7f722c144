use Rattle.laws_run.proofs.Listing.{refusal_listed}
use Rattle.laws_run.proofs.refusals_are_listed.Goals as goal

pub returns : goal.returns
returns c = refusal_listed
