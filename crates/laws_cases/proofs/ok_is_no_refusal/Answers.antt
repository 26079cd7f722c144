use Rattle.laws_cases.proofs.Answers.Deeds.{ok_is_no_refusal}
use Rattle.laws_cases.proofs.ok_is_no_refusal.Goals as goal

pub returns : goal.returns
returns c = ok_is_no_refusal
