use Rattle.std.proofs.Common.{subst}
use Rattle.sm_model.specs.Answer.{answer}
use Rattle.oracle_volumes.specs.Answering.{IsReplied}
use Rattle.oracle_answers.proofs.Unanswered.{replied}
use Rattle.oracle_answers.proofs.acting.act.Goals as goal

pub returns-in-Some-clause-ok : goal.returns-in-Some-clause-ok
returns-in-Some-clause-ok c = replied c.args.world.now c.args.actor c.args.event.now c.in-Some.reply c.answer.new.world
    (subst (λ o. IsReplied c.args.world.now (answer c.args.world.now c.args.event.now) o c.answer.new.world) c.in-Some.is c.in_ok-reply.ensures.ok)
