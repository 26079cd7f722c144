use Rattle.std.proofs.Common.{refl}
use Rattle.std.proofs.lemmas.Result.{IfOk-weaker}
use Rattle.sm_crew.proofs.step.act_for.Goals as goal

pub returns-clause-one : goal.returns-clause-one
returns-clause-one g c =
    IfOk-weaker c.act-reply.result _ _ (λ reply h.
    (h.kept, h.tells, record { asked = c.requires.asked; reply = reply; acts = h; kept = refl; stands = c.told.ensures })) c.act-reply.ensures.one
