use Rattle.std.proofs.Common.{sym, subst}
use Rattle.std.proofs.lemmas.Result.{IfOk-weaker}
use Rattle.sm_fields.specs.Grammar.{digits}
use Rattle.sm_slots.specs.Stored.{IsFramed}
use Rattle.sm_slots.proofs.Framed.{framed_record}
use Rattle.tests_slots.proofs.tests.framed.Goals as goal

pub returns : goal.returns
unfolding digits
returns c = IfOk-weaker c.framed.result _ _
    (λ made is. subst IsFramed (sym is) (framed_record c.args.magic.now c.args.body.now c.requires.eight c.requires.not_blank c.requires.short)) c.framed.ensures
