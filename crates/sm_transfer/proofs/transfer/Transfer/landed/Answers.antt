use Rattle.std.proofs.Common.{◌∙◌, ap, sym, arith}
use Rattle.sm_defs.specs.Image.{stands}
use Rattle.sm_transfer.specs.Sending.{Sending}
use Rattle.sm_transfer.proofs.LandedLemmas.{stands_marked, past_end}
use Rattle.sm_transfer.proofs.transfer.Transfer.landed.Goals as goal

pub returns-then-index-len : goal.returns-then-index-len
returns-then-index-len c = c.test.ensures ∙ sym (stands_marked c.self.inside.marks c.args.index) ∙ ap (λ (t : Sending). stands c.args.index t.landed) c.self.view_is

pub returns-else-index-len : goal.returns-else-index-len
returns-else-index-len c =
    sym (past_end c.self.inside.marks c.args.index (omega arith)) ∙ sym (stands_marked c.self.inside.marks c.args.index)
    ∙ ap (λ (t : Sending). stands c.args.index t.landed) c.self.view_is
