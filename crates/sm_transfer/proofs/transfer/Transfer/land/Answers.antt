use Rattle.std.proofs.Common.{◌≡◌, ◌<◌, ℕ, List, false, length, ◌∙◌, ap, sym, subst, arith}
use Rattle.sm_defs.specs.Image.{stands}
use Rattle.sm_select.specs.Planned.{members}
use Rattle.sm_transfer.specs.Sending.{Sending, with_landed}
use Rattle.sm_transfer.proofs.LandedLemmas.{set_landed, stands_marked}
use Rattle.sm_transfer.proofs.transfer.Transfer.land.Goals as goal

pub returns : goal.returns
returns c =
    let old = c.self.inside in
    let index = c.args.index in
    let less : index < length old.plan.pairs = subst (λ (t : Sending). index < length t.plan.pairs) (sym c.self.view_is) c.requires.within in
    let fresh : stands index (members old.marks) ≡ false = subst (λ (t : Sending). stands index t.landed ≡ false) (sym c.self.view_is) c.requires.fresh in
    let more = set_landed old.marks index (let long = c.self.invariant.long in omega arith) (sym (stands_marked old.marks index) ∙ fresh) in
    ap (λ (ls : List ℕ). (let t : Sending = record { plan = old.plan; landed = ls; checkpoint = old.checkpoint; stopped = old.stopped } in t)) (ap members c.set.ensures ∙ more)
    ∙ ap (λ (t : Sending). with_landed t index) c.self.view_is
