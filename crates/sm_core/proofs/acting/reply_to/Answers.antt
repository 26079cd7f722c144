use Rattle.std.proofs.Common.{sym, subst, Option, Some}
use Rattle.sm_model.specs.LegalRun.{is_down}
use Rattle.sm_core.specs.Falling.{IsCatalogue, IsSoundNow, world_now}
use Rattle.sm_core.specs.Doing.{DoesOne, IsServedIn}
use Rattle.sm_core.specs.declared.down.Down.{Down}
use Rattle.sm_core.proofs.Entries.{one_down}
use Rattle.sm_core.proofs.acting.reply_to.Goals as goal

pub returns-in-Some-clause-ok : goal.returns-in-Some-clause-ok
returns-in-Some-clause-ok g c =
    let state = g.D.Disk.state in
    let n = c.args.node.now in
    let since = c.in-Some.since in
    let e = c.args.event.now in
    let stands = subst (λ (d : Option (Down _)). IsCatalogue state d n) c.in-Some.is c.requires.stands in
    let sound = subst (λ (d : Option (Down _)). IsSoundNow d n) c.in-Some.is c.requires.sound in
    let served = subst (λ (d : Option (Down _)). IsServedIn (world_now d n) e) c.in-Some.is c.requires.served in
    subst (λ r. DoesOne state c.args.actor e r c.args.down.now n (Some since) n) (sym c.still_down.ensures.kept)
    (subst (λ (d : Option (Down _)). DoesOne state c.args.actor e (is_down since.disk.0) d n (Some since) n) (sym c.in-Some.is)
    (one_down state c.args.actor e served n since stands sound))
