use Rattle.std.proofs.Common.{sym, ap, ◌∙◌, subst, refl, Option, Some, Err}
use Rattle.sm_base.specs.declared.numbers.Side.TheVariants.{Before}
use Rattle.sm_model.specs.LegalRun.{fault}
use Rattle.sm_node.specs.Nodes.{world_of}
use Rattle.sm_node.specs.Acts.{Acts}
use Rattle.sm_node.specs.Served.{first_of}
use Rattle.sm_core.specs.Falling.{IsSoundNow}
use Rattle.sm_core.specs.Doing.{DoesOne}
use Rattle.sm_core.specs.declared.down.Down.{Down}
use Rattle.sm_core.proofs.Entries.{one_done, one_failed}
use Rattle.sm_core.proofs.acting.try_event.Goals as goal

pub act-requires-clause-new : goal.act-requires-clause-new
act-requires-clause-new g c =
    let n = c.args.node.now in
    let sound = subst (λ (d : Option (Down _)). IsSoundNow d n) c.requires.up c.requires.sound in
    λ at v there. c.identities_are_new.ensures (world_of n) at v sound there

pub returns-in-Ok-clause-ok : goal.returns-in-Ok-clause-ok
returns-in-Ok-clause-ok g c =
    let state = g.D.Disk.state in
    let n = c.args.node.now in
    let a = c.act.ensures.acts in
    let acts = subst (λ r. Acts state a.0 n (first_of r) c.act.new.node) c.in-Ok.is a.2 in
    let sound = subst (λ (d : Option (Down _)). IsSoundNow d n) c.requires.up c.requires.sound in
    subst (λ (d : Option (Down _)). DoesOne state c.args.actor c.args.event.now c.in-Ok.replies.0 d n d c.act.new.node) (sym c.requires.up)
    (one_done state c.blanked_stays_sound.ensures c.args.actor c.args.event.now n c.act.new.node c.requires.served c.requires.given sound a.0 a.1 c.in-Ok.replies.0 acts)

pub returns-in-Err-Down-clause-ok : goal.returns-in-Err-Down-clause-ok
returns-in-Err-Down-clause-ok g c =
    let state = g.D.Disk.state in
    let n = c.args.node.now in
    let a = c.act.ensures.acts in
    let disk = c.in-Err-Down.disk in
    let count = c.in-Err-Down.faults in
    let acts = subst (λ r. Acts state a.0 n (first_of r) c.act.new.node) (c.in-Err-Down.is ∙ ap Err c.in-Err-Down.field-0-is) a.2 in
    let x : Down _ = record { disk = disk; side = Before; actor = c.args.actor; event = c.of.result; node = c.of-before.result } in
    let sound = subst (λ (d : Option (Down _)). IsSoundNow d n) c.requires.up c.requires.sound in
    subst (λ (d : Option (Down _)). DoesOne state c.args.actor c.args.event.now (fault disk count) d n (Some x) c.act.new.node) (sym c.requires.up)
    (one_failed state c.blanked_stays_sound.ensures c.args.actor c.args.event.now n c.act.new.node c.requires.served c.requires.given sound disk count x refl refl c.of.ensures c.of-before.ensures refl c.told.ensures.root c.told.ensures.node a.0 a.1 acts)
