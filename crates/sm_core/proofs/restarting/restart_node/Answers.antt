use Rattle.std.proofs.Common.{sym, ap, ◌∙◌, subst, refl, List, Option, None, arith}
use Rattle.sm_base.specs.declared.numbers.Side.{Side}
use Rattle.sm_model.specs.declared.reply.Reply.TheVariants as replies
use Rattle.sm_core.specs.Falling.{deed_now, world_now}
use Rattle.sm_core.specs.Restarting.{pair_of, DoesRestart}
use Rattle.sm_core.specs.declared.down.Down.{Down}
use Rattle.sm_core.proofs.RestartEntry.{restart_done, restart_failed}
use Rattle.sm_core.proofs.restarting.restart_node.Goals as goal

pub restart-requires : goal.restart-requires
restart-requires g c = record { long = c.since-began.ensures.halved.long }

pub returns-in-Ok : goal.returns-in-Ok
returns-in-Ok g c =
    let state = g.D.Disk.state in
    let o = c.args.down.now in
    let n = c.args.node.now in
    let n' = c.restart.new.self in
    let sides = c.args.sides.now.items in
    let began = c.since-began.result in
    let pair = c.since-began.ensures.pair ∙ ap (λ (x : Option (Down _)). pair_of (world_now x n)) c.take.ensures.value in
    let back = c.in-Ok.ensures.returns (deed_now began) c.since-began.ensures.halved in
    let does = restart_done state o n n' sides (deed_now began) c.restart.new.side pair c.since-began.ensures.sound c.restarts_stay_sound.ensures
    (λ e. let fresh = c.since-began.ensures.fresh (c.take.ensures.value ∙ e) in c.restart.ensures.side fresh.1 ∙ fresh.0) c.restart.ensures.counts back in
    subst (λ (d : Option (Down _)). DoesRestart state replies.Done o n sides d n' c.push_reserved.new.self.items) (sym c.take.ensures.after)
    (subst (λ (ss : List Side). DoesRestart state replies.Done o n sides None n' ss) (sym c.push_reserved.ensures.items) does)

pub returns-in-Err : goal.returns-in-Err
returns-in-Err g c =
    let n = c.args.node.now in
    let began = c.since-began.result in
    let x : Down _ = record { disk = c.in-Err.disk; side = c.restart.new.side; actor = began.actor; event = began.event; node = began.node } in
    let pair = c.since-began.ensures.pair ∙ ap (λ (y : Option (Down _)). pair_of (world_now y n)) c.take.ensures.value in
    restart_failed g.D.Disk.state c.args.down.now n c.restart.new.self c.args.sides.now.items (deed_now began) c.restart.new.side pair c.since-began.ensures.sound
    x c.in-Err.disk c.in-Err.faults refl refl refl c.in-Err.ensures.failed c.told_count.ensures c.in-Err.ensures.rises (c.in-Err.ensures.stays (deed_now began) c.since-began.ensures.halved)
