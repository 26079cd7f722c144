use Rattle.std.proofs.Common.{get_or, arith}
use Rattle.std.proofs.lemmas.Option.{slice_get-get_or, slice_get_within}
use Rattle.sm_node.proofs.SpareTurning.{spares_stay, spares_one, synced_one}
use Rattle.sm_node.proofs.restarting.restart_spares.Goals as goal

pub loop-at-init : goal.loop-at-init
loop-at-init g c = record { turns = spares_stay g.D.Disk.state c.args.spares.now; synced = λ k x lt e. absurd (omega (arith, lt)) }

pub loop-at-preserved : goal.loop-at-preserved
loop-at-preserved g c =
    let mids = c.loop-at.spares in
    let x = get_or mids c.loop-at.at c.index-spares-at.result in
    let lt = c.loop-at-test.true in
    let long = c.loop-at.auto.spares in
    let there = slice_get-get_or mids c.loop-at.at c.index-spares-at.result (omega (arith, lt, long)) in
    record {
      turns = spares_one g.D.Disk.state c.args.spares.now mids c.loop-at.at x c.restart_spare.new.spare c.loop-at.invariant.turns there c.restart_spare.ensures.turns;
      synced = synced_one g.D.Disk.state mids c.loop-at.at x c.restart_spare.new.spare there c.restart_spare.ensures.synced c.loop-at.invariant.synced;
    }

pub returns-clause-synced : goal.returns-clause-synced
returns-clause-synced g c = λ k x e. c.loop-at.invariant.synced k x (let lt = slice_get_within c.loop-at.spares k _ e in let no = c.loop-at-test.false in let long = c.loop-at.auto.spares in omega (arith, lt, no, long)) e
