use Rattle.std.proofs.Common.{refl}
use Rattle.sm_defs.specs.Pruning.{is_pruned}
use Rattle.sm_publish.proofs.GoingLemmas.{pruned_on, went_through}
use Rattle.sm_publish.proofs.marking.pruned.Goals as goal

pub loop-at-preserved : goal.loop-at-preserved
loop-at-preserved c = λ needs there ss a e f.
    pruned_on c.args.policy.now needs c.args.source.now there ss c.args.snapshots.now c.args.holders.now c.loop-at.at c.index-snapshots-at.result _ _ c.sends_all-all.result c.is_pruned-goes.result c.loop-at.drops.items c.push_if.new.drops.items
    c.requires c.loop-at-test.true c.index-snapshots-at.is refl c.sends_all-all.ensures c.is_pruned-goes.ensures c.in_ok-push_if.ensures a e f (c.loop-at.invariant needs there ss a e f)

pub returns : goal.returns
returns c = λ needs there ss a e f.
    went_through (is_pruned c.args.policy.now needs there) ss c.args.snapshots.now c.loop-at.at c.loop-at.drops.items e c.loop-at-test.false (c.loop-at.invariant needs there ss a e f)
