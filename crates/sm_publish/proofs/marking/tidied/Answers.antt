use Rattle.std.proofs.Common.{refl}
use Rattle.sm_publish.proofs.GoingLemmas.{tidied_on, went_through}
use Rattle.sm_publish.specs.Dropping.{tidied_by}
use Rattle.sm_publish.proofs.marking.tidied.Goals as goal

pub loop-at-preserved : goal.loop-at-preserved
loop-at-preserved c = λ needs ss e f.
    tidied_on c.args.volume.0 needs ss c.args.snapshots.now c.args.needed.now c.loop-at.at c.index-snapshots-at.result _ c.is_tidied-goes.result c.loop-at.drops.items c.push_if.new.drops.items
    c.loop-at-test.true c.index-snapshots-at.is refl c.is_tidied-goes.ensures c.in_ok-push_if.ensures e f (c.loop-at.invariant needs ss e f)

pub returns : goal.returns
returns c = λ needs ss e f.
    went_through (tidied_by c.args.volume.0 needs) ss c.args.snapshots.now c.loop-at.at c.loop-at.drops.items e c.loop-at-test.false (c.loop-at.invariant needs ss e f)
