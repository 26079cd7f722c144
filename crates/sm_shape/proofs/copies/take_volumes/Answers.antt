use Rattle.sm_base.specs.declared.numbers.Ident.{Ident}
use Rattle.sm_model.specs.declared.world.WorldSnapshot.{WorldSnapshot}
use Rattle.sm_defs.specs.Words.{same_ident}
use Rattle.sm_defs.proofs.Idents.{same_is, same_self}
use Rattle.sm_shape.specs.Firsts.{IsFirstsOf, Agree}
use Rattle.sm_shape.specs.Copies.{Alike, named_of}
use Rattle.sm_shape.proofs.CopiesLemmas.{alike_self, alike_both}
use Rattle.sm_shape.proofs.FirstsSteps.{firsts_same, agree_fewer}
use Rattle.sm_shape.proofs.TakesSteps.{takes_none, pieces_go, pieces_stop, pieces_end}
use Rattle.sm_shape.proofs.copies.take_volumes.Goals as goal

pub loop-volume-init : goal.loop-volume-init
loop-volume-init c = takes_none (IsFirstsOf Ident WorldSnapshot same_ident Alike) (Agree Ident WorldSnapshot Alike) (firsts_same Ident WorldSnapshot same_ident Alike same_is same_self alike_self alike_both) (agree_fewer Ident WorldSnapshot same_ident Alike same_is same_self alike_self alike_both) c.args.firsts.now

pub returns-then-not-agree : goal.returns-then-not-agree
returns-then-not-agree c =
    pieces_stop (IsFirstsOf Ident WorldSnapshot same_ident Alike) (Agree Ident WorldSnapshot Alike) (firsts_same Ident WorldSnapshot same_ident Alike same_is same_self alike_self alike_both) (agree_fewer Ident WorldSnapshot same_ident Alike same_is same_self alike_self alike_both)
    named_of c.args.volumes.now c.loop-volume.volume-index c.volume-item.result c.loop-volume-test.true c.volume-item.is
    c.args.firsts.now c.loop-volume.firsts c.take_snapshots.new.firsts c.loop-volume.invariant (rw (c.deref.ensures.value, c.if-not-agree.true) at c.in_ok-agree.ensures)

pub loop-volume-preserved : goal.loop-volume-preserved
loop-volume-preserved c =
    pieces_go (IsFirstsOf Ident WorldSnapshot same_ident Alike) (Agree Ident WorldSnapshot Alike) (firsts_same Ident WorldSnapshot same_ident Alike same_is same_self alike_self alike_both) (agree_fewer Ident WorldSnapshot same_ident Alike same_is same_self alike_self alike_both)
    named_of c.args.volumes.now c.loop-volume.volume-index c.volume-item.result c.loop-volume-test.true c.volume-item.is
    c.args.firsts.now c.loop-volume.firsts c.take_snapshots.new.firsts c.loop-volume.invariant (rw (c.deref.ensures.value, c.if-not-agree.false) at c.in_ok-agree.ensures)

pub returns : goal.returns
returns c =
    rw (← pieces_end named_of c.args.volumes.now c.loop-volume.volume-index c.loop-volume-test.false) c.loop-volume.invariant
