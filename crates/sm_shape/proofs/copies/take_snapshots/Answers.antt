use Rattle.sm_base.specs.declared.numbers.Ident.{Ident}
use Rattle.sm_model.specs.declared.world.WorldSnapshot.{WorldSnapshot}
use Rattle.sm_defs.specs.Words.{same_ident}
use Rattle.sm_defs.proofs.Idents.{same_is, same_self}
use Rattle.sm_shape.specs.Firsts.{IsFirstsOf, Agree}
use Rattle.sm_shape.specs.Copies.{Alike, one_named}
use Rattle.sm_shape.proofs.CopiesLemmas.{alike_self, alike_both}
use Rattle.sm_shape.proofs.FirstsSteps.{firsts_same, agree_fewer}
use Rattle.sm_shape.proofs.TakesSteps.{takes_none, pieces_go, pieces_stop, pieces_end}
use Rattle.sm_shape.proofs.copies.take_snapshots.Goals as goal

pub loop-snapshot-init : goal.loop-snapshot-init
loop-snapshot-init c = takes_none (IsFirstsOf Ident WorldSnapshot same_ident Alike) (Agree Ident WorldSnapshot Alike) (firsts_same Ident WorldSnapshot same_ident Alike same_is same_self alike_self alike_both) (agree_fewer Ident WorldSnapshot same_ident Alike same_is same_self alike_self alike_both) c.args.firsts.now

pub returns-then-not-agrees : goal.returns-then-not-agrees
returns-then-not-agrees c =
    pieces_stop (IsFirstsOf Ident WorldSnapshot same_ident Alike) (Agree Ident WorldSnapshot Alike) (firsts_same Ident WorldSnapshot same_ident Alike same_is same_self alike_self alike_both) (agree_fewer Ident WorldSnapshot same_ident Alike same_is same_self alike_self alike_both)
    one_named c.args.snapshots.now c.loop-snapshot.snapshot-index c.snapshot-item.result c.loop-snapshot-test.true c.snapshot-item.is
    c.args.firsts.now c.loop-snapshot.firsts c.take_named.new.firsts c.loop-snapshot.invariant (rw c.if-not-agrees.true at c.in_ok-agrees.ensures)

pub loop-snapshot-preserved : goal.loop-snapshot-preserved
loop-snapshot-preserved c =
    pieces_go (IsFirstsOf Ident WorldSnapshot same_ident Alike) (Agree Ident WorldSnapshot Alike) (firsts_same Ident WorldSnapshot same_ident Alike same_is same_self alike_self alike_both) (agree_fewer Ident WorldSnapshot same_ident Alike same_is same_self alike_self alike_both)
    one_named c.args.snapshots.now c.loop-snapshot.snapshot-index c.snapshot-item.result c.loop-snapshot-test.true c.snapshot-item.is
    c.args.firsts.now c.loop-snapshot.firsts c.take_named.new.firsts c.loop-snapshot.invariant (rw c.if-not-agrees.false at c.in_ok-agrees.ensures)

pub returns : goal.returns
returns c =
    rw (← pieces_end one_named c.args.snapshots.now c.loop-snapshot.snapshot-index c.loop-snapshot-test.false) c.loop-snapshot.invariant
