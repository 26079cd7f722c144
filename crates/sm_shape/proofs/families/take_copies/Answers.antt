use Rattle.std.proofs.Common.{ℕ, List}
use Rattle.sm_shape.specs.declared.families.CopyKey.{CopyKey}
use Rattle.sm_shape.specs.Firsts.{IsFirstsOf, Agree}
use Rattle.sm_shape.specs.Copies.{same_key, Equal, one_copy}
use Rattle.sm_shape.proofs.CopiesLemmas.{same_key_is, same_key_self, equal_self, equal_both}
use Rattle.sm_shape.proofs.FirstsSteps.{firsts_same, agree_fewer}
use Rattle.sm_shape.proofs.TakesSteps.{takes_none, pieces_go, pieces_stop, pieces_end}
use Rattle.sm_shape.proofs.families.take_copies.Goals as goal

pub loop-snapshot-init : goal.loop-snapshot-init
loop-snapshot-init c = takes_none (IsFirstsOf CopyKey (List ℕ) same_key Equal) (Agree CopyKey (List ℕ) Equal) (firsts_same CopyKey (List ℕ) same_key Equal same_key_is same_key_self equal_self equal_both) (agree_fewer CopyKey (List ℕ) same_key Equal same_key_is same_key_self equal_self equal_both) c.args.firsts.now

pub returns-then-not-agrees : goal.returns-then-not-agrees
returns-then-not-agrees c =
    pieces_stop (IsFirstsOf CopyKey (List ℕ) same_key Equal) (Agree CopyKey (List ℕ) Equal) (firsts_same CopyKey (List ℕ) same_key Equal same_key_is same_key_self equal_self equal_both) (agree_fewer CopyKey (List ℕ) same_key Equal same_key_is same_key_self equal_self equal_both)
    (one_copy c.args.family) c.args.snapshots.now c.loop-snapshot.snapshot-index c.snapshot-item.result c.loop-snapshot-test.true c.snapshot-item.is
    c.args.firsts.now c.loop-snapshot.firsts c.take_copy.new.firsts c.loop-snapshot.invariant (rw (c.deref.ensures.value, c.if-not-agrees.true) at c.in_ok-agrees.ensures)

pub loop-snapshot-preserved : goal.loop-snapshot-preserved
loop-snapshot-preserved c =
    pieces_go (IsFirstsOf CopyKey (List ℕ) same_key Equal) (Agree CopyKey (List ℕ) Equal) (firsts_same CopyKey (List ℕ) same_key Equal same_key_is same_key_self equal_self equal_both) (agree_fewer CopyKey (List ℕ) same_key Equal same_key_is same_key_self equal_self equal_both)
    (one_copy c.args.family) c.args.snapshots.now c.loop-snapshot.snapshot-index c.snapshot-item.result c.loop-snapshot-test.true c.snapshot-item.is
    c.args.firsts.now c.loop-snapshot.firsts c.take_copy.new.firsts c.loop-snapshot.invariant (rw (c.deref.ensures.value, c.if-not-agrees.false) at c.in_ok-agrees.ensures)

pub returns : goal.returns
returns c =
    rw (← pieces_end (one_copy c.args.family) c.args.snapshots.now c.loop-snapshot.snapshot-index c.loop-snapshot-test.false) c.loop-snapshot.invariant
