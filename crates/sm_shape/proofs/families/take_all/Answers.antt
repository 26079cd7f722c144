use Rattle.std.proofs.Common.{ℕ, List}
use Rattle.sm_shape.specs.declared.families.CopyKey.{CopyKey}
use Rattle.sm_shape.specs.Firsts.{IsFirstsOf, Agree}
use Rattle.sm_shape.specs.Copies.{same_key, Equal, copies_of}
use Rattle.sm_shape.proofs.CopiesLemmas.{same_key_is, same_key_self, equal_self, equal_both}
use Rattle.sm_shape.proofs.FirstsSteps.{firsts_same, agree_fewer}
use Rattle.sm_shape.proofs.TakesSteps.{takes_none, pieces_go, pieces_stop, pieces_end}
use Rattle.sm_shape.proofs.families.take_all.Goals as goal

pub loop-volume-init : goal.loop-volume-init
loop-volume-init c = takes_none (IsFirstsOf CopyKey (List ℕ) same_key Equal) (Agree CopyKey (List ℕ) Equal) (firsts_same CopyKey (List ℕ) same_key Equal same_key_is same_key_self equal_self equal_both) (agree_fewer CopyKey (List ℕ) same_key Equal same_key_is same_key_self equal_self equal_both) c.args.firsts.now

pub returns-then-not-agree : goal.returns-then-not-agree
returns-then-not-agree c =
    pieces_stop (IsFirstsOf CopyKey (List ℕ) same_key Equal) (Agree CopyKey (List ℕ) Equal) (firsts_same CopyKey (List ℕ) same_key Equal same_key_is same_key_self equal_self equal_both) (agree_fewer CopyKey (List ℕ) same_key Equal same_key_is same_key_self equal_self equal_both)
    copies_of c.args.volumes.now c.loop-volume.volume-index c.volume-item.result c.loop-volume-test.true c.volume-item.is
    c.args.firsts.now c.loop-volume.firsts c.take_copies.new.firsts c.loop-volume.invariant (rw (c.deref.ensures.value, c.if-not-agree.true) at c.in_ok-agree.ensures)

pub loop-volume-preserved : goal.loop-volume-preserved
loop-volume-preserved c =
    pieces_go (IsFirstsOf CopyKey (List ℕ) same_key Equal) (Agree CopyKey (List ℕ) Equal) (firsts_same CopyKey (List ℕ) same_key Equal same_key_is same_key_self equal_self equal_both) (agree_fewer CopyKey (List ℕ) same_key Equal same_key_is same_key_self equal_self equal_both)
    copies_of c.args.volumes.now c.loop-volume.volume-index c.volume-item.result c.loop-volume-test.true c.volume-item.is
    c.args.firsts.now c.loop-volume.firsts c.take_copies.new.firsts c.loop-volume.invariant (rw (c.deref.ensures.value, c.if-not-agree.false) at c.in_ok-agree.ensures)

pub returns : goal.returns
returns c =
    rw (← pieces_end copies_of c.args.volumes.now c.loop-volume.volume-index c.loop-volume-test.false) c.loop-volume.invariant
