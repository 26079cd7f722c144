use Rattle.std.proofs.Common.{◌≡◌, true, false, take, get_or}
use Rattle.std.proofs.lemmas.List.{take_all}
use Rattle.sm_shape.specs.Marks.{free_at, with_number}
use Rattle.sm_shape.proofs.MarkSteps.{before_any, goes_on, clashes}
use Rattle.sm_shape.proofs.marks.take_map.Goals as goal

pub loop-place-init : goal.loop-place-init
loop-place-init c = λ most maps is. before_any most c.args.table.now c.args.map.now maps is

pub loop-place-preserved : goal.loop-place-preserved
loop-place-preserved c = λ most maps is.
    let k = c.loop-place.place in
    let m = c.args.map.now in
    let may : free_at c.loop-place.table k (get_or m k 0) ≡ true = cc in
    let now : c.take_place.new.table ≡ with_number c.loop-place.table k (get_or m k 0) = rw c.if-not-take_place.false at c.take_place.ensures.after in
    rw now (goes_on most c.loop-place.table m maps k c.loop-place-test.true (c.loop-place.invariant most maps is) may)

pub returns-then-not-take_place : goal.returns-then-not-take_place
returns-then-not-take_place c = λ most. record {
  joins = λ e. absurd cc;
  differs = λ no maps is one.
      let k = c.loop-place.place in
      let m = c.args.map.now in
      let taken : free_at c.loop-place.table k (get_or m k 0) ≡ false = cc in
      clashes most c.loop-place.table m maps k c.loop-place-test.true (c.loop-place.invariant most maps is) taken one;
}

pub returns : goal.returns
returns c = λ most. record {
  joins = λ yes maps is.
      let all : take c.loop-place.place c.args.map.now ≡ c.args.map.now = take_all c.loop-place.place c.args.map.now c.loop-place-test.false in
      rw (← all) (c.loop-place.invariant most maps is);
  differs = λ e. absurd cc;
}
