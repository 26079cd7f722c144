use Rattle.std.proofs.Common.{refl, ◌∙◌, subst, Result, arith}
use Rattle.std.specs.Prelude.{OnOk}
use Rattle.std.proofs.lemmas.Option.{slice_get_within}
use Rattle.sm_node.specs.Turning.{InTurn, IsBack}
use Rattle.sm_node.proofs.TurnLemmas.{one_more, others, as_long, backs, seat_failed}
use Rattle.sm_node.proofs.restarting.restart_seats.Goals as goal

pub loop-at-init : goal.loop-at-init
loop-at-init g c = record {
  turns = InTurn.none;
  back = λ i s lt e. absurd (omega (arith, lt));
  rest = λ i le. refl;
  long = refl;
}

pub returns-in-Err-clause-turns : goal.returns-in-Err-clause-turns
returns-in-Err-clause-turns g c = one_more g.D.Disk.state c.args.seats.now c.loop-at.seats c.restart_at.new.seats c.args.side.now c.loop-at.side c.restart_at.new.side c.loop-at.at c.restart_at.result c.loop-at.invariant.turns c.restart_at.ensures

pub returns-in-Err-clause-failed : goal.returns-in-Err-clause-failed
returns-in-Err-clause-failed g c =
    seat_failed g.D.Disk.state c.loop-at.seats c.restart_at.new.seats c.loop-at.side c.restart_at.new.side c.loop-at.at c.restart_at.result c.restart_at.ensures c.args.seats.now (c.loop-at.invariant.rest c.loop-at.at (omega arith)) c.in-Err.failed c.in-Err.is

pub loop-at-preserved : goal.loop-at-preserved
loop-at-preserved g c =
    let state = g.D.Disk.state in
    let h = c.restart_at.ensures in
    let back = subst (λ (r : Result _ _). OnOk r (IsBack state h.did.volume)) c.in-Ok.is h.did.back in
    record {
      turns = one_more state c.args.seats.now c.loop-at.seats c.restart_at.new.seats c.args.side.now c.loop-at.side c.restart_at.new.side c.loop-at.at c.restart_at.result c.loop-at.invariant.turns h;
      back = backs state c.loop-at.seats c.restart_at.new.seats c.loop-at.side c.restart_at.new.side c.loop-at.at c.restart_at.result h c.loop-at.invariant.back back;
      rest = λ i le. others state c.loop-at.seats c.restart_at.new.seats c.loop-at.side c.restart_at.new.side c.loop-at.at c.restart_at.result h i (λ same. omega (arith, le, same)) ∙ c.loop-at.invariant.rest i (omega (arith, le));
      long = as_long state c.loop-at.seats c.restart_at.new.seats c.loop-at.side c.restart_at.new.side c.loop-at.at c.restart_at.result h ∙ c.loop-at.invariant.long;
    }

pub returns-clause-back : goal.returns-clause-back
returns-clause-back g c = λ i s e. c.loop-at.invariant.back i s (let lt = slice_get_within c.loop-at.seats i s e in let no = c.loop-at-test.false in let long = c.loop-at.invariant.long in let end = c.loop-at.auto.at-end in omega (arith, lt, no, long, end)) e
