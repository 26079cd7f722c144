use Rattle.std.proofs.Common.{sym, subst}
use Rattle.sm_transfer.specs.Beginning.{IsLegPlan}
use Rattle.tests_steps.proofs.beginning.begun.Goals as goal

pub returns-in-Ok : goal.returns-in-Ok
returns-in-Ok g c =
    let given = c.may_begin.ensures c.if-not-may_begin.false in
    let begun = (c.in-Ok.ensures given.0 given.1 given.2).1 in
    record {
      fits = λ t index same less fresh. c.due_ships_fit.ensures.planned c.args.kind c.args.relation.now c.args.source.now.volume c.args.destination.now.volume given.0 given.1 t index given.2
          c.told.ensures.images (λ mirror. c.stands_by_snapshots.ensures c.if-not-stands_by_snapshots.false) (subst (IsLegPlan given.0 given.1) (sym same) begun.planned) less fresh;
      source_up = c.requires.source_up;
      destination_up = c.requires.destination_up;
    }
