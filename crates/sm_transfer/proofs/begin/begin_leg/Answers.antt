use Rattle.std.proofs.Common.{◌≡◌, ◌≤◌, ◌<◌, ℕ, List, length, ◌∙◌, ap, sym, subst, arith}
use Rattle.std.specs.Prelude.{slice_index_or}
use Rattle.sm_defs.specs.Image.{tags}
use Rattle.sm_volume.specs.Seen.{kept_snapshot}
use Rattle.sm_model.specs.Due.{ship_reason}
use Rattle.sm_model.specs.Steps.{cost}
use Rattle.sm_transfer.specs.Beginning.{IsPlanOf, IsBegun, bases_of, leg_reason}
use Rattle.sm_transfer.proofs.BeginLemmas.{plan_is, reason_is, checkpoint_within, told_again, begun_is, first_told, found_root, leg_long, same_logical, leg_within, plan_same, reason_same, cost_short}
use Rattle.sm_transfer.proofs.begin.begin_leg.Goals as goal

pub numbers_of-requires : goal.numbers_of-requires
numbers_of-requires g c =
    let can = c.requires.2 in
    let s = c.args.source.now in
    let d = c.args.destination.now.volume in
    let first = first_told c.args.kind c.args.relation.now s.volume d c.requires.0 c.requires.1 can c.first_of-first.result.0 c.first_of-first.result.1 c.first_of-first.ensures in
    (kept_snapshot c.requires.1, found_root c.args.kind c.args.relation.now s.volume d c.requires.0 c.requires.1 can c.first_of-first.result.0 c.root.result.now s.number first.0 c.root.ensures)

pub plan_leg-requires-clause-within : goal.plan_leg-requires-clause-within
plan_leg-requires-clause-within g c = λ mirror k e less.
    let can = c.requires.2 in
    let s = c.args.source.now in
    let d = c.args.destination.now.volume in
    let first = first_told c.args.kind c.args.relation.now s.volume d c.requires.0 c.requires.1 can c.first_of-first.result.0 c.first_of-first.result.1 c.first_of-first.ensures in
    let at = found_root c.args.kind c.args.relation.now s.volume d c.requires.0 c.requires.1 can c.first_of-first.result.0 c.root.result.now s.number first.0 c.root.ensures in
    let is : c.numbers_of.result.now ≡ tags c.requires.1.image = c.numbers_of.ensures (kept_snapshot c.requires.1) at in
    subst (λ (ns : List ℕ). k < length ns → slice_index_or ns k e ≤ d.physical) (sym is)
    (leg_within c.args.kind c.args.relation.now s.volume d c.requires.0 c.requires.1 can c.told.ensures.images mirror k e) less

pub plan_leg-requires-clause-source : goal.plan_leg-requires-clause-source
plan_leg-requires-clause-source g c =
    let can = c.requires.2 in
    let s = c.args.source.now in
    let d = c.args.destination.now.volume in
    let first = first_told c.args.kind c.args.relation.now s.volume d c.requires.0 c.requires.1 can c.first_of-first.result.0 c.first_of-first.result.1 c.first_of-first.ensures in
    let at = found_root c.args.kind c.args.relation.now s.volume d c.requires.0 c.requires.1 can c.first_of-first.result.0 c.root.result.now s.number first.0 c.root.ensures in
    ap length (c.numbers_of.ensures (kept_snapshot c.requires.1) at) ∙ leg_long c.args.kind c.args.relation.now s.volume d c.requires.0 c.requires.1 can c.told.ensures.images

pub plan_leg-requires-clause-destination : goal.plan_leg-requires-clause-destination
plan_leg-requires-clause-destination g c =
    let can = c.requires.2 in
    let s = c.args.source.now in
    let d = c.args.destination.now.volume in
    let first = first_told c.args.kind c.args.relation.now s.volume d c.requires.0 c.requires.1 can c.first_of-first.result.0 c.first_of-first.result.1 c.first_of-first.ensures in
    let at = found_root c.args.kind c.args.relation.now s.volume d c.requires.0 c.requires.1 can c.first_of-first.result.0 c.root.result.now s.number first.0 c.root.ensures in
    ap length (c.numbers_of.ensures (kept_snapshot c.requires.1) at) ∙ leg_long c.args.kind c.args.relation.now s.volume d c.requires.0 c.requires.1 can c.told.ensures.images
    ∙ same_logical c.args.kind c.args.relation.now s.volume d c.requires.0 c.requires.1 can

pub begin-requires-clause-short : goal.begin-requires-clause-short
begin-requires-clause-short g c =
    let x = c.requires.0 in
    let leg = c.requires.1 in
    let can = c.requires.2 in
    let s = c.args.source.now in
    let d = c.args.destination.now.volume in
    let first = first_told c.args.kind c.args.relation.now s.volume d x leg can c.first_of-first.result.0 c.first_of-first.result.1 c.first_of-first.ensures in
    let at = found_root c.args.kind c.args.relation.now s.volume d x leg can c.first_of-first.result.0 c.root.result.now s.number first.0 c.root.ensures in
    let planned = c.in-Ok.ensures leg.image (sym (c.numbers_of.ensures (kept_snapshot leg) at)) in
    let plan = plan_is x leg c.in-Ok.plan (plan_same c.args.kind c.args.relation.now s.volume d x leg can c.in-Ok.plan planned.1) (sym (reason_same c.args.kind c.args.relation.now s.volume d x leg can) ∙ planned.0) in
    let few = cost_short c.args.kind c.args.relation.now s.volume d x leg can (length c.in-Ok.plan.pairs) c.told.ensures.images plan.costs in
    let most = c.told.ensures.good.few_blocks in
    omega (arith, few, most)

pub begin-requires-clause-within : goal.begin-requires-clause-within
begin-requires-clause-within g c =
    let x = c.requires.0 in
    let leg = c.requires.1 in
    let can = c.requires.2 in
    let s = c.args.source.now in
    let d = c.args.destination.now.volume in
    let first = first_told c.args.kind c.args.relation.now s.volume d x leg can c.first_of-first.result.0 c.first_of-first.result.1 c.first_of-first.ensures in
    let at = found_root c.args.kind c.args.relation.now s.volume d x leg can c.first_of-first.result.0 c.root.result.now s.number first.0 c.root.ensures in
    let planned = c.in-Ok.ensures leg.image (sym (c.numbers_of.ensures (kept_snapshot leg) at)) in
    let plan = plan_is x leg c.in-Ok.plan (plan_same c.args.kind c.args.relation.now s.volume d x leg can c.in-Ok.plan planned.1) (sym (reason_same c.args.kind c.args.relation.now s.volume d x leg can) ∙ planned.0) in
    let costs = plan.costs in
    let from = first.1 in
    let within = checkpoint_within x leg can.1 in
    omega (arith, costs, from, within)

pub returns-in-Err : goal.returns-in-Err
returns-in-Err g c = λ x leg can.
    let s = c.args.source.now in
    let d = c.args.destination.now.volume in
    let first = first_told c.args.kind c.args.relation.now s.volume d x leg can c.first_of-first.result.0 c.first_of-first.result.1 c.first_of-first.ensures in
    let at = found_root c.args.kind c.args.relation.now s.volume d x leg can c.first_of-first.result.0 c.root.result.now s.number first.0 c.root.ensures in
    told_again (IsPlanOf c.args.kind leg.image (bases_of c.args.relation.now.base s.volume d) d) (IsBegun x leg) (leg_reason c.args.kind leg.image (bases_of c.args.relation.now.base s.volume d) d) (ship_reason x (cost x leg)) c.in-Err.fault (reason_same c.args.kind c.args.relation.now s.volume d x leg can ∙ reason_is x leg can.1) (c.in-Err.ensures leg.image (sym (c.numbers_of.ensures (kept_snapshot leg) at)))

pub returns-in-Ok-begin : goal.returns-in-Ok-begin
returns-in-Ok-begin g c = λ x leg can.
    let s = c.args.source.now in
    let d = c.args.destination.now.volume in
    let first = first_told c.args.kind c.args.relation.now s.volume d x leg can c.first_of-first.result.0 c.first_of-first.result.1 c.first_of-first.ensures in
    let at = found_root c.args.kind c.args.relation.now s.volume d x leg can c.first_of-first.result.0 c.root.result.now s.number first.0 c.root.ensures in
    let planned = c.in-Ok.ensures leg.image (sym (c.numbers_of.ensures (kept_snapshot leg) at)) in
    let goes = sym (reason_same c.args.kind c.args.relation.now s.volume d x leg can) ∙ planned.0 in
    let plan = plan_is x leg c.in-Ok.plan (plan_same c.args.kind c.args.relation.now s.volume d x leg can c.in-Ok.plan planned.1) goes in
    (sym (reason_is x leg can.1) ∙ goes, begun_is x leg c.in-Ok.plan c.in-Ok-begin.transfer c.first_of-first.result.1 c.in-Ok-begin.ensures first.1 plan)
