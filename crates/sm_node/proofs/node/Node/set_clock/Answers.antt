use Rattle.std.proofs.Common.{◌≡◌, ap, ◌∙◌, refl, arith}
use Rattle.std.proofs.lemmas.Result.{err_from_is_err_and}
use Rattle.sm_base.specs.declared.refusal.Refusal.TheVariants as refusals
use Rattle.sm_model.specs.OfPolicies as policies
use Rattle.sm_catroot.specs.Catalog.{Catalog}
use Rattle.sm_node.specs.Nodes.{world_of}
use Rattle.sm_node.proofs.Events.{none_acts, none_starved, clock_acts}
use Rattle.sm_node.proofs.Clocks.{clock_back}
use Rattle.sm_node.proofs.node.Node.set_clock.Goals as goal

pub returns-then-time-now-clause-acts : goal.returns-then-time-now-clause-acts
returns-then-time-now-clause-acts g c =
    let now = c.args.self.now in
    none_acts g.D.Disk.state now c.told_up.ensures (policies.set_clock (world_of now) c.args.time) (refusals.ClockBack c.clock_of-now.result) _ refl
    (clock_back (world_of now) c.args.time c.clock_of-now.result (c.clock_of-now.ensures ∙ ap (λ (k : Catalog). k.clock) c.catalog.ensures) c.if-time-now.true)

pub returns-in_err-next-clause-acts : goal.returns-in_err-next-clause-acts
returns-in_err-next-clause-acts g c =
    let p = err_from_is_err_and c.from_residual.result c.from_residual.ensures.1 in
    none_starved g.D.Disk.state c.args.self.now c.told_up.ensures (policies.set_clock (world_of c.args.self.now) c.args.time) c.from_residual.result p.0 p.1 p.2

pub returns-in_err-ready-clause-acts : goal.returns-in_err-ready-clause-acts
returns-in_err-ready-clause-acts g c =
    let p = err_from_is_err_and c.from_residual-in_err-ready.result c.from_residual-in_err-ready.ensures.1 in
    none_starved g.D.Disk.state c.args.self.now c.told_up.ensures (policies.set_clock (world_of c.args.self.now) c.args.time) c.from_residual-in_err-ready.result p.0 p.1 p.2

pub returns-clause-acts : goal.returns-clause-acts
returns-clause-acts g c =
    let time_is : c.clock_of-now.result ≡ c.args.self.now.root.held.clock = c.clock_of-now.ensures ∙ ap (λ (k : Catalog). k.clock) c.catalog.ensures in
    let next = c.in_ok-ready.ensures ∙ c.in_ok-next.ensures.is ∙ ap (λ (k : Catalog). let j : Catalog = record k { clock = c.args.time } in j) c.catalog-2.ensures in
    clock_acts g.D.Disk.state c.args.self.now c.commit.new.self c.in_ok-ready.ready c.args.time (omega (arith, time_is, c.if-time-now.false)) next c.commit.result c.commit.ensures.acts
