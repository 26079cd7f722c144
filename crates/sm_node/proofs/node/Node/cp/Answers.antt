use Rattle.std.proofs.Common.{List, sym, ◌∙◌, subst, refl, Result}
use Rattle.std.proofs.lemmas.List.{with_items_is}
use Rattle.std.proofs.lemmas.Result.{err_from_is_err_and}
use Rattle.sm_base.specs.declared.refusal.Refusal.{Refusal}
use Rattle.sm_defs.specs.Operations.{settled}
use Rattle.sm_model.specs.declared.reply.Reply.TheVariants as replies
use Rattle.sm_model.specs.OfVolumes as answers
use Rattle.sm_volume.specs.Refusals.{cp_refusal}
use Rattle.sm_node.specs.Seats.{Seated}
use Rattle.sm_node.specs.Naming.{IsNamed}
use Rattle.sm_node.specs.declared.named.Named.{Named}
use Rattle.sm_node.specs.Nodes.{Node, IsNode, world_of}
use Rattle.sm_node.specs.Acts.{Acts}
use Rattle.sm_node.proofs.Matching.{cp_none}
use Rattle.sm_node.proofs.Events.{none_acts, none_starved, place_there, up_there, call_keeps, cp_acts}
use Rattle.sm_node.proofs.node.Node.cp.Goals as goal

pub returns-in_err-refusal-clause-acts : goal.returns-in_err-refusal-clause-acts
returns-in_err-refusal-clause-acts g c =
    let p = err_from_is_err_and c.from_residual.result c.from_residual.ensures.1 in
    none_starved g.D.Disk.state c.args.self.now c.told_up.ensures (answers.cp (world_of c.args.self.now) c.args.path.now) c.from_residual.result p.0 p.1 p.2

pub returns-in-Err-clause-acts : goal.returns-in-Err-clause-acts
returns-in-Err-clause-acts g c =
    let now = c.args.self.now in
    let path = c.args.path.now in
    let none = subst (λ (x : Result Named Refusal). IsNamed now path x) c.in-Err.is c.in_ok-refusal.ensures in
    none_acts g.D.Disk.state now c.told_up.ensures (answers.cp (world_of now) path) c.in-Err.refusal _ refl (cp_none (world_of now) path c.in-Err.refusal none)

pub cp_at-requires-clause-place : goal.cp_at-requires-clause-place
cp_at-requires-clause-place g c =
    let n : Node _ = record { root = c.self.inside.register; seats = c.self.inside.seats.items; spares = c.self.inside.spares.items; lengths = c.self.inside.lengths.items } in
    let found = subst (λ (x : Result Named Refusal). IsNamed c.args.self.now c.args.path.now x) c.in-Ok.is c.in_ok-refusal.ensures in
    place_there g.D.Disk.state n c.args.self.now c.self.view_is c.told_up.ensures c.args.path.now c.in-Ok.named found c.deref_mut.result.now c.deref_mut.ensures.value

pub cp_at-requires-clause-up : goal.cp_at-requires-clause-up
cp_at-requires-clause-up g c =
    let n : Node _ = record { root = c.self.inside.register; seats = c.self.inside.seats.items; spares = c.self.inside.spares.items; lengths = c.self.inside.lengths.items } in
    up_there g.D.Disk.state n c.args.self.now c.self.view_is c.told_up.ensures c.deref_mut.result.now c.deref_mut.ensures.value

pub invariant_of-self : goal.invariant_of-self
invariant_of-self g c =
    let n : Node _ = record { root = c.self.inside.register; seats = c.self.inside.seats.items; spares = c.self.inside.spares.items; lengths = c.self.inside.lengths.items } in
    let items = with_items_is c.self.inside.seats c.cp_at.new.seats (c.cp_at.auto.seats ∙ c.deref_mut.ensures.len) in
    let found = subst (λ (x : Result Named Refusal). IsNamed c.args.self.now c.args.path.now x) c.in-Ok.is c.in_ok-refusal.ensures in (
      subst (λ (ss : List (Seated _)). IsNode g.D.Disk.state (record n { seats = ss })) (sym items)
          (call_keeps g.D.Disk.state n c.args.self.now c.self.view_is c.told_up.ensures c.args.path.now c.in-Ok.named found c.cp_at.result c.deref_mut.result.now c.cp_at.new.seats c.deref_mut.ensures.value replies.Done cp_refusal settled c.cp_at.ensures),
      c.self.invariant.1,
      c.self.invariant.2,
    )

pub returns-in-Ok-clause-acts : goal.returns-in-Ok-clause-acts
returns-in-Ok-clause-acts g c =
    let n : Node _ = record { root = c.self.inside.register; seats = c.self.inside.seats.items; spares = c.self.inside.spares.items; lengths = c.self.inside.lengths.items } in
    let now = c.args.self.now in
    let path = c.args.path.now in
    let items = with_items_is c.self.inside.seats c.cp_at.new.seats (c.cp_at.auto.seats ∙ c.deref_mut.ensures.len) in
    let found = subst (λ (x : Result Named Refusal). IsNamed now path x) c.in-Ok.is c.in_ok-refusal.ensures in
    subst (λ (ss : List (Seated _)). Acts g.D.Disk.state (answers.cp (world_of now) path) now c.cp_at.result (record n { seats = ss })) (sym items)
    (cp_acts g.D.Disk.state n now c.self.view_is c.told_up.ensures path c.in-Ok.named found c.cp_at.result c.deref_mut.result.now c.cp_at.new.seats c.deref_mut.ensures.value c.cp_at.ensures)
