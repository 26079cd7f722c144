use Rattle.std.proofs.Common.{List, ℕ, sym, subst, Some, Ok}
use Rattle.std.proofs.lemmas.Result.{err_from_is_err_and}
use Rattle.sm_model.specs.declared.reply.Reply.{Reply}
use Rattle.sm_model.specs.OfVolumes as answers
use Rattle.sm_node.specs.Nodes.{world_of}
use Rattle.sm_node.specs.Acts.{Acts}
use Rattle.sm_node.specs.Served.{IsSpared}
use Rattle.sm_node.proofs.Twice.{unsnap_spared, spare_starved}
use Rattle.sm_node.proofs.node.Node.unsnap_event.Goals as goal

pub returns-in_err-spare-clause-acts : goal.returns-in_err-spare-clause-acts
returns-in_err-spare-clause-acts g c =
    let w = world_of c.args.self.now in
    let p = err_from_is_err_and c.from_residual.result c.from_residual.ensures.1 in
    spare_starved g.D.Disk.state c.args.self.now c.told_up.ensures (answers.unsnap w c.args.path.now c.args.name.now) c.from_residual.result p.0 p.1 p.2

pub returns-in_err-spare_name-clause-acts : goal.returns-in_err-spare_name-clause-acts
returns-in_err-spare_name-clause-acts g c =
    let w = world_of c.args.self.now in
    let p = err_from_is_err_and c.from_residual-in_err-spare_name.result c.from_residual-in_err-spare_name.ensures.1 in
    spare_starved g.D.Disk.state c.args.self.now c.told_up.ensures (answers.unsnap w c.args.path.now c.args.name.now) c.from_residual-in_err-spare_name.result p.0 p.1 p.2

pub twice-requires : goal.twice-requires
twice-requires g c =
    let w = world_of c.args.self.now in
    let acts = subst (λ r. Acts g.D.Disk.state (answers.unsnap w c.args.path.now c.args.name.now) c.args.self.now r c.unsnap.new.self) c.in-Ok.is c.unsnap.ensures.acts in
    subst (λ (q : List ℕ). IsSpared (Some c.in_ok-spare.spare) (Some q) c.in-Ok.reply) (sym c.in_ok-spare_name.ensures)
    (subst (λ (p : List ℕ). IsSpared (Some p) (Some c.args.name.now) c.in-Ok.reply) (sym c.in_ok-spare.ensures) (unsnap_spared w c.args.path.now c.args.name.now c.in-Ok.reply acts.without_bytes.0))

pub returns-in-Ok-clause-acts : goal.returns-in-Ok-clause-acts
returns-in-Ok-clause-acts g c =
    let w = world_of c.args.self.now in
    let acts = subst (λ r. Acts g.D.Disk.state (answers.unsnap w c.args.path.now c.args.name.now) c.args.self.now r c.unsnap.new.self) c.in-Ok.is c.unsnap.ensures.acts in
    subst (λ (reply : Reply). Acts g.D.Disk.state (answers.unsnap w c.args.path.now c.args.name.now) c.args.self.now (Ok reply) c.unsnap.new.self) (sym c.twice.ensures.first) acts
