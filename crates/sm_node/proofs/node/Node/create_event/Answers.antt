use Rattle.std.proofs.Common.{sym, subst, Ok}
use Rattle.sm_model.specs.declared.reply.Reply.{Reply}
use Rattle.sm_model.specs.OfVolumes as volumes
use Rattle.sm_node.specs.Nodes.{world_of}
use Rattle.sm_node.specs.Acts.{Acts}
use Rattle.sm_node.proofs.Twice.{create_spared}
use Rattle.sm_node.proofs.node.Node.create_event.Goals as goal

pub twice-requires : goal.twice-requires
twice-requires g c =
    let w = world_of c.args.self.now in
    let a = volumes.create_volume w c.args.path.now c.args.disk c.args.kind c.args.logical c.args.physical in
    let acts = subst (λ r. Acts g.D.Disk.state a c.args.self.now r c.create.new.self) c.in-Ok.is c.create.ensures.acts in
    create_spared w c.args.path.now c.args.disk c.args.kind c.args.logical c.args.physical c.in-Ok.reply acts.without_bytes.0

pub returns-in-Ok-clause-acts : goal.returns-in-Ok-clause-acts
returns-in-Ok-clause-acts g c =
    let w = world_of c.args.self.now in
    let a = volumes.create_volume w c.args.path.now c.args.disk c.args.kind c.args.logical c.args.physical in
    let acts = subst (λ r. Acts g.D.Disk.state a c.args.self.now r c.create.new.self) c.in-Ok.is c.create.ensures.acts in
    subst (λ (reply : Reply). Acts g.D.Disk.state a c.args.self.now (Ok reply) c.create.new.self) (sym c.twice.ensures.first) acts
