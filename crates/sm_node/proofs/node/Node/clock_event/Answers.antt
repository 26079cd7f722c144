use Rattle.std.proofs.Common.{sym, subst, Ok}
use Rattle.sm_model.specs.declared.reply.Reply.{Reply}
use Rattle.sm_model.specs.OfPolicies as policies
use Rattle.sm_node.specs.Nodes.{world_of}
use Rattle.sm_node.specs.Acts.{Acts}
use Rattle.sm_node.proofs.Twice.{clock_spared}
use Rattle.sm_node.proofs.node.Node.clock_event.Goals as goal

pub twice-requires : goal.twice-requires
twice-requires g c =
    let w = world_of c.args.self.now in
    let acts = subst (λ r. Acts g.D.Disk.state (policies.set_clock w c.args.time) c.args.self.now r c.set_clock.new.self) c.in-Ok.is c.set_clock.ensures.acts in
    clock_spared w c.args.time c.in-Ok.reply acts.without_bytes.0

pub returns-in-Ok-clause-acts : goal.returns-in-Ok-clause-acts
returns-in-Ok-clause-acts g c =
    let w = world_of c.args.self.now in
    let acts = subst (λ r. Acts g.D.Disk.state (policies.set_clock w c.args.time) c.args.self.now r c.set_clock.new.self) c.in-Ok.is c.set_clock.ensures.acts in
    subst (λ (reply : Reply). Acts g.D.Disk.state (policies.set_clock w c.args.time) c.args.self.now (Ok reply) c.set_clock.new.self) (sym c.twice.ensures.first) acts
