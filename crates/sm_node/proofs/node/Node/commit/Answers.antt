use Rattle.std.proofs.Common.{◌≡◌, ap}
use Rattle.sm_node.specs.Nodes.{Node}
use Rattle.sm_node.proofs.Events.{committed_acts, committed_keeps, replied_by}
use Rattle.sm_node.proofs.node.Node.commit.Goals as goal

pub invariant_of-self : goal.invariant_of-self
invariant_of-self g c =
    let n : Node _ = record { root = c.self.inside.register; seats = c.self.inside.seats.items; spares = c.self.inside.spares.items; lengths = c.self.inside.lengths.items } in (
      committed_keeps g.D.Disk.state n c.args.self.now c.self.view_is c.told_up.ensures c.commit_as.new.register c.args.next c.requires.places c.args.reply c.commit_as.result c.commit_as.ensures,
      c.self.invariant.1,
      c.self.invariant.2,
    )

pub returns-clause-acts : goal.returns-clause-acts
returns-clause-acts g c =
    let n : Node _ = record { root = c.self.inside.register; seats = c.self.inside.seats.items; spares = c.self.inside.spares.items; lengths = c.self.inside.lengths.items } in
    committed_acts g.D.Disk.state n c.args.self.now c.self.view_is c.told_up.ensures c.commit_as.new.register c.args.next c.requires.places c.args.reply c.commit_as.result c.commit_as.ensures

pub returns-clause-replied : goal.returns-clause-replied
returns-clause-replied g c = replied_by c.args.reply _ c.commit_as.ensures.0 c.commit_as.result c.commit_as.ensures.1

pub returns-clause-spares : goal.returns-clause-spares
returns-clause-spares g c = ap (λ (x : Node _). x.spares) c.self.view_is
