use Rattle.std.proofs.Common.{ap}
use Rattle.sm_model.specs.Answer.{answer}
use Rattle.sm_model.specs.OfReport as reports
use Rattle.sm_node.specs.Nodes.{world_of}
use Rattle.sm_node.proofs.LookActs.{copied_acts}
use Rattle.sm_events.proofs.acting.act_on_relations.Goals as goal

pub returns-in-Relate-clause-acts : goal.returns-in-Relate-clause-acts
unfolding answer
returns-in-Relate-clause-acts g c = (_, ap (answer (world_of c.args.node.now)) c.in-Relate.is, c.relate.ensures.acts)

pub returns-in-ShowRelations-clause-acts : goal.returns-in-ShowRelations-clause-acts
unfolding answer
returns-in-ShowRelations-clause-acts g c =
    let w = world_of c.args.node.now in (
      _,
      ap (answer w) c.in-ShowRelations.is,
      copied_acts g.D.Disk.state c.args.node.now c.told_up.ensures (reports.show_relations w) c.show_relations.result c.copied.result c.copied.ensures.first c.show_relations.ensures,
    )
