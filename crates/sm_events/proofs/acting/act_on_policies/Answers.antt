use Rattle.std.proofs.Common.{ap, subst}
use Rattle.sm_model.specs.Answer.{answer}
use Rattle.sm_model.specs.InRange.{IsGiven}
use Rattle.sm_model.specs.OfReport as reports
use Rattle.sm_node.specs.Nodes.{world_of}
use Rattle.sm_node.proofs.LookActs.{copied_acts}
use Rattle.sm_events.proofs.acting.act_on_policies.Goals as goal

pub create_policy-requires-clause-given : goal.create_policy-requires-clause-given
unfolding IsGiven
create_policy-requires-clause-given g c = subst IsGiven c.in-CreatePolicy.is c.requires.given

pub add_rule-requires-clause-given : goal.add_rule-requires-clause-given
unfolding IsGiven
add_rule-requires-clause-given g c = subst IsGiven c.in-AddRule.is c.requires.given

pub returns-in-CreatePolicy-clause-acts : goal.returns-in-CreatePolicy-clause-acts
unfolding answer
returns-in-CreatePolicy-clause-acts g c = (_, ap (answer (world_of c.args.node.now)) c.in-CreatePolicy.is, c.create_policy.ensures.acts)

pub returns-in-AddRule-clause-acts : goal.returns-in-AddRule-clause-acts
unfolding answer
returns-in-AddRule-clause-acts g c = (_, ap (answer (world_of c.args.node.now)) c.in-AddRule.is, c.add_rule.ensures.acts)

pub returns-in-ShowPolicies-clause-acts : goal.returns-in-ShowPolicies-clause-acts
unfolding answer
returns-in-ShowPolicies-clause-acts g c =
    let w = world_of c.args.node.now in (
      _,
      ap (answer w) c.in-ShowPolicies.is,
      copied_acts g.D.Disk.state c.args.node.now c.told_up.ensures (reports.show_policies w) c.show_policies.result c.copied.result c.copied.ensures.first c.show_policies.ensures,
    )
