use Rattle.std.proofs.Common.{ap, sym, ◌∙◌, subst, Result}
use Rattle.std.proofs.lemmas.Result.{err_from_is_err_and}
use Rattle.sm_base.specs.declared.refusal.Refusal.{Refusal}
use Rattle.sm_model.specs.declared.reply.Reply.TheVariants as replies
use Rattle.sm_model.specs.Answers.{Answer}
use Rattle.sm_model.specs.OfPolicies as answers
use Rattle.sm_catroot.specs.Catalog.{Catalog}
use Rattle.sm_node.specs.Nodes.{world_of}
use Rattle.sm_node.specs.Acts.{Acts}
use Rattle.sm_node.specs.Served.{first_of}
use Rattle.sm_node.proofs.Events.{none_starved}
use Rattle.sm_events.specs.Deciding.{answer_by, IsNext}
use Rattle.sm_events.specs.Ruling.{policy_created}
use Rattle.sm_events.proofs.Answering.{created_answers}
use Rattle.sm_events.proofs.PoliciesFit.{created_next}
use Rattle.sm_events.proofs.policies.create_policy.Goals as goal

pub returns-in_err-decided-clause-acts : goal.returns-in_err-decided-clause-acts
returns-in_err-decided-clause-acts g c =
    let p = err_from_is_err_and c.from_residual.result c.from_residual.ensures.1 in
    none_starved g.D.Disk.state c.args.node.now c.told_up.ensures (answers.create_policy (world_of c.args.node.now) c.args.name.now c.args.kind) (first_of c.from_residual.result) p.0 (ap first_of p.1) p.2

pub settle-requires-clause-next : goal.settle-requires-clause-next
settle-requires-clause-next g c =
    let k = c.args.node.now.root.held in
    let decided = c.in_ok-decided.ensures ∙ ap (λ (j : Catalog). policy_created j c.args.name.now c.args.kind) c.catalog.ensures in
    subst (λ (d : Result Catalog Refusal). IsNext k d) (sym decided) (created_next k c.told_up.ensures.root.fit c.args.name.now c.args.kind c.requires.given)

pub returns-clause-acts : goal.returns-clause-acts
returns-clause-acts g c =
    let n = c.args.node.now in
    let decided = c.in_ok-decided.ensures ∙ ap (λ (j : Catalog). policy_created j c.args.name.now c.args.kind) c.catalog.ensures in
    subst (λ (a : Answer). Acts g.D.Disk.state a n (first_of c.settle.result) c.settle.new.node) (sym (created_answers n c.args.name.now c.args.kind))
    (subst (λ (d : Result Catalog Refusal). Acts g.D.Disk.state (answer_by n replies.Done d) n (first_of c.settle.result) c.settle.new.node) decided c.settle.ensures.acts)
