use Rattle.std.proofs.Common.{ℕ, refl, sym, ap, ◌∙◌, subst, Result}
use Rattle.std.proofs.lemmas.Result.{err_from_is_err_and}
use Rattle.sm_base.specs.declared.refusal.Refusal.{Refusal}
use Rattle.sm_model.specs.declared.reply.Reply.TheVariants as replies
use Rattle.sm_model.specs.Answers.{Answer, relno}
use Rattle.sm_model.specs.OfRelations as answers
use Rattle.sm_catroot.specs.Catalog.{Catalog}
use Rattle.sm_node.specs.Nodes.{world_of}
use Rattle.sm_node.specs.Acts.{Acts}
use Rattle.sm_node.specs.Served.{first_of}
use Rattle.sm_node.proofs.Events.{none_starved}
use Rattle.sm_node.proofs.PlacedLemmas.{all_long}
use Rattle.sm_events.specs.Deciding.{answer_by, IsNext}
use Rattle.sm_events.proofs.RelatingAnswers.{relate_answers}
use Rattle.sm_events.proofs.RelationsFit.{related_next, numbers_below}
use Rattle.sm_events.proofs.relating.relate.Goals as goal

pub returns-in_err-decided-clause-acts : goal.returns-in_err-decided-clause-acts
returns-in_err-decided-clause-acts g c =
    let p = err_from_is_err_and c.from_residual.result c.from_residual.ensures.1 in
    none_starved g.D.Disk.state c.args.node.now c.told_up.ensures (answers.relate (world_of c.args.node.now) c.args.source.now c.args.destination.now c.args.policy.now) (first_of c.from_residual.result) p.0 (ap first_of p.1) p.2

pub settle-requires-clause-next : goal.settle-requires-clause-next
settle-requires-clause-next g c =
    let n = c.args.node.now in
    subst (λ (d : Result Catalog Refusal). IsNext n.root.held d) (sym c.in_ok-decided.ensures)
    (related_next n.root.held c.told_up.ensures.root.fit (numbers_below n c.requires.sound) (world_of n) (all_long n.root.held.volumes n.seats c.requires.up.as_many) refl c.args.source.now c.args.destination.now c.args.policy.now)

pub returns-clause-acts : goal.returns-clause-acts
returns-clause-acts g c =
    let n = c.args.node.now in
    let number = c.next_number-relation.ensures ∙ ap (λ (j : Catalog). j.next_relation) c.catalog.ensures in
    subst (λ (a : Answer). Acts g.D.Disk.state a n (first_of c.settle.result) c.settle.new.node) (sym (relate_answers n c.args.source.now c.args.destination.now c.args.policy.now))
    (subst (λ (d : Result Catalog Refusal). Acts g.D.Disk.state (answer_by n (replies.Related (relno n.root.held.next_relation)) d) n (first_of c.settle.result) c.settle.new.node) c.in_ok-decided.ensures
    (subst (λ (m : ℕ). Acts g.D.Disk.state (answer_by n (replies.Related (relno m)) c.in_ok-decided.decided) n (first_of c.settle.result) c.settle.new.node) number c.settle.ensures.acts))
