use Rattle.std.proofs.Common.{subst, Option}
use Rattle.std.proofs.lemmas.Result.{err_from_is_err_and}
use Rattle.sm_base.specs.declared.numbers.RelNo.{RelNo}
use Rattle.sm_model.specs.declared.event.Event.TheVariants as events
use Rattle.sm_crew.proofs.ReportParts.{IsAtRelation, at_first, relation_there, at_next, relation_stops, at_end, less_left}
use Rattle.sm_crew.proofs.report.report_relations.Goals as goal

pub loop-next-init : goal.loop-next-init
loop-next-init g c = λ w is. at_first g.D.Disk.state w c.args.catalogue.now c.next_relation-next.result is c.next_relation-next.ensures.order c.next_relation-next.ensures.next

pub look-requires-clause-asked : goal.look-requires-clause-asked
look-requires-clause-asked g c =
    let state = g.D.Disk.state in
    let old = c.args.catalogue.now in
    let l = c.loop-next in
    let r = c.requires in
    relation_there state r.0 old l.catalogue c.in-Some.relation r.1 (subst (λ (o : Option RelNo). IsAtRelation state r.0 old l.catalogue o) c.in-Some.is (l.invariant r.0 r.1))

pub returns-in_err-look-clause-stopped : goal.returns-in_err-look-clause-stopped
returns-in_err-look-clause-stopped g c =
    let p = err_from_is_err_and c.from_residual.result c.from_residual.ensures.1 in
    let state = g.D.Disk.state in
    let old = c.args.catalogue.now in
    let l = c.loop-next in
    rw (p.1, p.2) (λ w is. relation_stops state w old l.catalogue c.look.new.catalogue c.in-Some.relation c.in_err-look.field-0.0
    (subst (λ (o : Option RelNo). IsAtRelation state w old l.catalogue o) c.in-Some.is (l.invariant w is)) c.in_err-look.ensures.stopped)

pub loop-next-smaller : goal.loop-next-smaller
loop-next-smaller g c = less_left g.D.Disk.state c.loop-next.catalogue c.look.new.catalogue (events.RelationLine c.in-Some.relation) c.in_ok-look.ensures.done

pub loop-next-preserved : goal.loop-next-preserved
loop-next-preserved g c =
    let state = g.D.Disk.state in
    let old = c.args.catalogue.now in
    let l = c.loop-next in
    λ w is. at_next state w old l.catalogue c.look.new.catalogue c.in-Some.relation c.next_relation-next-in-Some.result is
    (subst (λ (o : Option RelNo). IsAtRelation state w old l.catalogue o) c.in-Some.is (l.invariant w is)) c.in_ok-look.ensures.done c.next_relation-next-in-Some.ensures.next

pub returns-clause-done : goal.returns-clause-done
returns-clause-done g c =
    let state = g.D.Disk.state in
    let old = c.args.catalogue.now in
    let l = c.loop-next in
    λ w is. at_end state w old l.catalogue (subst (λ (o : Option RelNo). IsAtRelation state w old l.catalogue o) c.in_default.is (l.invariant w is))
