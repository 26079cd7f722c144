use Rattle.std.proofs.Common.{sym, ◌∙◌}
use Rattle.std.proofs.lemmas.Result.{err_from_is_err_and, IfOk-weaker, IfErr-weaker}
use Rattle.sm_crew.proofs.Looks.{head_asked, head_counts}
use Rattle.sm_crew.proofs.ReportParts.{same_volumes, parts_done, relations_stop, volumes_stop, head_stops}
use Rattle.sm_crew.proofs.report.report_all.Goals as goal

pub look-requires-clause-asked : goal.look-requires-clause-asked
look-requires-clause-asked g c = head_asked c.args.catalogue.now.world

pub returns-in_err-head-clause-stopped : goal.returns-in_err-head-clause-stopped
returns-in_err-head-clause-stopped g c =
    let p = err_from_is_err_and c.from_residual.result c.from_residual.ensures.1 in
    rw (p.1, p.2) (head_stops g.D.Disk.state c.args.catalogue.now c.look.new.catalogue c.in_err-head.field-0.0 c.in_err-head.ensures.stopped)

pub report_volumes-requires : goal.report_volumes-requires
report_volumes-requires g c =
    let stays = c.in_ok-head.ensures.done.stays in (
      stays.last,
      stays.is,
      c.count_in.ensures ∙ (head_counts c.args.catalogue.now.world stays.first c.in_ok-head.head stays.was c.in_ok-head.ensures.seen ∙ sym (same_volumes stays.first stays.last stays.without_bytes)),
    )

pub returns-in_err-report_volumes-clause-stopped : goal.returns-in_err-report_volumes-clause-stopped
returns-in_err-report_volumes-clause-stopped g c =
    let p = err_from_is_err_and c.from_residual-in_err-report_volumes.result c.from_residual-in_err-report_volumes.ensures.1 in
    rw (p.1, p.2) (volumes_stop g.D.Disk.state c.args.catalogue.now c.look.new.catalogue c.report_volumes.new.catalogue c.in_err-report_volumes.field-0.0 c.in_ok-head.ensures.done c.in_err-report_volumes.ensures.stopped)

pub report_relations-requires : goal.report_relations-requires
report_relations-requires g c =
    let stays = c.in_ok-head.ensures.done.stays in
    let behind = (c.in_ok-report_volumes.ensures.done stays.last stays.is).stays in
    (behind.last, behind.is)

pub returns-clause-done : goal.returns-clause-done
returns-clause-done g c =
    IfOk-weaker c.report_relations.result _ _ (λ done h.
    parts_done g.D.Disk.state c.args.catalogue.now c.look.new.catalogue c.report_volumes.new.catalogue c.report_relations.new.catalogue c.in_ok-head.ensures.done c.in_ok-report_volumes.ensures.done h) c.report_relations.ensures.done

pub returns-clause-stopped : goal.returns-clause-stopped
returns-clause-stopped g c =
    IfErr-weaker c.report_relations.result _ _ (λ stop h.
    relations_stop g.D.Disk.state c.args.catalogue.now c.look.new.catalogue c.report_volumes.new.catalogue c.report_relations.new.catalogue stop c.in_ok-head.ensures.done c.in_ok-report_volumes.ensures.done h) c.report_relations.ensures.stopped
