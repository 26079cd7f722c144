use Rattle.std.proofs.Common.{[], ◌∷◌, sym, subst, ◌∙◌, length}
use Rattle.std.proofs.lemmas.Result.{err_from_is_err_and, IfOk-weaker, IfErr-weaker}
use Rattle.sm_defs.specs.World.{volume_at}
use Rattle.sm_model.specs.declared.event.Event.TheVariants as events
use Rattle.sm_model.specs.Answers.{volno}
use Rattle.sm_model.specs.Asked.{digest_events}
use Rattle.sm_model.specs.LegalRun.{IsAsked}
use Rattle.sm_model.specs.World.{World}
use Rattle.sm_crew.proofs.Looks.{volume_asked, volume_counts}
use Rattle.sm_crew.proofs.Reports.{stops_sooner}
use Rattle.sm_crew.proofs.ReportParts.{images_there, images_done, images_stop}
use Rattle.sm_crew.proofs.report.report_volume.Goals as goal

pub look-requires-clause-asked : goal.look-requires-clause-asked
look-requires-clause-asked g c =
    let r = c.requires in
    subst (λ (w : World). IsAsked w (events.VolumeLine (volno c.args.number))) (sym r.1) (volume_asked r.0 c.args.number r.2)

pub returns-in_err-line-clause-stopped : goal.returns-in_err-line-clause-stopped
returns-in_err-line-clause-stopped g c =
    let p = err_from_is_err_and c.from_residual.result c.from_residual.ensures.1 in
    let i = c.args.number in
    rw (p.1, p.2) (λ w is. stops_sooner g.D.Disk.state c.args.catalogue.now c.look.new.catalogue (events.VolumeLine (volno i) ∷ []) (digest_events i (length (volume_at w i).snapshots)) c.in_err-line.field-0.0 c.in_err-line.ensures.stopped)

pub report_images-requires : goal.report_images-requires
report_images-requires g c =
    let r = c.requires in
    let old = c.args.catalogue.now in
    let i = c.args.number in
    images_there g.D.Disk.state r.0 old c.look.new.catalogue i c.count_in.result r.1 c.in_ok-line.ensures.done
    (c.count_in.ensures ∙ volume_counts old.world r.0 i c.in_ok-line.line r.1 c.in_ok-line.ensures.seen) r.2

pub returns-clause-done : goal.returns-clause-done
returns-clause-done g c =
    let old = c.args.catalogue.now in
    let i = c.args.number in
    IfOk-weaker c.report_images.result _ _ (λ done h w is.
    images_done g.D.Disk.state w old c.look.new.catalogue i c.count_in.result is c.in_ok-line.ensures.done
    (c.count_in.ensures ∙ volume_counts old.world w i c.in_ok-line.line is c.in_ok-line.ensures.seen) c.report_images.new.catalogue h) c.report_images.ensures.done

pub returns-clause-stopped : goal.returns-clause-stopped
returns-clause-stopped g c =
    let old = c.args.catalogue.now in
    let i = c.args.number in
    IfErr-weaker c.report_images.result _ _ (λ stop h w is.
    images_stop g.D.Disk.state w old c.look.new.catalogue i c.count_in.result is c.in_ok-line.ensures.done
    (c.count_in.ensures ∙ volume_counts old.world w i c.in_ok-line.line is c.in_ok-line.ensures.seen) c.report_images.new.catalogue stop h) c.report_images.ensures.stopped
