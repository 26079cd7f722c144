use Rattle.std.proofs.Common.{◌-◌, [], ◌∷◌, ◌+◌, sym, subst, None, Some}
use Rattle.std.proofs.lemmas.Result.{err_from_is_err_and}
use Rattle.sm_model.specs.declared.event.Event.TheVariants as events
use Rattle.sm_model.specs.Asked.{digest_events}
use Rattle.sm_model.specs.LegalRun.{IsAsked}
use Rattle.sm_model.specs.World.{World}
use Rattle.sm_crew.proofs.Looks.{digest_asked}
use Rattle.sm_crew.proofs.Reports.{stops_sooner, goes_by, stops_by}
use Rattle.sm_crew.proofs.ReportParts.{snapshot_events, next_snapshot, image_there}
use Rattle.sm_crew.proofs.report.report_images.Goals as goal

pub look-requires-clause-asked : goal.look-requires-clause-asked
look-requires-clause-asked g c =
    let r = c.requires in
    subst (λ (w : World). IsAsked w (events.Digest c.args.volume None)) (sym r.1) (digest_asked r.0 c.args.volume.0 None r.2 tt)

pub returns-in_err-look-clause-stopped : goal.returns-in_err-look-clause-stopped
returns-in_err-look-clause-stopped g c =
    let p = err_from_is_err_and c.from_residual.result c.from_residual.ensures.1 in
    let v = c.args.volume in
    rw (p.1, p.2) (stops_sooner g.D.Disk.state c.args.catalogue.now c.look.new.catalogue (events.Digest v None ∷ []) (snapshot_events v.0 0 c.args.count) c.in_err-look.field-0.0 c.in_err-look.ensures.stopped)

pub look-requires-in-loop-place-clause-asked : goal.look-requires-in-loop-place-clause-asked
look-requires-in-loop-place-clause-asked g c =
    let r = c.requires in
    let v = c.args.volume.0 in
    let count = c.args.count in
    let l = c.loop-place in
    image_there g.D.Disk.state r.0 c.args.catalogue.now l.catalogue r.1 (snapshot_events v l.place (count - l.place)) (digest_events v count) l.invariant v count l.place r.2 r.3 c.loop-place-test.true

pub returns-in_err-look-2-clause-stopped : goal.returns-in_err-look-2-clause-stopped
returns-in_err-look-2-clause-stopped g c =
    let p = err_from_is_err_and c.from_residual-in_err-look-2.result c.from_residual-in_err-look-2.ensures.1 in
    let v = c.args.volume in
    let count = c.args.count in
    let l = c.loop-place in
    rw (p.1, p.2) (stops_by g.D.Disk.state c.args.catalogue.now l.catalogue c.look-in-loop-place.new.catalogue (events.Digest v (Some l.place) ∷ []) (snapshot_events v.0 (l.place + 1) (count - (l.place + 1)))
    (snapshot_events v.0 l.place (count - l.place)) (digest_events v.0 count) c.in_err-look-2.field-0.0 l.invariant (next_snapshot v.0 l.place count c.loop-place-test.true) c.in_err-look-2.ensures.stopped)

pub loop-place-preserved : goal.loop-place-preserved
loop-place-preserved g c =
    let v = c.args.volume in
    let count = c.args.count in
    let l = c.loop-place in
    goes_by g.D.Disk.state c.args.catalogue.now l.catalogue c.look-in-loop-place.new.catalogue (events.Digest v (Some l.place) ∷ []) (snapshot_events v.0 (l.place + 1) (count - (l.place + 1)))
    (snapshot_events v.0 l.place (count - l.place)) (digest_events v.0 count) l.invariant (next_snapshot v.0 l.place count c.loop-place-test.true) c.in_ok-look-2.ensures.done
