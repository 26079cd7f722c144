use Rattle.std.proofs.Common.{ℕ, ◌<◌, ◌+◌, subst}
use Rattle.std.proofs.lemmas.Result.{err_from_is_err_and}
use Rattle.sm_defs.specs.World.{volume_at}
use Rattle.sm_model.specs.Asked.{events_of_volume, events_of_volumes}
use Rattle.sm_crew.proofs.Reports.{goes_by, stops_by}
use Rattle.sm_crew.proofs.ReportParts.{volumes_from, next_volume, volume_there, volume_reports, volume_stops, number_below}
use Rattle.sm_crew.proofs.report.report_volumes.Goals as goal

pub report_volume-requires : goal.report_volume-requires
report_volume-requires g c =
    let r = c.requires in
    let l = c.loop-number in
    volume_there g.D.Disk.state r.0 c.args.catalogue.now l.catalogue r.1 (volumes_from r.0 l.number) (events_of_volumes 0 r.0.volumes) (l.invariant r.0 r.1) l.number
    (subst (λ (n : ℕ). l.number < n) r.2 c.loop-number-test.true)

pub returns-in_err-report_volume-clause-stopped : goal.returns-in_err-report_volume-clause-stopped
returns-in_err-report_volume-clause-stopped g c =
    let p = err_from_is_err_and c.from_residual.result c.from_residual.ensures.1 in
    let state = g.D.Disk.state in
    let old = c.args.catalogue.now in
    let l = c.loop-number in
    let new = c.report_volume.new.catalogue in
    let stop = c.in_err-report_volume.field-0.0 in
    rw (p.1, p.2) (λ w is.
    let all = events_of_volumes 0 w.volumes in
    let left = volumes_from w l.number in
    stops_by state old l.catalogue new (events_of_volume l.number (volume_at w l.number)) (volumes_from w (l.number + 1)) left all stop (l.invariant w is)
    (next_volume w l.number (number_below c.args.count old.world c.requires w is l.number c.loop-number-test.true))
    (volume_stops state w old l.catalogue is left all (l.invariant w is) new l.number stop c.in_err-report_volume.ensures.stopped))

pub loop-number-preserved : goal.loop-number-preserved
loop-number-preserved g c =
    let state = g.D.Disk.state in
    let old = c.args.catalogue.now in
    let l = c.loop-number in
    let new = c.report_volume.new.catalogue in
    λ w is.
    let all = events_of_volumes 0 w.volumes in
    let left = volumes_from w l.number in
    goes_by state old l.catalogue new (events_of_volume l.number (volume_at w l.number)) (volumes_from w (l.number + 1)) left all (l.invariant w is)
    (next_volume w l.number (number_below c.args.count old.world c.requires w is l.number c.loop-number-test.true))
    (volume_reports state w old l.catalogue is left all (l.invariant w is) new l.number c.in_ok-report_volume.ensures.done)
