use Rattle.std.proofs.Common.{◌≡◌, Err, sym, subst}
use Rattle.volume_store.specs.declared.faults.VolumeFault.{VolumeFault}
use Rattle.volume_store.specs.declared.faults.VolumeFault.TheVariants.{DiskFault}
use Rattle.laws_volume.specs.declared.call.Call.TheVariants as calls
use Rattle.laws_volume.specs.Answered.{IsDone}
use Rattle.laws_volume.proofs.DoneLemmas.{done_restart, failed_restart, same_fault}
use Rattle.laws_volume.proofs.performing.restart.Goals as goal

pub returns-in-Ok : goal.returns-in-Ok
returns-in-Ok g c = done_restart g.D.Disk.state c.args.v.now c.restart.new.self c.in-Ok.field-0 (c.told.ensures.decided c.requires.up) c.in-Ok.ensures.ok c.restart.ensures.time.told

pub returns-in-Err : goal.returns-in-Err
returns-in-Err g c =
    let is : c.in-Err.fault ≡ DiskFault = same_fault c.in-Err.fault c.in-Err.ensures.refused in
    subst (λ (f : VolumeFault). IsDone g.D.Disk.state calls.Restart c.args.v.now (Err f) c.restart.new.self) (sym is)
    (failed_restart g.D.Disk.state c.args.v.now c.restart.new.self c.restart.ensures.time.told)
