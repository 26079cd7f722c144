use Rattle.std.proofs.Common.{Err, sym, subst, ◌∙◌}
use Rattle.volume_store.specs.Opened.{FoundMaps}
use Rattle.sm_opening.specs.declared.fault.OpenFault.{OpenFault}
use Rattle.sm_opening.specs.OnDisk.{IsVolumeDamage}
use Rattle.sm_opening.specs.Looked.{disks_of, Looks}
use Rattle.sm_opening.proofs.VolumeLooks.{not_placed, found_looks, fault_looks, volume_found, volume_read}
use Rattle.sm_opening.proofs.volume.find_volume.Goals as goal

pub returns-then-not-lies-clause-looks : goal.returns-then-not-lies-clause-looks
returns-then-not-lies-clause-looks g c = not_placed g.D.Disk.state c.args.disks.now c.args.before.now c.args.number c.args.placed.now (sym c.lies.ensures ∙ c.if-not-lies.true)

pub returns-in-Ok-clause-looks : goal.returns-in-Ok-clause-looks
returns-in-Ok-clause-looks g c = found_looks g.D.Disk.state c.args.disks.now c.args.before.now c.args.number c.args.placed.now c.find_at.result c.find_at.new.disks (sym c.lies.ensures ∙ c.if-not-lies.false) c.find_at.ensures c.in-Ok.found c.in-Ok.is

pub returns-in-Ok-clause-found : goal.returns-in-Ok-clause-found
returns-in-Ok-clause-found g c = volume_found g.D.Disk.state c.args.disks.now c.args.before.now c.args.number c.args.placed.now c.find_at.result c.find_at.new.disks (sym c.lies.ensures ∙ c.if-not-lies.false) c.find_at.ensures c.in-Ok.found c.in-Ok.is

pub returns-in-Ok-clause-volume : goal.returns-in-Ok-clause-volume
returns-in-Ok-clause-volume g c = volume_read g.D.Disk.state c.args.disks.now c.args.before.now c.args.number c.args.placed.now c.find_at.result c.find_at.new.disks (sym c.lies.ensures ∙ c.if-not-lies.false) c.find_at.ensures c.in-Ok.found c.in-Ok.is

pub returns-in-Err-clause-looks : goal.returns-in-Err-clause-looks
returns-in-Err-clause-looks g c =
    subst (λ (e : OpenFault). Looks {A = FoundMaps} g.D.Disk.state (IsVolumeDamage (disks_of g.D.Disk.state c.args.disks.now) c.args.before.now c.args.number.0 c.args.placed.now) c.args.disks.now c.find_at.new.disks (Err e)) (sym c.fault_of.ensures)
    (fault_looks g.D.Disk.state c.args.disks.now c.args.before.now c.args.number c.args.placed.now c.find_at.result c.find_at.new.disks (sym c.lies.ensures ∙ c.if-not-lies.false) c.find_at.ensures c.in-Err.fault c.in-Err.is)
