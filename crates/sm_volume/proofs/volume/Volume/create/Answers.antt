use Rattle.std.proofs.Common.{true, None, ◌∙◌, ap}
use Rattle.sm_defs.specs.Volume.{Volume}
use Rattle.sm_volume.specs.Mounted.{Mounted, mounted}
use Rattle.sm_volume.proofs.BlockLemmas.{keeps_all}
use Rattle.sm_volume.proofs.CallLemmas.{created}
use Rattle.sm_volume.proofs.volume.Volume.create.Goals as goal

pub returns-in-Ok-clause-ok : goal.returns-in-Ok-clause-ok
returns-in-Ok-clause-ok g c =
    let state = g.D.Disk.state in
    let new = c.in-Ok.store in
    let build : Volume → Mounted _ = λ v. record { disk = new.disk; number = c.args.number; selected = 0; volume = v; after = None; up = true } in
    ap (mounted state) c.in-Ok.ensures.ok ∙ ap build (created (state new.disk).seen c.args.number c.args.kind c.args.logical c.args.physical)

pub returns-in-Ok-clause-blocks : goal.returns-in-Ok-clause-blocks
returns-in-Ok-clause-blocks g c = keeps_all (g.D.Disk.state c.args.disk) (g.D.Disk.state c.in-Ok.store.disk) c.in-Ok.ensures.spared

pub returns-in-Err-clause-blocks : goal.returns-in-Err-clause-blocks
returns-in-Err-clause-blocks g c = keeps_all (g.D.Disk.state c.args.disk) (g.D.Disk.state c.in-Err.fault.0) c.in-Err.ensures.spared
