use Rattle.std.proofs.Common.{IsTrue, IfOk, OnErr, subst}
use Rattle.sm_volume.specs.Mounted.{Mounted, mounted}
use Rattle.sm_volume.specs.Shown.{SelectsSide}
use Rattle.sm_volume.specs.Restarted.{IsRestarted, IsStillDown}
use Rattle.sm_volume.proofs.RestartLemmas.{restart_ok, restart_side, restart_fault}
use Rattle.sm_volume.proofs.volume.Volume.restart.Goals as goal

pub returns-clause-ok : goal.returns-clause-ok
returns-clause-ok g c =
    let state = g.D.Disk.state in
    subst (λ (v : Mounted _). IfOk c.restart.result (λ side. IsRestarted state v side (mounted state c.restart.new.self))) c.self.view_is
    (restart_ok state c.self.inside.store c.restart.new.self c.told.ensures.held c.restart.result c.restart.ensures.ok c.restart.ensures.side c.restart.ensures.selected)

pub returns-clause-side : goal.returns-clause-side
returns-clause-side g c =
    let state = g.D.Disk.state in
    subst (λ (v : Mounted _). IfOk c.restart.result (λ side. IsTrue (state v.disk).told → SelectsSide side v (state c.restart.new.self.disk).seen)) c.self.view_is
    (restart_side state c.self.inside.store c.restart.new.self c.told.ensures.held c.restart.result c.restart.ensures.side)

pub returns-clause-fault : goal.returns-clause-fault
returns-clause-fault g c =
    let state = g.D.Disk.state in
    subst (λ (v : Mounted _). OnErr c.restart.result (IsStillDown state v (mounted state c.restart.new.self))) c.self.view_is
    (restart_fault state c.self.inside.store c.restart.new.self c.told.ensures.held c.restart.result c.restart.ensures.fault c.restart.ensures.image)
