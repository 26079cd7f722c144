use Rattle.std.proofs.Common.{◌≤◌, ap, subst, arith}
use Rattle.sm_memdisk.specs.declared.disk.MemDisk.{MemDisk}
use Rattle.sm_memdisk.specs.Content.{Content, DoesRestart}
use Rattle.sm_memdisk.proofs.Meets.{restart_steps, restart_image, restart_synced}
use Rattle.sm_memdisk.proofs.disk.MemDiskDisk.restart.Goals as goal

pub returns-clause-image : goal.returns-clause-image
returns-clause-image c = λ told.
    let does = subst (λ (s : Content). DoesRestart s c.lift.new.self.chosen c.restart.new.self) (ap (λ (m : MemDisk). m.store) c.lift.ensures) c.restart.ensures in
    restart_image c.args.self.now.store c.restart.new.self c.args.self.now.faults c.args.self.now.faults c.lift.new.self.chosen does (omega arith)

pub returns-clause-synced : goal.returns-clause-synced
returns-clause-synced c =
    restart_synced c.lift.new.self.store c.restart.new.self c.lift.new.self.faults c.lift.new.self.faults c.lift.new.self.chosen c.restart.ensures (omega arith)

pub returns-clause-time : goal.returns-clause-time
returns-clause-time c =
    let does = subst (λ (s : Content). DoesRestart s c.lift.new.self.chosen c.restart.new.self) (ap (λ (m : MemDisk). m.store) c.lift.ensures) c.restart.ensures in
    let counted = ap (λ (m : MemDisk). m.faults) c.lift.ensures in
    let grows : c.args.self.now.faults ≤ c.lift.new.self.faults = omega arith in
    restart_steps c.args.self.now.store c.restart.new.self c.args.self.now.faults c.lift.new.self.faults c.lift.new.self.chosen does grows
