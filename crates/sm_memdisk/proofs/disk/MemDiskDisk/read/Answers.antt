use Rattle.std.proofs.Common.{ap}
use Rattle.sm_memdisk.specs.declared.disk.MemDisk.{MemDisk}
use Rattle.sm_memdisk.proofs.Meets.{same_steps, same_from}
use Rattle.sm_memdisk.proofs.disk.MemDiskDisk.read.Goals as goal

pub returns-then-fails-clause-time : goal.returns-then-fails-clause-time
returns-then-fails-clause-time c =
    same_steps c.args.self.now.store c.fails.new.self.store c.args.self.now.faults c.fails.new.self.faults (same_from _ _ (ap (λ (m : MemDisk). m.store) c.fails.ensures.counted)) c.fails.ensures.grows
