use Rattle.std.proofs.Common.{ap, sym, subst, ◌≤◌, arith}
use Rattle.sm_memdisk.specs.declared.disk.MemDisk.{MemDisk}
use Rattle.sm_memdisk.specs.Content.{Content, DoesWrite, IsSame}
use Rattle.sm_memdisk.proofs.Meets.{same_steps, same_wrote, write_steps, write_wrote, write_any, write_bytes}
use Rattle.sm_memdisk.proofs.disk.MemDiskDisk.write.Goals as goal

pub returns-then-fails-clause-range : goal.returns-then-fails-clause-range
returns-then-fails-clause-range c =
    let does = subst (λ (s : Content). DoesWrite s c.args.at c.args.bytes.now c.write.new.self) (ap (λ (m : MemDisk). m.store) c.fails-fails.ensures.counted) c.in-Ok.ensures.ok in
    write_wrote c.args.self.now.store c.write.new.self c.args.self.now.faults c.fails-fails.new.self.faults c.args.at c.args.bytes.now does c.fails-fails.ensures.grows

pub returns-then-fails-clause-time : goal.returns-then-fails-clause-time
returns-then-fails-clause-time c =
    let does = subst (λ (s : Content). DoesWrite s c.args.at c.args.bytes.now c.write.new.self) (ap (λ (m : MemDisk). m.store) c.fails-fails.ensures.counted) c.in-Ok.ensures.ok in
    write_steps c.args.self.now.store c.write.new.self c.args.self.now.faults c.fails-fails.new.self.faults c.args.at c.args.bytes.now does c.fails-fails.ensures.grows

pub returns-else-fails-clause-bytes : goal.returns-else-fails-clause-bytes
returns-else-fails-clause-bytes c = λ told.
    let does = subst (λ (s : Content). DoesWrite s c.args.at c.args.bytes.now c.write.new.self) (ap (λ (m : MemDisk). m.store) c.fails-fails.ensures.counted) c.in-Ok.ensures.ok in
    write_bytes c.args.self.now.store c.write.new.self c.args.self.now.faults c.fails-fails.new.self.faults c.args.at c.args.bytes.now does c.fails-fails.ensures.grows

pub returns-else-fails-clause-range : goal.returns-else-fails-clause-range
returns-else-fails-clause-range c =
    let does = subst (λ (s : Content). DoesWrite s c.args.at c.args.bytes.now c.write.new.self) (ap (λ (m : MemDisk). m.store) c.fails-fails.ensures.counted) c.in-Ok.ensures.ok in
    write_wrote c.args.self.now.store c.write.new.self c.args.self.now.faults c.fails-fails.new.self.faults c.args.at c.args.bytes.now does c.fails-fails.ensures.grows

pub returns-else-fails-clause-pending : goal.returns-else-fails-clause-pending
returns-else-fails-clause-pending c =
    let does = subst (λ (s : Content). DoesWrite s c.args.at c.args.bytes.now c.write.new.self) (ap (λ (m : MemDisk). m.store) c.fails-fails.ensures.counted) c.in-Ok.ensures.ok in
    write_any c.args.self.now.store c.write.new.self c.args.self.now.faults c.fails-fails.new.self.faults c.args.at c.args.bytes.now does c.fails-fails.ensures.grows

pub returns-else-fails-clause-time : goal.returns-else-fails-clause-time
returns-else-fails-clause-time c =
    let does = subst (λ (s : Content). DoesWrite s c.args.at c.args.bytes.now c.write.new.self) (ap (λ (m : MemDisk). m.store) c.fails-fails.ensures.counted) c.in-Ok.ensures.ok in
    write_steps c.args.self.now.store c.write.new.self c.args.self.now.faults c.fails-fails.new.self.faults c.args.at c.args.bytes.now does c.fails-fails.ensures.grows

pub returns-in-Err-clause-range : goal.returns-in-Err-clause-range
returns-in-Err-clause-range c =
    let counted = ap (λ (m : MemDisk). m.store) c.fails-fails.ensures.counted in
    let starved = ap (λ (m : MemDisk). m.store) c.starve.ensures.counts in
    let before : IsSame c.args.self.now.store c.write.new.self = subst (λ (s : Content). IsSame s c.write.new.self) counted c.in-Err.ensures.err in
    let same : IsSame c.args.self.now.store c.starve.new.self.store = subst (λ (t : Content). IsSame c.args.self.now.store t) (sym starved) before in
    let grows : c.args.self.now.faults ≤ c.starve.new.self.faults = omega (arith, c.fails-fails.ensures.grows, c.starve.ensures.grows) in
    same_wrote c.args.self.now.store c.starve.new.self.store c.args.self.now.faults c.starve.new.self.faults same grows c.args.at _

pub returns-in-Err-clause-time : goal.returns-in-Err-clause-time
returns-in-Err-clause-time c =
    let counted = ap (λ (m : MemDisk). m.store) c.fails-fails.ensures.counted in
    let starved = ap (λ (m : MemDisk). m.store) c.starve.ensures.counts in
    let before : IsSame c.args.self.now.store c.write.new.self = subst (λ (s : Content). IsSame s c.write.new.self) counted c.in-Err.ensures.err in
    let same : IsSame c.args.self.now.store c.starve.new.self.store = subst (λ (t : Content). IsSame c.args.self.now.store t) (sym starved) before in
    let grows : c.args.self.now.faults ≤ c.starve.new.self.faults = omega (arith, c.fails-fails.ensures.grows, c.starve.ensures.grows) in
    same_steps c.args.self.now.store c.starve.new.self.store c.args.self.now.faults c.starve.new.self.faults same grows
