use Rattle.std.proofs.Common.{ap, sym, subst, ◌≤◌, arith}
use Rattle.sm_memdisk.specs.declared.disk.MemDisk.{MemDisk}
use Rattle.sm_memdisk.specs.Content.{Content, DoesSync, IsSame}
use Rattle.sm_memdisk.proofs.Meets.{same_steps, same_from, sync_steps, sync_synced, sync_images}
use Rattle.sm_memdisk.proofs.disk.MemDiskDisk.sync.Goals as goal

pub returns-then-fails-clause-time : goal.returns-then-fails-clause-time
returns-then-fails-clause-time c =
    same_steps c.args.self.now.store c.fails.new.self.store c.args.self.now.faults c.fails.new.self.faults (same_from _ _ (ap (λ (m : MemDisk). m.store) c.fails.ensures.counted)) c.fails.ensures.grows

pub returns-in-Ok-clause-synced : goal.returns-in-Ok-clause-synced
returns-in-Ok-clause-synced c =
    sync_synced c.fails.new.self.store c.sync.new.self c.args.self.now.faults c.fails.new.self.faults c.in-Ok.ensures.ok c.fails.ensures.grows

pub returns-in-Ok-clause-images : goal.returns-in-Ok-clause-images
returns-in-Ok-clause-images c =
    let does = subst (λ (s : Content). DoesSync s c.sync.new.self) (ap (λ (m : MemDisk). m.store) c.fails.ensures.counted) c.in-Ok.ensures.ok in
    sync_images c.args.self.now.store c.sync.new.self c.args.self.now.faults c.fails.new.self.faults does c.fails.ensures.grows

pub returns-in-Ok-clause-time : goal.returns-in-Ok-clause-time
returns-in-Ok-clause-time c =
    let does = subst (λ (s : Content). DoesSync s c.sync.new.self) (ap (λ (m : MemDisk). m.store) c.fails.ensures.counted) c.in-Ok.ensures.ok in
    sync_steps c.args.self.now.store c.sync.new.self c.args.self.now.faults c.fails.new.self.faults does c.fails.ensures.grows

pub returns-in-Err-clause-time : goal.returns-in-Err-clause-time
returns-in-Err-clause-time c =
    let counted = ap (λ (m : MemDisk). m.store) c.fails.ensures.counted in
    let starved = ap (λ (m : MemDisk). m.store) c.starve.ensures.counts in
    let before : IsSame c.args.self.now.store c.sync.new.self = subst (λ (s : Content). IsSame s c.sync.new.self) counted c.in-Err.ensures.err in
    let same : IsSame c.args.self.now.store c.starve.new.self.store = subst (λ (t : Content). IsSame c.args.self.now.store t) (sym starved) before in
    let grows : c.args.self.now.faults ≤ c.starve.new.self.faults = omega (arith, c.fails.ensures.grows, c.starve.ensures.grows) in
    same_steps c.args.self.now.store c.starve.new.self.store c.args.self.now.faults c.starve.new.self.faults same grows
