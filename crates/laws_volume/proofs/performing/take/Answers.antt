use Rattle.std.proofs.Common.{◌≡◌, true, false}
use Rattle.sm_defs.specs.Volume.{has}
use Rattle.laws_volume.proofs.DoneLemmas.{done_taken, done_snapshot, no_memory_snapshot}
use Rattle.laws_volume.proofs.performing.take.Goals as goal

pub returns-then-has_snapshot : goal.returns-then-has_snapshot
returns-then-has_snapshot g c =
    let stands : has c.args.v.now.volume.snapshots c.args.head.now.ident ≡ true = let e = c.has_snapshot.ensures in let t = c.if-has_snapshot.true in cc in
    done_taken g.D.Disk.state c.args.head.now c.args.v.now stands

pub returns-in-Ok : goal.returns-in-Ok
returns-in-Ok g c =
    let stands : has c.args.v.now.volume.snapshots c.args.head.now.ident ≡ false = let e = c.has_snapshot.ensures in let t = c.if-has_snapshot.false in cc in
    done_snapshot g.D.Disk.state c.in-Ok.head c.args.head.now c.args.v.now c.snapshot.new.self c.snapshot.result c.in-Ok.ensures c.requires.up stands c.snapshot.ensures.refused c.snapshot.ensures.commits

pub returns-in-Err : goal.returns-in-Err
returns-in-Err g c = no_memory_snapshot g.D.Disk.state c.args.head.now c.args.v.now
