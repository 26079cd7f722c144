use Rattle.std.proofs.Common.{length, Err, Ok, refl, arith}
use Rattle.std.proofs.lemmas.Option.{slice_get_read, slice_get_within}
use Rattle.std.proofs.lemmas.Result.{err_from_is_err_and}
use Rattle.sm_opening.proofs.LookLemmas.{kept_then}
use Rattle.sm_opening.proofs.SyncLemmas.{lies_below, one_moved, now_synced, fault_since, still_synced, one_more}
use Rattle.sm_opening.proofs.syncing.sync_all.Goals as goal

pub sync_numbered-requires-in-loop-volume : goal.sync_numbered-requires-in-loop-volume
sync_numbered-requires-in-loop-volume g c =
    let there = slice_get_read c.args.placed.now (length c.args.placed.now) c.loop-volume.volume-index c.volume-item.result refl c.loop-volume-test.true c.volume-item.is in
    let below = lies_below (length c.args.disks.now) c.args.placed.now c.loop-volume.volume-index c.volume-item.result c.requires.apart there in
    record { place = (let long = c.loop-volume.invariant.moves.as_long in omega (arith, below, long)) }

pub returns-in_err-sync_numbered-2-clause-moves : goal.returns-in_err-sync_numbered-2-clause-moves
returns-in_err-sync_numbered-2-clause-moves g c =
    kept_then g.D.Disk.state c.args.disks.now c.loop-volume.disks c.sync_numbered-in-loop-volume.new.disks c.loop-volume.invariant.moves
    (one_moved g.D.Disk.state c.sync_numbered-in-loop-volume.result c.volume-item.result.disk.0 c.loop-volume.disks c.sync_numbered-in-loop-volume.new.disks c.sync_numbered-in-loop-volume.ensures.synced)

pub returns-in_err-sync_numbered-2-clause-counted : goal.returns-in_err-sync_numbered-2-clause-counted
returns-in_err-sync_numbered-2-clause-counted g c =
    let p = err_from_is_err_and c.from_residual-in_err-sync_numbered-2.result c.from_residual-in_err-sync_numbered-2.ensures.1 in rw (p.1, p.2)
    (rw c.in_err-sync_numbered-2.ensures.fault
    (fault_since g.D.Disk.state c.in_err-sync_numbered-2.field-0.0 (Err c.in_err-sync_numbered-2.field-0.0) c.volume-item.result.disk c.args.disks.now c.loop-volume.disks c.sync_numbered-in-loop-volume.new.disks c.loop-volume.invariant.moves c.in_err-sync_numbered-2.ensures.synced refl))

pub loop-volume-preserved : goal.loop-volume-preserved
loop-volume-preserved g c =
    let moved = one_moved g.D.Disk.state c.sync_numbered-in-loop-volume.result c.volume-item.result.disk.0 c.loop-volume.disks c.sync_numbered-in-loop-volume.new.disks c.sync_numbered-in-loop-volume.ensures.synced in
    let now = now_synced g.D.Disk.state c.in_ok-sync_numbered-2.field-0 (Ok c.in_ok-sync_numbered-2.field-0) c.volume-item.result.disk.0 c.loop-volume.disks c.sync_numbered-in-loop-volume.new.disks c.in_ok-sync_numbered-2.ensures.synced refl in
    let there = slice_get_read c.args.placed.now (length c.args.placed.now) c.loop-volume.volume-index c.volume-item.result refl c.loop-volume-test.true c.volume-item.is in
    record {
      moves = kept_then g.D.Disk.state c.args.disks.now c.loop-volume.disks c.sync_numbered-in-loop-volume.new.disks c.loop-volume.invariant.moves moved;
      catalog = still_synced g.D.Disk.state 0 c.loop-volume.disks c.sync_numbered-in-loop-volume.new.disks moved c.loop-volume.invariant.catalog;
      volumes = one_more g.D.Disk.state c.args.placed.now c.loop-volume.volume-index c.volume-item.result c.loop-volume.disks c.sync_numbered-in-loop-volume.new.disks there moved c.loop-volume.invariant.volumes now;
    }

pub returns-clause-synced : goal.returns-clause-synced
returns-clause-synced g c = record {
  catalog = c.loop-volume.invariant.catalog;
  volumes = λ k p there.
      c.loop-volume.invariant.volumes k p
      (let lt = slice_get_within c.args.placed.now k p there in let over = c.loop-volume-test.false in omega (arith, lt, over)) there;
}
