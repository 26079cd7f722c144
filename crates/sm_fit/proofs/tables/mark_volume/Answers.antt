use Rattle.std.proofs.Common.{length}
use Rattle.std.specs.List.{flat_map}
use Rattle.sm_shape.specs.Marks.{one_map}
use Rattle.sm_fit.proofs.TableLemmas.{volume_taken}
use Rattle.sm_fit.proofs.tables.mark_volume.Goals as goal

pub returns : goal.returns
returns c =
    let most = length c.args.table.now in
    let v = c.args.volume.now in
    volume_taken most c.args.table.now c.take_map.new.table c.take_map-2.new.table c.take_snapshots.new.table v.active.items v.stable.items (flat_map one_map v.snapshots.items)
    c.take_map.result c.take_map-2.result c.take_snapshots.result
    (rw c.deref.ensures.value at (c.take_map.ensures most)) (rw c.deref-2.ensures.value at (c.take_map-2.ensures most)) (rw c.deref-3.ensures.value at (c.take_snapshots.ensures most))
    c.requires.empty c.requires.fits
