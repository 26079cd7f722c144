use Rattle.std.proofs.Common.{length}
use Rattle.sm_shape.specs.Marks.{IsTableOf, AtOnePlace, maps_of}
use Rattle.sm_shape.proofs.Tables.{one_of_table}
use Rattle.sm_shape.proofs.TakesSteps.{takes_decides}
use Rattle.sm_shape.proofs.marks.volume_fits.Goals as goal

pub returns : goal.returns
returns c =
    let most = length c.args.table.now in
    takes_decides (IsTableOf most) (AtOnePlace most) c.args.table.now c.take_volume.new.table (maps_of c.args.volume.now) c.take_volume.result c.requires
    (one_of_table most c.take_volume.new.table (maps_of c.args.volume.now)) (c.take_volume.ensures most)
