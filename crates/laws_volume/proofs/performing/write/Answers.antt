use Rattle.laws_volume.proofs.DoneLemmas.{done_write}
use Rattle.laws_volume.proofs.performing.write.Goals as goal

pub returns : goal.returns
returns g c =
    done_write g.D.Disk.state c.args.at c.args.block.now c.args.v.now c.write.new.self c.write.result c.requires.up c.write.ensures.refused c.write.ensures.ok c.write.ensures.blocks c.write.ensures.any_moment.told
