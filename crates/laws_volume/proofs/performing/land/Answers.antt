use Rattle.laws_volume.proofs.DoneLemmas.{done_land}
use Rattle.laws_volume.proofs.performing.land.Goals as goal

pub returns : goal.returns
returns g c =
    done_land g.D.Disk.state c.args.number c.args.block.now c.args.v.now c.land.new.self c.land.result c.requires.up c.land.ensures.refused c.land.ensures.ok c.land.ensures.block c.land.ensures.blocks
