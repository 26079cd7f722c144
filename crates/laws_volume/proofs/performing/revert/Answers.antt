use Rattle.laws_volume.proofs.DoneLemmas.{done_revert}
use Rattle.laws_volume.proofs.performing.revert.Goals as goal

pub returns : goal.returns
returns g c =
    done_revert g.D.Disk.state c.args.ident c.args.drop_newer c.args.family c.args.v.now c.revert.new.self c.revert.result c.requires.up c.revert.ensures.refused c.revert.ensures.unchanged c.revert.ensures.commits
