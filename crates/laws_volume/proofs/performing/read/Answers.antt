use Rattle.laws_volume.proofs.DoneLemmas.{done_read}
use Rattle.laws_volume.proofs.performing.read.Goals as goal

pub returns : goal.returns
returns g c = done_read g.D.Disk.state c.args.v.now c.read.new.self c.read.result c.requires.up c.read.ensures.ok c.read.ensures.quiet.seen c.read.ensures.time.told c.args.view c.args.at c.read.ensures.refused
