use Rattle.laws_volume.proofs.DoneLemmas.{done_fetch}
use Rattle.laws_volume.proofs.performing.fetch.Goals as goal

pub returns : goal.returns
returns g c = done_fetch g.D.Disk.state c.args.v.now c.fetch.new.self c.fetch.result c.requires.up c.fetch.ensures.ok c.fetch.ensures.quiet.seen c.fetch.ensures.time.told c.args.number c.fetch.ensures.refused
