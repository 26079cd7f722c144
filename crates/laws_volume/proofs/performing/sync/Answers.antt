use Rattle.laws_volume.proofs.DoneLemmas.{done_sync}
use Rattle.laws_volume.proofs.performing.sync.Goals as goal

pub returns : goal.returns
returns g c = done_sync g.D.Disk.state c.args.v.now c.sync.new.self c.sync.result c.requires.up c.sync.ensures.ok c.sync.ensures.seen c.sync.ensures.time.told c.sync.ensures.refused
