use Rattle.std.proofs.Common.{subst}
use Rattle.sm_volume.specs.Mounted.{Mounted}
use Rattle.sm_volume.specs.Numbers.{AreFreeOn}
use Rattle.sm_volume.proofs.NumberLemmas.{free_seen}
use Rattle.sm_volume.proofs.volume.Volume.space.Goals as goal

pub returns : goal.returns
returns g c =
    let state = g.D.Disk.state in
    let old = c.self.inside.store in
    subst (λ (v : Mounted _). AreFreeOn c.space.result.now v.volume) c.self.view_is (free_seen (state old.disk).seen old.maps c.space.result.now c.space.ensures)
