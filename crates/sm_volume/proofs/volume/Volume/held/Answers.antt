use Rattle.std.proofs.Common.{subst}
use Rattle.sm_volume.specs.Mounted.{Mounted}
use Rattle.sm_volume.specs.Numbers.{AreHeldOn}
use Rattle.sm_volume.proofs.NumberLemmas.{held_seen}
use Rattle.sm_volume.proofs.volume.Volume.held.Goals as goal

pub returns : goal.returns
returns g c =
    let state = g.D.Disk.state in
    let old = c.self.inside.store in
    subst (λ (v : Mounted _). AreHeldOn c.held.result.now v.volume) c.self.view_is (held_seen (state old.disk).seen old.maps c.held.result.now c.held.ensures)
