use Rattle.std.proofs.Common.{[], sym, ◌∙◌, ap}
use Rattle.sm_volume.specs.Mounted.{Mounted}
use Rattle.sm_volume.specs.Seen.{root_of}
use Rattle.sm_volume.proofs.SeenLemmas.{root_seen}
use Rattle.sm_volume.proofs.volume.Volume.root.Goals as goal

pub returns : goal.returns
returns g c =
    let state = g.D.Disk.state in
    let old = c.self.inside.store in
    c.root.ensures ∙ sym (root_seen [] 0 (state old.disk).seen old.maps) ∙ ap (λ (v : Mounted _). root_of v.number v.volume) c.self.view_is
