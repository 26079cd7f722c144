use Rattle.std.proofs.Common.{[], ◌∙◌, ap}
use Rattle.volume_store.specs.Held.{Held}
use Rattle.sm_volume.proofs.SeenLemmas.{root_seen}
use Rattle.sm_volume.proofs.volume.Volume.start.Goals as goal

pub returns-clause-root : goal.returns-clause-root
returns-clause-root g c =
    let store = c.start-store.result in
    root_seen [] 0 (g.D.Disk.state store.disk).seen store.maps ∙ ap (λ (h : Held _). h.maps.root) c.start-store.ensures
