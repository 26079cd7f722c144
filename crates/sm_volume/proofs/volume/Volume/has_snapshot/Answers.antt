use Rattle.std.proofs.Common.{sym, ◌∙◌, ap}
use Rattle.sm_defs.specs.Volume.{has}
use Rattle.sm_volume.specs.Mounted.{Mounted}
use Rattle.sm_volume.proofs.SeenLemmas.{has_seen}
use Rattle.sm_volume.proofs.volume.Volume.has_snapshot.Goals as goal

pub returns : goal.returns
returns g c =
    let old = c.self.inside.store in
    c.has_snapshot.ensures.value ∙ sym (has_seen (g.D.Disk.state old.disk).seen old.maps.root.snapshots c.args.ident) ∙ ap (λ (v : Mounted _). has v.volume.snapshots c.args.ident) c.self.view_is
