use Rattle.std.proofs.Common.{◌≤◌, [], sym, ◌∙◌, ap, subst}
use Rattle.sm_defs.specs.Volume.{used}
use Rattle.sm_volume.specs.Mounted.{Mounted}
use Rattle.sm_volume.proofs.SeenLemmas.{used_seen}
use Rattle.sm_volume.proofs.volume.Volume.used.Goals as goal

pub returns-clause-value : goal.returns-clause-value
returns-clause-value g c =
    let state = g.D.Disk.state in
    let old = c.self.inside.store in
    c.used.ensures.value ∙ sym (used_seen [] 0 (state old.disk).seen old.maps) ∙ ap (λ (v : Mounted _). used v.volume) c.self.view_is

pub returns-clause-within : goal.returns-clause-within
returns-clause-within g c = subst (λ (v : Mounted _). c.used.result ≤ v.volume.physical) c.self.view_is c.used.ensures.within
