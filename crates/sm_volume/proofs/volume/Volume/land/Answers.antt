use Rattle.std.proofs.Common.{◌≡◌, [], OnOk, OnErr, sym, ap, ◌∙◌, false, subst}
use Rattle.sm_defs.specs.Image.{stands}
use Rattle.sm_defs.specs.Volume.{tags_of}
use Rattle.sm_disk.specs.Disk.{GoesOn}
use Rattle.sm_disk.proofs.Moments.{weaker}
use Rattle.volume_store.specs.Held.{Shows}
use Rattle.volume_store.specs.Maps.{all_maps, uses}
use Rattle.sm_volume.specs.Mounted.{Mounted, mounted}
use Rattle.sm_volume.specs.Mounted.{on_disk, fallen}
use Rattle.sm_volume.specs.Shown.{Selects, KeepsBlocks}
use Rattle.sm_volume.proofs.BlockLemmas.{keeps_others}
use Rattle.sm_volume.proofs.SeenLemmas.{uses_seen}
use Rattle.sm_volume.proofs.MountedLemmas.{shows_seen}
use Rattle.sm_volume.proofs.CallLemmas.{landed_ok, landed_fault}
use Rattle.sm_volume.proofs.volume.Volume.land.Goals as goal

pub land-requires-clause-free : goal.land-requires-clause-free
land-requires-clause-free g c =
    let state = g.D.Disk.state in
    let old = c.self.inside.store in
    sym (uses_seen [] 0 (state old.disk).seen old.maps c.args.number) ∙ ap (λ (v : Mounted _). stands c.args.number (tags_of v.volume)) c.self.view_is ∙ c.requires.free

pub returns-clause-ok : goal.returns-clause-ok
returns-clause-ok g c =
    let state = g.D.Disk.state in
    let old = c.self.inside.store in
    let up = ap (λ (v : Mounted _). v.up) c.self.view_is ∙ c.requires.up in
    let unused : uses (all_maps old.maps.root old.maps.active) c.args.number ≡ false =
    sym (uses_seen [] 0 (state old.disk).seen old.maps c.args.number) ∙ ap (λ (v : Mounted _). stands c.args.number (tags_of v.volume)) c.self.view_is ∙ c.requires.free in
    subst (λ (v : Mounted _). OnOk c.land.result (mounted state c.land.new.self ≡ on_disk v c.land.new.self.disk)) c.self.view_is
    (landed_ok state old c.land.new.self c.args.number c.requires.from_one unused (c.told.ensures.held.decided up) c.land.ensures.spared up c.land.result c.land.ensures.ok)

pub returns-clause-fault : goal.returns-clause-fault
returns-clause-fault g c =
    let state = g.D.Disk.state in
    let old = c.self.inside.store in
    let up = ap (λ (v : Mounted _). v.up) c.self.view_is ∙ c.requires.up in
    let unused : uses (all_maps old.maps.root old.maps.active) c.args.number ≡ false =
    sym (uses_seen [] 0 (state old.disk).seen old.maps c.args.number) ∙ ap (λ (v : Mounted _). stands c.args.number (tags_of v.volume)) c.self.view_is ∙ c.requires.free in
    subst (λ (v : Mounted _). OnErr c.land.result (mounted state c.land.new.self ≡ fallen v c.land.new.self.disk)) c.self.view_is
    (landed_fault state old c.land.new.self c.args.number c.requires.from_one unused (c.told.ensures.held.decided up) c.land.ensures.spared up c.land.result c.land.ensures.fault)

pub returns-clause-blocks : goal.returns-clause-blocks
returns-clause-blocks g c =
    let state = g.D.Disk.state in
    let old = c.self.inside.store in
    subst (λ (v : Mounted _). KeepsBlocks (λ k. k ≡ c.args.number) (state v.disk) (state c.land.new.self.disk)) c.self.view_is
    (keeps_others c.args.number c.requires.from_one (state old.disk) (state c.land.new.self.disk) c.land.ensures.spared)

pub returns-clause-any_moment : goal.returns-clause-any_moment
returns-clause-any_moment g c =
    let state = g.D.Disk.state in
    let old = c.self.inside.store in
    subst (λ (v : Mounted _). GoesOn (state v.disk) (state c.land.new.self.disk) (Selects v.selected v.number v.volume)) c.self.view_is
    (weaker (state old.disk) (state c.land.new.self.disk) (Shows old.number old.maps.root (state old.disk).seen) (Selects old.number old.maps.root.number (mounted state old).volume) c.land.ensures.any_moment
    (λ x shown. shows_seen [] 0 old.number old.maps (state old.disk).seen x shown))
