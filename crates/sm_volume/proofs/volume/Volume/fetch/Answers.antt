use Rattle.std.proofs.Common.{◌≡◌, [], IsTrue, OnOk, sym, ap, ◌∙◌, true, subst}
use Rattle.sm_defs.specs.Image.{stands}
use Rattle.sm_defs.specs.Volume.{tags_of}
use Rattle.volume_store.specs.Held.{block_at}
use Rattle.volume_store.specs.Maps.{all_maps, uses}
use Rattle.sm_volume.specs.Mounted.{Mounted}
use Rattle.sm_volume.specs.Assigned.{HasBlock}
use Rattle.sm_volume.proofs.SeenLemmas.{uses_seen}
use Rattle.sm_volume.proofs.CallLemmas.{fetched_ok}
use Rattle.sm_volume.proofs.volume.Volume.fetch.Goals as goal

pub fetch-requires-clause-used : goal.fetch-requires-clause-used
fetch-requires-clause-used g c =
    let state = g.D.Disk.state in
    let old = c.self.inside.store in
    sym (uses_seen [] 0 (state old.disk).seen old.maps c.args.number) ∙ ap (λ (v : Mounted _). stands c.args.number (tags_of v.volume)) c.self.view_is ∙ c.requires.used

pub returns-clause-block : goal.returns-clause-block
returns-clause-block g c =
    let state = g.D.Disk.state in
    subst (λ (v : Mounted _). OnOk c.fetch.result (IsTrue (state v.disk).told → c.fetch.new.into.0 ≡ block_at (state v.disk).seen c.args.number)) c.self.view_is c.fetch.ensures.bytes

pub returns-clause-bytes : goal.returns-clause-bytes
returns-clause-bytes g c =
    let state = g.D.Disk.state in
    let old = c.self.inside.store in
    let used : uses (all_maps old.maps.root old.maps.active) c.args.number ≡ true =
    sym (uses_seen [] 0 (state old.disk).seen old.maps c.args.number) ∙ ap (λ (v : Mounted _). stands c.args.number (tags_of v.volume)) c.self.view_is ∙ c.requires.used in
    subst (λ (v : Mounted _). OnOk c.fetch.result (IsTrue (state v.disk).told → HasBlock v.volume (record { tag = c.args.number; bytes = c.fetch.new.into.0 }))) c.self.view_is
    (fetched_ok state old c.args.number c.fetch.new.into.0 c.requires.from_one used c.fetch.result c.fetch.ensures.bytes)
