use Rattle.std.proofs.Common.{◌≡◌, IsTrue, Some, OnOk, slice_index_or, sym, subst}
use Rattle.sm_defs.specs.Image.{Image, hole}
use Rattle.volume_store.specs.Refusals.{RefusesOrFails}
use Rattle.sm_volume.specs.Mounted.{Mounted}
use Rattle.sm_volume.specs.Refusals.{read_refusal, image_seen}
use Rattle.sm_volume.proofs.CallLemmas.{read_refused, read_bytes}
use Rattle.sm_volume.proofs.volume.Volume.read.Goals as goal

pub returns-clause-refused : goal.returns-clause-refused
returns-clause-refused g c =
    let state = g.D.Disk.state in
    let old = c.self.inside.store in
    subst (λ (v : Mounted _). RefusesOrFails (read_refusal v.volume c.args.view c.args.at) c.read.result) c.self.view_is
    (subst (λ o. RefusesOrFails o c.read.result) (sym (read_refused (state old.disk).seen old.maps c.args.view c.args.at)) c.read.ensures.refused)

pub returns-clause-bytes : goal.returns-clause-bytes
returns-clause-bytes g c =
    let state = g.D.Disk.state in
    let old = c.self.inside.store in
    subst (λ (v : Mounted _). OnOk c.read.result (IsTrue (state v.disk).told → (image : Image) × (image_seen v.volume c.args.view ≡ Some image) × (c.read.new.into.0 ≡ (slice_index_or image c.args.at hole).bytes))) c.self.view_is
    (read_bytes state old c.args.view c.args.at c.read.new.into.0 c.read.result c.read.ensures.bytes)
