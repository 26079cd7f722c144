use Rattle.std.proofs.Common.{◌≡◌, [], ℕ, OnOk, None, sym, ap, ◌∙◌, subst}
use Rattle.sm_disk.specs.Disk.{GoesOn}
use Rattle.sm_disk.proofs.Moments.{weaker}
use Rattle.volume_store.specs.Refusals.{RefusesOrFails}
use Rattle.volume_store.specs.Held.{Shows}
use Rattle.sm_volume.specs.Mounted.{Mounted, mounted}
use Rattle.sm_volume.specs.Mounted.{fallen}
use Rattle.sm_volume.specs.Shown.{Selects, KeepsBlocks}
use Rattle.sm_defs.specs.Operations.{IsLeastFree, least_free}
use Rattle.sm_volume.specs.Refusals.{write_refusal}
use Rattle.sm_volume.proofs.BlockLemmas.{keeps_others}
use Rattle.sm_volume.proofs.MountedLemmas.{shows_seen}
use Rattle.sm_volume.proofs.CallLemmas.{SeesWritten, sees_written, free_seen, write_refused, write_failed, write_not_refused, least_kept}
use Rattle.sm_volume.proofs.volume.Volume.write.Goals as goal

pub returns-clause-refused : goal.returns-clause-refused
returns-clause-refused g c =
    let state = g.D.Disk.state in
    let old = c.self.inside.store in
    subst (λ (v : Mounted _). RefusesOrFails (write_refusal v.volume c.args.at) c.write.result) c.self.view_is
    (subst (λ o. RefusesOrFails o c.write.result) (sym (write_refused (state old.disk).seen old.maps c.args.at)) c.write.ensures.refused)

pub returns-clause-ok : goal.returns-clause-ok
returns-clause-ok g c =
    let state = g.D.Disk.state in
    let old = c.self.inside.store in
    let none = c.told.ensures.held.decided (ap (λ (v : Mounted _). v.up) c.self.view_is ∙ c.requires.up) in
    subst (λ (v : Mounted _). OnOk c.write.result (SeesWritten state c.args.at c.args.block.now.0 v (mounted state c.write.new.self))) c.self.view_is
    (sees_written state old c.write.new.self c.args.at c.args.block.now.0 none c.write.ensures.spared c.write.result c.write.ensures.ok)

pub returns-clause-free : goal.returns-clause-free
returns-clause-free g c =
    let state = g.D.Disk.state in
    let old = c.self.inside.store in
    subst (λ (v : Mounted _). write_refusal v.volume c.args.at ≡ None → IsLeastFree v.volume (least_free v.volume)) c.self.view_is
    (λ none. free_seen (state old.disk).seen old.maps (c.write.ensures.free (sym (write_refused (state old.disk).seen old.maps c.args.at) ∙ none)))

pub returns-clause-fault : goal.returns-clause-fault
returns-clause-fault g c = λ e.
    let state = g.D.Disk.state in
    let old = c.self.inside.store in
    let none = c.told.ensures.held.decided (ap (λ (v : Mounted _). v.up) c.self.view_is ∙ c.requires.up) in
    let free = c.write.ensures.free (write_not_refused old.maps c.args.at c.write.result c.write.ensures.refused e) in
    subst (λ (v : Mounted _). mounted state c.write.new.self ≡ fallen v c.write.new.self.disk) c.self.view_is
    (write_failed state old c.write.new.self c.args.at c.args.block.now.0 none c.write.ensures.spared free.0 free.1 (c.write.ensures.fault e))

pub returns-clause-blocks : goal.returns-clause-blocks
returns-clause-blocks g c =
    let state = g.D.Disk.state in
    let old = c.self.inside.store in
    subst (λ (v : Mounted _). (n : ℕ) → IsLeastFree v.volume n → KeepsBlocks (λ k. k ≡ n) (state v.disk) (state c.write.new.self.disk)) c.self.view_is
    (λ n least. keeps_others n least.from_one (state old.disk) (state c.write.new.self.disk) (c.write.ensures.spared n (least_kept (state old.disk).seen old.maps n least)))

pub returns-clause-any_moment : goal.returns-clause-any_moment
returns-clause-any_moment g c =
    let state = g.D.Disk.state in
    let old = c.self.inside.store in
    subst (λ (v : Mounted _). GoesOn (state v.disk) (state c.write.new.self.disk) (Selects v.selected v.number v.volume)) c.self.view_is
    (weaker (state old.disk) (state c.write.new.self.disk) (Shows old.number old.maps.root (state old.disk).seen) (Selects old.number old.maps.root.number (mounted state old).volume) c.write.ensures.any_moment
    (λ x shown. shows_seen [] 0 old.number old.maps (state old.disk).seen x shown))
