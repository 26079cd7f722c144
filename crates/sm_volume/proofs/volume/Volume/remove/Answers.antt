use Rattle.std.proofs.Common.{refl, sym, subst}
use Rattle.volume_store.specs.Next as store
use Rattle.volume_store.specs.Refusals.{Refuses}
use Rattle.sm_volume.specs.Mounted.{Mounted, mounted}
use Rattle.sm_defs.specs.Operations.{removed}
use Rattle.sm_volume.specs.Refusals.{remove_refusal}
use Rattle.sm_volume.specs.Commits.{Commits}
use Rattle.sm_volume.proofs.MountedLemmas.{commits_seen}
use Rattle.sm_volume.proofs.CallLemmas.{remove_refused, without_seen}
use Rattle.sm_volume.proofs.volume.Volume.remove.Goals as goal

pub returns-clause-refused : goal.returns-clause-refused
returns-clause-refused g c =
    let state = g.D.Disk.state in
    let old = c.self.inside.store in
    subst (λ (v : Mounted _). Refuses (remove_refusal v.volume c.args.drops.now) c.remove.result) c.self.view_is
    (subst (λ o. Refuses o c.remove.result) (sym (remove_refused (state old.disk).seen old.maps c.args.drops.now)) c.remove.ensures.refused)

pub returns-clause-commits : goal.returns-clause-commits
returns-clause-commits g c =
    let state = g.D.Disk.state in
    let old = c.self.inside.store in
    subst (λ (v : Mounted _). Commits state v (removed v.volume c.args.drops.now) c.remove.result (mounted state c.remove.new.self)) c.self.view_is
    (commits_seen state old c.remove.new.self (store.without old.maps c.args.drops.now) (removed (mounted state old).volume c.args.drops.now) c.remove.result refl
    (without_seen (state old.disk).seen old.maps c.args.drops.now) c.remove.ensures.commits)
