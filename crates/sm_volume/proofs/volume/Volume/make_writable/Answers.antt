use Rattle.std.proofs.Common.{refl, subst}
use Rattle.volume_store.specs.Next as store
use Rattle.sm_volume.specs.Mounted.{Mounted, mounted}
use Rattle.sm_defs.specs.Operations.{writable}
use Rattle.sm_volume.specs.Commits.{Commits}
use Rattle.sm_volume.proofs.MountedLemmas.{commits_seen}
use Rattle.sm_volume.proofs.volume.Volume.make_writable.Goals as goal

pub returns-clause-commits : goal.returns-clause-commits
returns-clause-commits g c =
    let state = g.D.Disk.state in
    let old = c.self.inside.store in
    subst (λ (v : Mounted _). Commits state v (writable v.volume) c.make_writable.result (mounted state c.make_writable.new.self)) c.self.view_is
    (commits_seen state old c.make_writable.new.self (store.writable old.maps) (writable (mounted state old).volume) c.make_writable.result refl refl c.make_writable.ensures.commits)
