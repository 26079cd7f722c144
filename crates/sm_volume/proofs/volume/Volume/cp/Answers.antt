use Rattle.std.proofs.Common.{refl, subst}
use Rattle.volume_store.specs.Next as store
use Rattle.sm_volume.specs.Mounted.{Mounted, mounted}
use Rattle.sm_defs.specs.Operations.{settled}
use Rattle.sm_volume.specs.Commits.{Commits}
use Rattle.sm_volume.proofs.MountedLemmas.{commits_seen}
use Rattle.sm_volume.proofs.volume.Volume.cp.Goals as goal

pub returns-clause-commits : goal.returns-clause-commits
returns-clause-commits g c =
    let state = g.D.Disk.state in
    let old = c.self.inside.store in
    subst (λ (v : Mounted _). Commits state v (settled v.volume) c.cp.result (mounted state c.cp.new.self)) c.self.view_is
    (commits_seen state old c.cp.new.self (store.settled old.maps) (settled (mounted state old).volume) c.cp.result refl refl c.cp.ensures.commits)
