use Rattle.std.proofs.Common.{◌≡◌, ◌∙◌, ap, subst}
use Rattle.volume_store.specs.Held.{Held}
use Rattle.volume_store.specs.Maps.{Maps}
use Rattle.volume_store.specs.Next.{settled}
use Rattle.volume_store.specs.Commits.{Commits}
use Rattle.volume_store.proofs.Committed.{committed}
use Rattle.volume_store.proofs.held.Store.cp.Goals as goal

pub returns-clause-commits : goal.returns-clause-commits
returns-clause-commits g c =
    let old = c.args.self.now in
    let next : c.in_ok-next.next ≡ settled old.maps = c.in_ok-next.ensures ∙ ap (λ (w : Held _). settled w.maps) c.self.view_is in
    let done = c.commit.ensures in
    subst (λ (m : Maps). Commits g.D.Disk.state old m c.commit.result c.commit.new.self) next
    (committed g.D.Disk.state old c.in_ok-next.next c.commit.result c.commit.new.self done.ok done.any_moment done.spared done.causes done.no_memory done.fault done.counted)
