use Rattle.std.proofs.Common.{◌≡◌, List, ℕ, ◌∙◌, ap, subst}
use Rattle.volume_store.specs.Held.{Held}
use Rattle.volume_store.specs.Maps.{Maps}
use Rattle.volume_store.specs.Next.{adopted}
use Rattle.sm_root.specs.Condition.{snapshot_of}
use Rattle.volume_store.specs.Commits.{Commits}
use Rattle.volume_store.proofs.Committed.{committed}
use Rattle.volume_store.proofs.held.Store.adopt.Goals as goal

pub returns-clause-commits : goal.returns-clause-commits
returns-clause-commits g c =
    let old = c.args.self.now in
    let s = snapshot_of c.args.head c.args.map.items in
    let next : c.in_ok-next.next ≡ adopted old.maps s c.args.family c.args.drops.now = c.in_ok-next.ensures ∙ ap (λ (x : List ℕ). adopted c.self.inside.state (snapshot_of c.args.head x) c.args.family c.args.drops.now) c.in_ok-stable.ensures
    ∙ ap (λ (w : Held _). adopted w.maps s c.args.family c.args.drops.now) c.self.view_is in
    let done = c.commit.ensures in
    subst (λ (m : Maps). Commits g.D.Disk.state old m c.commit.result c.commit.new.self) next
    (committed g.D.Disk.state old c.in_ok-next.next c.commit.result c.commit.new.self done.ok done.any_moment done.spared done.causes done.no_memory done.fault done.counted)
