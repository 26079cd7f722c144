use Rattle.std.proofs.Common.{◌≡◌, false, refl, sym, subst}
use Rattle.sm_defs.specs.Volume.{has}
use Rattle.sm_root.specs.declared.head.Head.{Head}
use Rattle.volume_store.specs.Next as store
use Rattle.sm_root.specs.Condition as store_snapshot
use Rattle.volume_store.specs.Refusals.{Refuses}
use Rattle.sm_volume.specs.Mounted.{Mounted, mounted}
use Rattle.sm_volume.specs.Assigned.{snapped}
use Rattle.sm_volume.specs.Refusals.{snapshot_refusal}
use Rattle.sm_volume.specs.Commits.{Commits}
use Rattle.sm_volume.proofs.MountedLemmas.{commits_seen}
use Rattle.sm_volume.proofs.CallLemmas.{new_seen, snapshot_refused, snapped_seen}
use Rattle.sm_volume.proofs.volume.Volume.snapshot.Goals as goal

pub snapshot-requires-clause-new : goal.snapshot-requires-clause-new
snapshot-requires-clause-new g c =
    let state = g.D.Disk.state in
    let old = c.self.inside.store in
    let new : has (mounted state old).volume.snapshots c.args.ident ≡ false = subst (λ (v : Mounted _). has v.volume.snapshots c.args.ident ≡ false) (sym c.self.view_is) c.requires.new in
    new_seen (state old.disk).seen c.args.ident old.maps.root.snapshots new

pub returns-clause-refused : goal.returns-clause-refused
returns-clause-refused g c =
    let state = g.D.Disk.state in
    let old = c.self.inside.store in
    subst (λ (v : Mounted _). Refuses (snapshot_refusal v.volume c.args.ident c.args.name) c.snapshot.result) c.self.view_is
    (subst (λ o. Refuses o c.snapshot.result) (sym (snapshot_refused (state old.disk).seen old.maps c.args.ident c.args.name)) c.snapshot.ensures.refused)

pub returns-clause-commits : goal.returns-clause-commits
returns-clause-commits g c =
    let state = g.D.Disk.state in
    let old = c.self.inside.store in
    let h : Head = record { ident = c.args.ident; name = c.args.name; label = c.args.label; time = c.args.time; made = c.args.made } in
    subst (λ (v : Mounted _). Commits state v (snapped v.volume h) c.snapshot.result (mounted state c.snapshot.new.self)) c.self.view_is
    (commits_seen state old c.snapshot.new.self (store.snapped old.maps (store_snapshot.snapshot_of h old.maps.active)) (snapped (mounted state old).volume h) c.snapshot.result refl
    (snapped_seen (state old.disk).seen old.maps h) c.snapshot.ensures.commits)
