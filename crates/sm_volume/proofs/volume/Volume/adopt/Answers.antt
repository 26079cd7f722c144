use Rattle.std.proofs.Common.{◌≡◌, false, refl, sym, subst}
use Rattle.sm_defs.specs.Volume.{has}
use Rattle.volume_store.specs.Next as store
use Rattle.sm_root.specs.Condition as store_snapshot
use Rattle.volume_store.specs.Refusals.{Refuses}
use Rattle.sm_volume.specs.Mounted.{Mounted, mounted}
use Rattle.sm_volume.specs.Seen.{image_of}
use Rattle.sm_volume.specs.Assigned.{CanAdopt, adopted, snapshot_of}
use Rattle.sm_volume.specs.Refusals.{adopt_refusal}
use Rattle.sm_volume.specs.Commits.{Commits}
use Rattle.sm_volume.proofs.MountedLemmas.{commits_seen}
use Rattle.sm_volume.proofs.CallLemmas.{new_seen}
use Rattle.sm_volume.proofs.AdoptLemmas.{adopt_fits, adopt_refused, adopted_seen}
use Rattle.sm_volume.proofs.volume.Volume.adopt.Goals as goal

pub adopt-requires-clause-new : goal.adopt-requires-clause-new
adopt-requires-clause-new g c =
    let state = g.D.Disk.state in
    let old = c.self.inside.store in
    let new : has (mounted state old).volume.snapshots c.args.head.ident ≡ false = subst (λ (v : Mounted _). has v.volume.snapshots c.args.head.ident ≡ false) (sym c.self.view_is) c.requires.new in
    new_seen (state old.disk).seen c.args.head.ident old.maps.root.snapshots new

pub adopt-requires-clause-fits : goal.adopt-requires-clause-fits
adopt-requires-clause-fits g c =
    let state = g.D.Disk.state in
    let old = c.self.inside.store in
    let can : CanAdopt (mounted state old).volume c.args.map.items c.args.drops.now = subst (λ (v : Mounted _). CanAdopt v.volume c.args.map.items c.args.drops.now) (sym c.self.view_is) c.requires.fits in
    adopt_fits (state old.disk).seen old.maps c.args.map.items c.args.drops.now c.told.ensures.maps can

pub returns-clause-refused : goal.returns-clause-refused
returns-clause-refused g c =
    let state = g.D.Disk.state in
    let old = c.self.inside.store in
    subst (λ (v : Mounted _). Refuses (adopt_refusal v.volume (snapshot_of c.args.head (image_of (state v.disk).seen c.args.map.items)) c.args.drops.now) c.adopt.result) c.self.view_is
    (subst (λ o. Refuses o c.adopt.result) (sym (adopt_refused (state old.disk).seen old.maps c.args.head c.args.map.items c.args.drops.now)) c.adopt.ensures.refused)

pub returns-clause-commits : goal.returns-clause-commits
returns-clause-commits g c =
    let state = g.D.Disk.state in
    let old = c.self.inside.store in
    let image = (state old.disk).seen in
    subst (λ (v : Mounted _). Commits state v (adopted v.volume (snapshot_of c.args.head (image_of (state v.disk).seen c.args.map.items)) c.args.family c.args.drops.now) c.adopt.result (mounted state c.adopt.new.self)) c.self.view_is
    (commits_seen state old c.adopt.new.self (store.adopted old.maps (store_snapshot.snapshot_of c.args.head c.args.map.items) c.args.family c.args.drops.now)
    (adopted (mounted state old).volume (snapshot_of c.args.head (image_of image c.args.map.items)) c.args.family c.args.drops.now) c.adopt.result refl
    (adopted_seen image old.maps c.args.head c.args.map.items c.args.family c.args.drops.now) c.adopt.ensures.commits)
