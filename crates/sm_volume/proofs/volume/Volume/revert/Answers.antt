use Rattle.std.proofs.Common.{◌≡◌, [], true, refl, sym, ap, ◌∙◌, subst}
use Rattle.sm_defs.specs.Volume.{Volume, has}
use Rattle.volume_store.specs.Maps.{Maps}
use Rattle.volume_store.specs.Refusals.{Refuses}
use Rattle.sm_volume.specs.Mounted.{Mounted, mounted}
use Rattle.sm_volume.specs.Seen.{volume_of}
use Rattle.sm_volume.specs.Assigned.{IsReverted}
use Rattle.sm_volume.specs.Refusals.{revert_refusal}
use Rattle.sm_volume.specs.Commits.{Commits}
use Rattle.sm_volume.proofs.MountedLemmas.{commits_seen}
use Rattle.sm_volume.proofs.SeenLemmas.{has_seen}
use Rattle.sm_volume.proofs.CallLemmas.{revert_refused, reverted_seen}
use Rattle.sm_volume.proofs.volume.Volume.revert.Goals as goal

pub returns-clause-refused : goal.returns-clause-refused
returns-clause-refused g c =
    let state = g.D.Disk.state in
    let old = c.self.inside.store in
    subst (λ (v : Mounted _). Refuses (revert_refusal v.volume c.args.ident) c.revert.result) c.self.view_is
    (subst (λ o. Refuses o c.revert.result) (sym (revert_refused (state old.disk).seen old.maps c.args.ident)) c.revert.ensures.refused)

pub returns-clause-commits : goal.returns-clause-commits
returns-clause-commits g c =
    let state = g.D.Disk.state in
    let old = c.self.inside.store in
    let image = (state old.disk).seen in
    subst (λ (v : Mounted _). has v.volume.snapshots c.args.ident ≡ true → (next : Volume) × IsReverted v.volume c.args.ident c.args.drop_newer c.args.family next × Commits state v next c.revert.result (mounted state c.revert.new.self)) c.self.view_is
    (λ stands.
    let made = c.revert.ensures.commits (sym (has_seen image old.maps.root.snapshots c.args.ident) ∙ stands) in (
      volume_of [] 0 image made.0,
      reverted_seen image old.maps made.0 c.args.ident c.args.drop_newer c.args.family made.1,
      commits_seen state old c.revert.new.self made.0 (volume_of [] 0 image made.0) c.revert.result (ap (λ (m : Maps). m.root.number) made.1.2) refl made.2,
    ))
