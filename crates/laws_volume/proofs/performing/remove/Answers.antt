use Rattle.std.proofs.Common.{◌≡◌, List, subst}
use Rattle.sm_base.specs.declared.numbers.Ident.{Ident}
use Rattle.volume_store.specs.Refusals.{Refuses}
use Rattle.sm_defs.specs.Operations.{removed}
use Rattle.sm_volume.specs.Refusals.{remove_refusal}
use Rattle.sm_volume.specs.Commits.{Commits}
use Rattle.laws_volume.specs.declared.call.Call.TheVariants as calls
use Rattle.laws_volume.specs.Assigned.{Assigns}
use Rattle.laws_volume.specs.Answered.{Answers}
use Rattle.laws_volume.proofs.DoneLemmas.{done_commit}
use Rattle.laws_volume.proofs.performing.remove.Goals as goal

pub returns : goal.returns
unfolding Assigns Answers
returns g c =
    let state = g.D.Disk.state in
    let old = c.args.v.now in
    let is : c.deref.result.now ≡ c.args.drops.now.items = c.deref.ensures.value in
    done_commit state (calls.Remove c.args.drops.now) old c.remove.new.self (removed old.volume c.args.drops.now.items) c.remove.result c.requires.up
    (subst (λ (drops : List Ident). Commits state old (removed old.volume drops) c.remove.result c.remove.new.self) is c.remove.ensures.commits)
    (subst (λ (drops : List Ident). Refuses (remove_refusal old.volume drops) c.remove.result) is c.remove.ensures.refused) (λ h. h)
