use Rattle.std.proofs.Common.{◌≡◌, ◌≤◌, ℕ, List, IsTrue, ◌∙◌, ap, subst, arith}
use Rattle.sm_root.specs.Condition.{IsRoot}
use Rattle.sm_root.specs.Spelling.{spelling}
use Rattle.sm_slots.specs.Slots.{Selects}
use Rattle.sm_slots.specs.Stored.{Record}
use Rattle.volume_store.specs.Held.{need}
use Rattle.volume_store.specs.Maps.{Maps}
use Rattle.volume_store.proofs.Framed.{framed_root}
use Rattle.volume_store.proofs.Shown.{held_made}
use Rattle.volume_store.proofs.held.Store.create.Goals as goal

pub format-requires-clause-framed : goal.format-requires-clause-framed
format-requires-clause-framed g c =
    framed_root c.in-Ok.state.root c.deref.result.now (c.deref.ensures.value ∙ c.in-Ok-encode.ensures.spelled ∙ ap spelling c.root.ensures.value) (rw c.deref.ensures.value c.in-Ok-encode.ensures.short)

pub invariant_of-result : goal.invariant_of-result
invariant_of-result g c =
    let new = g.D.Disk.state c.format.new.disk in
    let bytes : c.deref.result.now ≡ spelling c.in-Ok.state.root = c.deref.ensures.value ∙ c.in-Ok-encode.ensures.spelled ∙ ap spelling c.root.ensures.value in
    let told = c.in-Ok-format.ensures.spared.any_moment.told in
    let physical : c.in-Ok.state.root.physical ≡ c.args.physical = ap (λ (m : Maps). m.root.physical) c.in-Ok.ensures in
    let size = c.in-Ok-format.ensures.spared.any_moment.size in
    let long : need c.in-Ok.state.root.physical ≤ new.size = rw (size, physical) (let n = c.need_of-need.ensures in let l = c.len-len.ensures in omega arith) in
    held_made g.D.Disk.state c.format.new.disk c.in-Ok-format.slots c.in-Ok.state (subst IsRoot c.root.ensures.value c.root.ensures.good) long (rw c.in-Ok-format.ensures.first (omega arith)) c.in-Ok-format.ensures.committed.synced
    (λ is_told. subst (λ (b : List ℕ). Selects new.seen c.in-Ok-format.slots (Record b)) bytes (c.in-Ok-format.ensures.committed.selects (subst IsTrue told is_told)))
