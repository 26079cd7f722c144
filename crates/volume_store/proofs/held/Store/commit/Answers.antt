use Rattle.std.proofs.Common.{◌≡◌, ◌⊎◌, ◌-◌, true, sym, ◌∙◌, ap, subst}
use Rattle.sm_disk.specs.Disk.{DiskState, GoesOn}
use Rattle.sm_disk.proofs.Moments.{weaker}
use Rattle.sm_root.specs.Spelling.{spelling}
use Rattle.volume_store.specs.Maps.{Maps}
use Rattle.volume_store.specs.Held.{Held, Shows}
use Rattle.volume_store.proofs.Framed.{framed_root}
use Rattle.volume_store.proofs.Shown.{shows_commit, settled_of, firm_of, held_failed, held_next}
use Rattle.volume_store.proofs.held.Store.commit.Goals as goal

-- the clause, of a view
abbrev Between : {D : Type 0} → (D → DiskState) → DiskState → Maps → Held D → Type 0
Between state e next v = GoesOn (state v.disk) e (λ c.
    Shows v.number v.maps.root (state v.disk).seen c ⊎ Shows (1 - v.number) next.root (state v.disk).seen c)

pub commit-requires-clause-framed : goal.commit-requires-clause-framed
commit-requires-clause-framed g c =
    framed_root c.args.next.root c.deref.result.now (c.deref.ensures.value ∙ c.in_ok-bytes.ensures.spelled ∙ ap spelling c.root.ensures.value) (rw c.deref.ensures.value c.in_ok-bytes.ensures.short)

pub returns-in-Ok-clause-any_moment : goal.returns-in-Ok-clause-any_moment
returns-in-Ok-clause-any_moment g c =
    let v : Held _ = record { disk = c.self.inside.disk; number = c.self.inside.slots; maps = c.self.inside.state; after = c.self.inside.after; up = c.self.inside.up } in
    let up : v.up ≡ true = ap (λ w. w.up) c.self.view_is ∙ c.requires.up in
    subst (λ (w : Held _). Between g.D.Disk.state (g.D.Disk.state c.commit.new.disk) c.args.next w) c.self.view_is
    (weaker _ _ _ _ c.commit.ensures.any_moment (λ x is. shows_commit _ _ _ (firm_of g.D.Disk.state v c.self.invariant up) c.deref.result.now c.args.next.root c.requires.good (c.deref.ensures.value ∙ c.in_ok-bytes.ensures.spelled ∙ ap spelling c.root.ensures.value) x is))

pub returns-clause-any_moment : goal.returns-clause-any_moment
returns-clause-any_moment g c =
    let v : Held _ = record { disk = c.self.inside.disk; number = c.self.inside.slots; maps = c.self.inside.state; after = c.self.inside.after; up = c.self.inside.up } in
    let up : v.up ≡ true = ap (λ w. w.up) c.self.view_is ∙ c.requires.up in
    subst (λ (w : Held _). Between g.D.Disk.state (g.D.Disk.state c.commit.new.disk) c.args.next w) c.self.view_is
    (weaker _ _ _ _ c.commit.ensures.any_moment (λ x is. shows_commit _ _ _ (firm_of g.D.Disk.state v c.self.invariant up) c.deref.result.now c.args.next.root c.requires.good (c.deref.ensures.value ∙ c.in_ok-bytes.ensures.spelled ∙ ap spelling c.root.ensures.value) x is))

pub invariant_of-self-in-Err : goal.invariant_of-self-in-Err
invariant_of-self-in-Err g c =
    let v : Held _ = record { disk = c.self.inside.disk; number = c.self.inside.slots; maps = c.self.inside.state; after = c.self.inside.after; up = c.self.inside.up } in
    let up : v.up ≡ true = ap (λ w. w.up) c.self.view_is ∙ c.requires.up in
    held_failed g.D.Disk.state v c.self.invariant up c.args.next c.requires.good c.deref.result.now (c.deref.ensures.value ∙ c.in_ok-bytes.ensures.spelled ∙ ap spelling c.root.ensures.value)
    (c.requires.logical ∙ sym (ap (λ w. w.maps.root.logical) c.self.view_is)) (c.requires.physical ∙ sym (ap (λ w. w.maps.root.physical) c.self.view_is)) (c.requires.numbered ∙ sym (ap (λ w. w.maps.root.number) c.self.view_is))
    c.commit.new.disk c.commit.ensures.spared c.commit.ensures.images c.commit.new.self c.in-Err.ensures.same_slot

pub commit-requires-clause-settled : goal.commit-requires-clause-settled
commit-requires-clause-settled g c =
    let v : Held _ = record { disk = c.self.inside.disk; number = c.self.inside.slots; maps = c.self.inside.state; after = c.self.inside.after; up = c.self.inside.up } in
    let up : v.up ≡ true = ap (λ w. w.up) c.self.view_is ∙ c.requires.up in
    settled_of (g.D.Disk.state v.disk) v.number v.maps.root (firm_of g.D.Disk.state v c.self.invariant up)

pub invariant_of-self : goal.invariant_of-self
invariant_of-self g c =
    let v : Held _ = record { disk = c.self.inside.disk; number = c.self.inside.slots; maps = c.self.inside.state; after = c.self.inside.after; up = c.self.inside.up } in
    let up : v.up ≡ true = ap (λ w. w.up) c.self.view_is ∙ c.requires.up in
    held_next g.D.Disk.state v c.self.invariant up c.args.next c.requires.good c.deref.result.now (c.deref.ensures.value ∙ c.in_ok-bytes.ensures.spelled ∙ ap spelling c.root.ensures.value)
    (c.requires.physical ∙ sym (ap (λ w. w.maps.root.physical) c.self.view_is)) c.commit.new.disk c.commit.ensures.spared c.commit.new.self c.in-Ok.ensures.other c.in-Ok.ensures.committed
