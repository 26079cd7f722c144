use Rattle.std.proofs.Common.{◌≡◌, ◌≤◌, ap, subst, ◌∙◌, arith}
use Rattle.volume_store.specs.Maps.{Maps, all_maps}
use Rattle.volume_store.specs.Refusals.{used_of}
use Rattle.volume_store.proofs.Used.{used_and_free}
use Rattle.volume_store.proofs.state.State.used.Goals as goal

pub returns-clause-value : goal.returns-clause-value
returns-clause-value c =
    let root = c.self.inside.root in
    let all = used_and_free root.logical root.physical (all_maps root c.self.inside.active.items) c.self.inside.space c.self.invariant.maps c.self.invariant.free in
    (let e : c.used.result ≡ used_of (record { root = root; active = c.self.inside.active.items }) = omega (arith, all, c.used.ensures, c.self.invariant.free.long) in e) ∙ ap used_of c.self.view_is

pub returns-clause-within : goal.returns-clause-within
returns-clause-within c = subst (λ (m : Maps). c.used.result ≤ m.root.physical) c.self.view_is (omega (arith, c.used.ensures, c.self.invariant.free.long))
