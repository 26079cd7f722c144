use Rattle.std.proofs.Common.{◌≡◌, ◌≢◌, IfNone, OnSome, IfSome, refl, subst}
use Rattle.volume_store.specs.Maps.{Maps, all_maps, IsLeastFree}
use Rattle.volume_store.specs.Refusals.{used_of}
use Rattle.volume_store.proofs.Used.{none_found, some_found, least_found}
use Rattle.volume_store.proofs.state.State.free_number.Goals as goal

pub returns-clause-none : goal.returns-clause-none
returns-clause-none c =
    let root = c.self.inside.root in
    subst (λ (m : Maps). IfNone c.next_free.result (used_of m ≡ m.root.physical)) c.self.view_is
    (none_found root.logical root.physical (all_maps root c.self.inside.active.items) c.self.inside.space c.self.invariant.maps c.self.invariant.free c.next_free.result c.next_free.ensures)

pub returns-clause-some : goal.returns-clause-some
returns-clause-some c =
    let root = c.self.inside.root in
    subst (λ (m : Maps). OnSome c.next_free.result (used_of m ≢ m.root.physical)) c.self.view_is
    (some_found root.logical root.physical (all_maps root c.self.inside.active.items) c.self.inside.space c.self.invariant.maps c.self.invariant.free c.next_free.result c.next_free.ensures)

pub returns-clause-least : goal.returns-clause-least
returns-clause-least c =
    let root = c.self.inside.root in
    subst (λ (m : Maps). IfSome c.next_free.result (IsLeastFree m)) c.self.view_is
    (least_found root.logical root.physical (all_maps root c.self.inside.active.items) c.self.inside.space c.self.invariant.maps c.self.invariant.free (record { root = root; active = c.self.inside.active.items }) refl refl
    c.next_free.result c.next_free.ensures)
