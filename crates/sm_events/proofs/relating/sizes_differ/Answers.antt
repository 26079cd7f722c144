use Rattle.std.proofs.Common.{◌≡◌, length, refl, sym, ap, ◌∙◌, subst, Some, arith}
use Rattle.std.specs.Prelude.{slice_get}
use Rattle.std.proofs.lemmas.Option.{get_or_from_slice_get, slice_get_read}
use Rattle.sm_defs.specs.Relationship.{Policy}
use Rattle.sm_defs.specs.Volume.{Volume}
use Rattle.sm_defs.specs.World.{no_policy}
use Rattle.sm_root.specs.declared.root.Root.{Root}
use Rattle.sm_volume.specs.Seen.{root_of}
use Rattle.sm_catroot.specs.Catalog.{Catalog}
use Rattle.sm_node.specs.Seats.{Seated}
use Rattle.sm_node.proofs.PlacedLemmas.{one_placed}
use Rattle.sm_events.proofs.RelatingDecided.{sizes_are}
use Rattle.sm_events.proofs.relating.sizes_differ.Goals as goal

pub returns : goal.returns
returns g c =
    let k = c.args.catalog.now in
    let seats = c.args.seats.now in
    let at = c.args.policy in
    let policies = ap (λ (x : Catalog). length x.policies) c.catalog.view_is in
    let inside = slice_get_read c.catalog.inside.policies.items _ at c.index-policy.result.now refl (omega (arith, c.requires.policy, policies)) c.index-policy.ensures in
    let policy = subst (λ (x : Catalog). slice_get x.policies at ≡ Some c.index-policy.result.now) c.catalog.view_is inside in
    let kind = c.kind.ensures ∙ sym (ap (λ (p : Policy). p.kind) (get_or_from_slice_get k.policies at c.index-policy.result.now no_policy policy)) in
    let s = c.index-seats-source.result in
    let from = one_placed k.volumes seats c.args.source s c.requires.places (slice_get_read seats _ c.args.source s refl c.requires.source c.index-seats-source.is) in
    let first = c.root.ensures ∙ ap (λ v. root_of v.number v.volume) (ap (λ (x : Seated _). x.volume) c.from.view_is) in
    let d = c.index-seats-destination.result in
    let to = one_placed k.volumes seats c.args.destination d c.requires.places (slice_get_read seats _ c.args.destination d refl c.requires.destination c.index-seats-destination.is) in
    let second = c.root-2.ensures ∙ ap (λ v. root_of v.number v.volume) (ap (λ (x : Seated _). x.volume) c.to.view_is) in
    c.roots_differ.ensures
    ∙ sizes_are _ _ _ _ _ _ _ _ _ _ kind
    (ap (λ (r : Root). r.logical) first ∙ sym (ap (λ (v : Volume). v.logical) from.2))
    (ap (λ (r : Root). r.logical) second ∙ sym (ap (λ (v : Volume). v.logical) to.2))
    (ap (λ (r : Root). r.physical) first ∙ sym (ap (λ (v : Volume). v.physical) from.2))
    (ap (λ (r : Root). r.physical) second ∙ sym (ap (λ (v : Volume). v.physical) to.2))
