use Rattle.std.proofs.Common.{◌≡◌, ◌≤◌, true, ap, ◌∙◌, arith}
use Rattle.volume_store.specs.Maps.{Maps, all_maps, uses}
use Rattle.volume_store.proofs.Used.{used_within}
use Rattle.volume_store.proofs.state.State.used_number.Goals as goal

pub prove-unreachable-requires : goal.prove-unreachable-requires
prove-unreachable-requires c =
    let root = c.self.inside.root in
    let used : uses (all_maps root c.self.inside.active.items) c.args.number ≡ true = ap (λ (m : Maps). uses (all_maps m.root m.active) c.args.number) c.self.view_is ∙ c.requires in
    let h : c.args.number ≤ root.physical = used_within root.logical root.physical (all_maps root c.self.inside.active.items) c.args.number c.self.invariant.maps used in
    omega arith
