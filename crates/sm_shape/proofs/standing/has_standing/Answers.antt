use Rattle.std.proofs.Common.{◌≡◌, sym, ap}
use Rattle.sm_defs.specs.Relationship.{Relationship}
use Rattle.sm_defs.specs.World.{volume_at}
use Rattle.sm_shape.specs.Blank.{blank}
use Rattle.sm_shape.proofs.StandingLemmas.{stands_with}
use Rattle.sm_shape.proofs.standing.has_standing.Goals as goal

pub returns : goal.returns
returns c =
    let w = blank c.args.world.now in
    let r = c.args.relation.now in
    let ss = c.snapshots_at-snapshots.result.now in
    let v = volume_at w r.destination in
    let at : r.destination ≡ c.relation.inside.destination.0 = ap (λ (q : Relationship). q.destination) (sym c.relation.view_is) in
    let kind = rw (c.deref.ensures.value, ← at) at c.kind_at-kind.ensures in
    let are = rw (c.deref-2.ensures.value, ← at) at c.snapshots_at-snapshots.ensures in (
      λ e. record { stands = λ t is. (stands_with v ss are c.kind_at-kind.result kind r t).0 (c.own_transfer_stands.ensures.0 e t is) },
      λ all. c.own_transfer_stands.ensures.1 (λ t is. (stands_with v ss are c.kind_at-kind.result kind r t).1 (all.stands t is)),
    )
