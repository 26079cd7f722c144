use Rattle.std.proofs.Common.{◌≡◌, sym, ap}
use Rattle.sm_defs.specs.Relationship.{Transfer}
use Rattle.sm_shape.proofs.given.legs_beside.Goals as goal

pub returns : goal.returns
returns c =
    let legs_are : c.args.transfer.now.legs ≡ c.transfer.inside.legs.items = ap (λ (q : Transfer). q.legs) (sym c.transfer.view_is) in
    rw (c.deref.ensures.value, ← legs_are) at c.legs_alone.ensures
