use Rattle.std.proofs.Common.{◌≡◌, ap}
use Rattle.sm_defs.specs.Relationship.{Transfer}
use Rattle.sm_shape.proofs.ListWords.{all_among, among_all}
use Rattle.sm_fit.specs.Shipped.{IsNear}
use Rattle.sm_fit.proofs.window.in_window.Goals as goal

pub returns : goal.returns
returns c =
    let t = c.args.transfer.now in
    let landed : c.transfer.inside.landed.items ≡ t.landed = ap (λ (q : Transfer). q.landed) c.transfer.view_is in
    let checkpoint : c.transfer.inside.checkpoint ≡ t.checkpoint = ap (λ (q : Transfer). q.checkpoint) c.transfer.view_is in
    let asc = rw (c.deref.ensures.value, landed) at c.ascends.ensures in
    let below = rw (c.deref-2.ensures.value, landed, checkpoint) at c.has_all_below.ensures in
    let near = rw (c.deref-3.ensures.value, landed, checkpoint) at c.are_near.ensures in (
      λ e. record { ascends = asc.0 c.if-not-ascends.false; below = below.0 c.if-not-has_all_below.false; near = all_among (IsNear t.checkpoint) t.landed (near.0 e) },
      λ w. near.1 (among_all (IsNear t.checkpoint) t.landed w.near),
    )
