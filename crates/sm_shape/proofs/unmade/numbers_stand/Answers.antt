use Rattle.std.proofs.Common.{◌≡◌, false}
use Rattle.sm_defs.specs.Volume.{Volume, has}
use Rattle.sm_defs.specs.Legs.{made_ident}
use Rattle.sm_shape.specs.Blank.{blank_volume}
use Rattle.sm_shape.specs.Unmade.{LacksMade, IsUnmade}
use Rattle.sm_shape.proofs.ListWords.{all_among, among_all, each_image, image_each}
use Rattle.sm_shape.proofs.Tests.{first_fails, both_hold}
use Rattle.sm_shape.proofs.unmade.numbers_stand.Goals as goal

pub returns-then-not-given : goal.returns-then-not-given
returns-then-not-given c = first_fails c.in_ok-given.given c.if-not-given.true c.in_ok-given.ensures (λ n v s st. n.snapshots v s st)

pub returns : goal.returns
returns c =
    let vs = c.args.world.now.volumes.items in
    let rs = c.args.world.now.relations.items in
    both_hold c.in_ok-given.given c.all_unmade-unmade.result c.if-not-given.false c.in_ok-given.ensures (rw (c.deref.ensures.value, c.deref-2.ensures.value) at c.all_unmade-unmade.ensures)
    (λ given unmade. record {
      snapshots = given;
      unmade = λ r t a is reserved lacks. each_image blank_volume (λ (v : Volume). has v.snapshots (made_ident r.source t.number) ≡ false) vs
          (all_among (LacksMade r.source t.number) vs ((all_among (IsUnmade vs) rs unmade r a t is).nowhere reserved lacks));
    })
    (λ n. among_all (IsUnmade vs) rs (λ r a t is. record {
      nowhere = λ reserved lacks. among_all (LacksMade r.source t.number) vs
          (image_each blank_volume (λ (v : Volume). has v.snapshots (made_ident r.source t.number) ≡ false) vs (n.unmade r t a is reserved lacks));
    }))
