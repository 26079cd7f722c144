use Rattle.std.proofs.Common.{◌≡◌, ◌<◌, List, length, get_or, ap, ◌∙◌, arith}
use Rattle.sm_model.specs.declared.world.WorldVolume.{WorldVolume}
use Rattle.sm_shape.proofs.Tests.{and_so}
use Rattle.sm_shape.proofs.NumbersLemmas.{number_is}
use Rattle.sm_shape.proofs.numbers.number_stands.Goals as goal

pub returns : goal.returns
returns c =
    let vs = c.args.world.now.volumes.items in
    let s = c.args.snapshot.now in
    let o = c.index-volumes-origin.result in
    let long : length c.args.volumes.now ≡ length vs = ap (λ (l : List WorldVolume). length l) c.requires in
    let lt : s.ident.origin < length vs = omega (arith, long, c.if-origin-volumes.false) in
    let is : o ≡ get_or vs s.ident.origin o = c.index-volumes-origin.is ∙ ap (λ l. get_or l s.ident.origin o) c.requires in
    and_so c.in_ok-numbered.ensures (number_is c.args.world.now s o lt is)
