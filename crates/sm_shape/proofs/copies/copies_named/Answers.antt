use Rattle.sm_base.specs.declared.numbers.Ident.{Ident}
use Rattle.sm_model.specs.declared.world.WorldSnapshot.{WorldSnapshot}
use Rattle.sm_defs.specs.Words.{same_ident}
use Rattle.sm_defs.proofs.Idents.{same_is, same_self}
use Rattle.sm_shape.specs.Firsts.{IsFirstsOf, Agree}
use Rattle.sm_shape.specs.Copies.{Alike, named_of}
use Rattle.sm_shape.proofs.CopiesLemmas.{alike_self, alike_both}
use Rattle.std.specs.List.{flat_map}
use Rattle.sm_shape.proofs.TakesSteps.{takes_decides}
use Rattle.sm_shape.proofs.FirstsSteps.{no_firsts, agree_of_firsts}
use Rattle.sm_shape.proofs.FamiliesLemmas.{copies_named_of, of_copies_named}
use Rattle.sm_shape.proofs.copies.copies_named.Goals as goal

pub returns : goal.returns
returns c =
    let w = c.args.world.now in
    let all = flat_map named_of w.volumes.items in
    let takes = rw c.deref.ensures.value at c.in_ok-agree.ensures in
    let test = takes_decides (IsFirstsOf Ident WorldSnapshot same_ident Alike) (Agree Ident WorldSnapshot Alike) c.new-firsts.result c.take_volumes.new.firsts all c.in_ok-agree.agree
    (no_firsts Ident WorldSnapshot same_ident Alike same_is same_self alike_self alike_both c.new-firsts.result c.new-firsts.ensures.empty)
    (agree_of_firsts Ident WorldSnapshot same_ident Alike same_is same_self alike_self alike_both c.take_volumes.new.firsts all) takes in
    (λ e. copies_named_of w (test.0 e), λ all. test.1 (of_copies_named w all))
