use Rattle.std.proofs.Common.{sym}
use Rattle.sm_base.specs.declared.numbers.Ident.{Ident}
use Rattle.sm_model.specs.declared.world.WorldSnapshot.{WorldSnapshot}
use Rattle.sm_defs.specs.Words.{same_ident}
use Rattle.sm_defs.proofs.Idents.{same_is, same_self}
use Rattle.sm_shape.specs.Copies.{Alike}
use Rattle.sm_shape.proofs.CopiesLemmas.{alike_self, alike_both}
use Rattle.sm_shape.proofs.FirstsSteps.{compared, joined}
use Rattle.sm_shape.proofs.copies.take_named.Goals as goal

pub returns-in-Some : goal.returns-in-Some
returns-in-Some c =
    compared Ident WorldSnapshot same_ident Alike same_is same_self alike_self alike_both
    c.args.firsts.now c.args.snapshot.now.ident c.args.snapshot.now c.in-Some.first.now c.are_alike.result (sym c.in-Some.ensures.value) c.are_alike.ensures

pub returns-in_ok-insert-in-None : goal.returns-in_ok-insert-in-None
returns-in_ok-insert-in-None c =
    joined Ident WorldSnapshot same_ident Alike same_is same_self alike_self alike_both
    c.args.firsts.now c.insert.new.self c.args.snapshot.now.ident c.args.snapshot (sym c.in-None.ensures.value) c.in_ok-insert-in-None.ensures.updates.0
