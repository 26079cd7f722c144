use Rattle.std.proofs.Common.{◌≡◌, List, Ok, Err, subst}
use Rattle.std.specs.Prelude.{IfSome}
use Rattle.std.proofs.lemmas.Result.{err_from_is_err_and}
use Rattle.sm_catroot.specs.declared.placed.Placed.{Placed}
use Rattle.sm_fields.specs.Reading.{read}
use Rattle.sm_fields.proofs.InTurn.{goes_on, ends_somehow, is_done}
use Rattle.sm_register.specs.Answer.{bad_byte}
use Rattle.sm_catroot.specs.Layout.{placed, volumes}
use Rattle.sm_catroot.proofs.paths.read_volumes.Goals as goal

pub returns-in_err-placed : goal.returns-in_err-placed
returns-in_err-placed c =
    let p = err_from_is_err_and c.from_residual.result c.from_residual.ensures.1 in
    let byte = bad_byte c.in_err-placed.field-0.0 in
    let failed = subst (λ (xs : List Placed). IfSome byte (λ k. read (placed xs) c.loop.reader ≡ Err k)) c.deref.ensures.value c.in_err-placed.ensures in
    rw (p.1, p.2) (ends_somehow placed c.loop.volumes.items c.args.count c.loop.counter byte c.loop.reader (read (volumes c.args.count) c.args.reader.now) c.loop-test.true failed c.loop.invariant)

pub loop-preserved : goal.loop-preserved
loop-preserved c =
    let one = subst (λ (xs : List Placed). read (placed xs) c.loop.reader ≡ Ok (c.in_ok-placed.placed, c.read_placed.new.reader)) c.deref.ensures.value c.in_ok-placed.ensures in
    rw c.in_ok-push.ensures.items (goes_on placed c.loop.volumes.items c.args.count c.loop.counter c.loop.reader c.read_placed.new.reader c.in_ok-placed.placed (read (volumes c.args.count) c.args.reader.now) c.loop-test.true one c.loop.invariant)

pub returns : goal.returns
returns c = is_done placed c.loop.volumes.items c.args.count c.loop.counter c.loop.reader (read (volumes c.args.count) c.args.reader.now) c.loop-test.false c.loop.invariant
