use Rattle.std.proofs.Common.{◌≡◌, ◌∷◌, [], ℕ, Ok, Err, sym, subst, arith, length-append}
use Rattle.std.specs.Prelude.{Some}
use Rattle.std.proofs.lemmas.Result.{err_from_is_err_and}
use Rattle.sm_fields.specs.Format.{identity, such_that}
use Rattle.sm_fields.specs.Reading.{read}
use Rattle.sm_fields.proofs.InTurn.{goes_on, ends_somehow, is_done}
use Rattle.sm_catroot.specs.Layout.{may_be_leg, leg, legs}
use Rattle.sm_catroot.proofs.transfers.read_legs.Goals as goal

pub returns-in_err-ident : goal.returns-in_err-ident
returns-in_err-ident c =
    let p = err_from_is_err_and c.from_residual.result c.from_residual.ensures.1 in
    let inv = c.loop-place.invariant in
    let at = c.in_err-ident.field-0.0.at in
    let source = c.args.source.0 in
    let h = c.args.head.now in
    let n = c.args.count in
    let failed = subst (λ (k : ℕ). read (such_that identity (may_be_leg source h n k)) c.loop-place.reader ≡ Err at) (sym inv.long) c.in_err-ident.ensures in
    rw (p.1, p.2) (ends_somehow (leg source h n) c.loop-place.idents.items n c.loop-place.place (Some at) c.loop-place.reader (read (legs source h n) c.args.reader.now) c.loop-place-test.true failed inv.so_far)

pub loop-place-preserved : goal.loop-place-preserved
loop-place-preserved c =
    let inv = c.loop-place.invariant in
    let i = c.in_ok-ident.ident in
    let source = c.args.source.0 in
    let h = c.args.head.now in
    let n = c.args.count in
    let items = c.loop-place.idents.items in
    let one = subst (λ (k : ℕ). read (such_that identity (may_be_leg source h n k)) c.loop-place.reader ≡ Ok (i, c.read_leg.new.reader)) (sym inv.long) c.in_ok-ident.ensures in
    rw c.in_ok-push.ensures.items (record {
      so_far = goes_on (leg source h n) items n c.loop-place.place c.loop-place.reader c.read_leg.new.reader i (read (legs source h n) c.args.reader.now) c.loop-place-test.true one inv.so_far;
      long = omega (arith, length-append items (i ∷ []), inv.long);
    })

pub returns : goal.returns
returns c =
    let source = c.args.source.0 in
    let h = c.args.head.now in
    let n = c.args.count in
    rw c.from_vec.ensures (is_done (leg source h n) c.loop-place.idents.items n c.loop-place.place c.loop-place.reader (read (legs source h n) c.args.reader.now) c.loop-place-test.false c.loop-place.invariant.so_far)
