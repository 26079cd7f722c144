use Rattle.std.proofs.Common.{◌≡◌, ℕ, Ok, Err, sym, subst}
use Rattle.std.specs.Prelude.{IfSome}
use Rattle.std.proofs.lemmas.Result.{err_from_is_err_and}
use Rattle.sm_fields.specs.Reading.{read}
use Rattle.sm_fields.proofs.InTurn.{goes_on, ends_somehow, is_done}
use Rattle.sm_register.specs.Answer.{bad_byte}
use Rattle.sm_catroot.specs.Layout.{relation, next_relation, relations}
use Rattle.sm_catroot.proofs.Differ.{last_push}
use Rattle.sm_catroot.proofs.relations.read_relations.Goals as goal

pub returns-in_err-relation : goal.returns-in_err-relation
returns-in_err-relation c =
    let p = err_from_is_err_and c.from_residual.result c.from_residual.ensures.1 in
    let inv = c.loop.invariant in
    let byte = bad_byte c.in_err-relation.field-0.0 in
    let failed = subst (λ (n : ℕ). IfSome byte (λ k. read (relation n) c.loop.reader ≡ Err k)) inv.last c.in_err-relation.ensures in
    rw (p.1, p.2) (ends_somehow next_relation c.loop.relations.items c.args.count c.loop.counter byte c.loop.reader (read (relations c.args.count) c.args.reader.now) c.loop-test.true failed inv.so_far)

pub loop-preserved : goal.loop-preserved
loop-preserved c =
    let inv = c.loop.invariant in
    let r = c.in_ok-relation.relation in
    let one = subst (λ (n : ℕ). read (relation n) c.loop.reader ≡ Ok (r, c.read_relation.new.reader)) inv.last c.in_ok-relation.ensures in
    rw c.in_ok-push.ensures.items (record {
      so_far = goes_on next_relation c.loop.relations.items c.args.count c.loop.counter c.loop.reader c.read_relation.new.reader r (read (relations c.args.count) c.args.reader.now) c.loop-test.true one inv.so_far;
      last = sym (last_push c.loop.relations.items r);
    })

pub returns : goal.returns
returns c = is_done next_relation c.loop.relations.items c.args.count c.loop.counter c.loop.reader (read (relations c.args.count) c.args.reader.now) c.loop-test.false c.loop.invariant.so_far
