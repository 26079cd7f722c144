use Rattle.std.proofs.Common.{◌≡◌, List, Ok, Err, subst}
use Rattle.std.specs.Prelude.{IfSome}
use Rattle.std.proofs.lemmas.Result.{err_from_is_err_and}
use Rattle.sm_defs.specs.Relationship.{Policy}
use Rattle.sm_fields.specs.Reading.{read}
use Rattle.sm_fields.proofs.InTurn.{goes_on, ends_somehow, is_done}
use Rattle.sm_register.specs.Answer.{bad_byte}
use Rattle.sm_catroot.specs.Layout.{policy, policies}
use Rattle.sm_catroot.proofs.policies.read_policies.Goals as goal

pub returns-in_err-policy : goal.returns-in_err-policy
returns-in_err-policy c =
    let p = err_from_is_err_and c.from_residual.result c.from_residual.ensures.1 in
    let byte = bad_byte c.in_err-policy.field-0.0 in
    let failed = subst (λ (xs : List Policy). IfSome byte (λ k. read (policy xs) c.loop.reader ≡ Err k)) c.deref.ensures.value c.in_err-policy.ensures in
    rw (p.1, p.2) (ends_somehow policy c.loop.policies.items c.args.count c.loop.counter byte c.loop.reader (read (policies c.args.count) c.args.reader.now) c.loop-test.true failed c.loop.invariant)

pub loop-preserved : goal.loop-preserved
loop-preserved c =
    let one = subst (λ (xs : List Policy). read (policy xs) c.loop.reader ≡ Ok (c.in_ok-policy.policy, c.read_policy.new.reader)) c.deref.ensures.value c.in_ok-policy.ensures in
    rw c.in_ok-push.ensures.items (goes_on policy c.loop.policies.items c.args.count c.loop.counter c.loop.reader c.read_policy.new.reader c.in_ok-policy.policy (read (policies c.args.count) c.args.reader.now) c.loop-test.true one c.loop.invariant)

pub returns : goal.returns
returns c = is_done policy c.loop.policies.items c.args.count c.loop.counter c.loop.reader (read (policies c.args.count) c.args.reader.now) c.loop-test.false c.loop.invariant
