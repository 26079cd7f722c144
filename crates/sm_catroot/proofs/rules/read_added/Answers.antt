use Rattle.std.proofs.Common.{◌≡◌, ◌∷◌, ◌++◌, [], ◌∙◌, Ok, Err, ap, subst}
use Rattle.std.specs.Prelude.{IfSome}
use Rattle.std.proofs.lemmas.Result.{err_from_is_err_and}
use Rattle.sm_defs.specs.Relationship.{Policy}
use Rattle.sm_defs.specs.Rules.{with_rule}
use Rattle.sm_fields.specs.Format.{in_turn}
use Rattle.sm_fields.specs.Reading.{read}
use Rattle.sm_fields.proofs.InTurn.{goes_on, ends_somehow, is_done}
use Rattle.sm_register.specs.Answer.{bad_byte}
use Rattle.sm_catroot.specs.Layout.{rule, next_rule}
use Rattle.sm_catroot.proofs.Added.{added_fails, added_is, one_more}
use Rattle.sm_catroot.proofs.rules.read_added.Goals as goal

pub returns-in_err-rule : goal.returns-in_err-rule
returns-in_err-rule c =
    let p = err_from_is_err_and c.from_residual.result c.from_residual.ensures.1 in
    let inv = c.loop.invariant in
    let byte = bad_byte c.in_err-rule.field-0.0 in
    let failed = subst (λ (q : Policy). IfSome byte (λ k. read (rule q) c.loop.reader ≡ Err k)) inv.policy c.in_err-rule.ensures in
    rw (p.1, p.2) (added_fails c.args.policy c.args.count c.args.reader.now byte
    (ends_somehow (next_rule c.args.policy) inv.front c.args.count c.loop.counter byte c.loop.reader (read (in_turn (next_rule c.args.policy) [] c.args.count) c.args.reader.now) c.loop-test.true failed inv.so_far))

pub loop-preserved : goal.loop-preserved
loop-preserved c =
    let inv = c.loop.invariant in
    let r = c.in_ok-rule.rule in
    let one = subst (λ (q : Policy). read (rule q) c.loop.reader ≡ Ok (r, c.read_rule.new.reader)) inv.policy c.in_ok-rule.ensures in
    record {
      front = inv.front ++ r ∷ [];
      policy = c.in_ok-give.ensures ∙ ap (λ (q : Policy). with_rule q r) inv.policy ∙ one_more c.args.policy inv.front r;
      so_far = goes_on (next_rule c.args.policy) inv.front c.args.count c.loop.counter c.loop.reader c.read_rule.new.reader r (read (in_turn (next_rule c.args.policy) [] c.args.count) c.args.reader.now) c.loop-test.true one inv.so_far;
    }

pub returns : goal.returns
returns c =
    let inv = c.loop.invariant in
    rw inv.policy (added_is c.args.policy c.args.count c.args.reader.now c.loop.reader inv.front
    (is_done (next_rule c.args.policy) inv.front c.args.count c.loop.counter c.loop.reader (read (in_turn (next_rule c.args.policy) [] c.args.count) c.args.reader.now) c.loop-test.false inv.so_far))
