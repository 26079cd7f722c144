-- The refusals of a further rule, in the order in which they are asked.
use Rattle.std.proofs.Common.{◌≡◌, ℕ, Bool, true, false, if◌then◌else◌, List, Option, Some, None, Result, Ok, Err, refl, sym, ap, subst, ◌∙◌}
use Rattle.std.specs.Prelude.{OnOk, OnErr}
use Rattle.std.specs.Str.{bytes_eq}
use Rattle.sm_base.specs.declared.refusal.Refusal.TheVariants as refusals
use Rattle.sm_model.specs.declared.reply.Reply.TheVariants as replies
use Rattle.sm_defs.specs.Words.{found}
use Rattle.sm_defs.specs.Relationship.{Policy, Rule}
use Rattle.sm_defs.specs.Rules.{is_wrong_rule, is_bad_keep, is_ruled, are_rules_full, with_rule}
use Rattle.sm_defs.specs.World.{Up, policy_at, no_policy}
use Rattle.sm_model.specs.Answers.{Answer, and_then, refused_if, some_or, told}
use Rattle.sm_model.specs.OfPolicies as model
use Rattle.sm_policy.specs.Added.{rule_refusal, Refuses}
use Rattle.sm_policy.specs.declared.adding.RuleFault.{RuleFault}
use Rattle.sm_policy.specs.declared.adding.RuleFault.TheVariants.{WrongRule, BadKeep, RuleTaken, RulesFull, NoMemory as OutOfMemory}
use Rattle.oracle_world.specs.Finding.{IsFound}
use Rattle.oracle_volumes.specs.Ruling.{IsRuled}

abbrev chain : Bool → Bool → Bool → Bool → Answer → Answer
chain a b c d done =
    and_then (refused_if a refusals.WrongRule) (λ _. and_then (refused_if b refusals.BadKeep) (λ _. and_then (refused_if c refusals.RuleTaken) (λ _. and_then (refused_if d refusals.RulesFull) (λ _. done))))

abbrev first_of : Bool → Bool → Bool → Bool → Option RuleFault
first_of a b c d = if a then Some WrongRule else if b then Some BadKeep else if c then Some RuleTaken else if d then Some RulesFull else None

abbrev done_as : Up → Answer
done_as w = Ok (record { reply = told replies.Done; world = w })

unrefused : (next new : Up) (r : Result (Unit {0}) RuleFault) → OnErr r (r ≡ Err OutOfMemory) → OnOk r (new ≡ next) → IsRuled (done_as next) r new
unrefused next new (Ok done) e o = ap done_as (sym o)
unrefused next new (Err f) e o = subst (λ x. IsRuled (done_as next) x new) (sym e) tt

refused : (a b c d : Bool) (next new : Up) (r : Result (Unit {0}) RuleFault) → Refuses (first_of a b c d) r → OnOk r (new ≡ next) → IsRuled (chain a b c d (done_as next)) r new
unfolding and_then refused_if
refused true b c d next new r e o = subst (λ x. IsRuled (Err refusals.WrongRule) x new) (sym e) refl
refused false true c d next new r e o = subst (λ x. IsRuled (Err refusals.BadKeep) x new) (sym e) refl
refused false false true d next new r e o = subst (λ x. IsRuled (Err refusals.RuleTaken) x new) (sym e) refl
refused false false false true next new r e o = subst (λ x. IsRuled (Err refusals.RulesFull) x new) (sym e) refl
refused false false false false next new r e o = unrefused next new r e o

pub ruled : (w new : Up) (name label : List ℕ) (keep at : ℕ) (preserve : Bool) (r : Result (Unit {0}) RuleFault) → IsFound (λ (p : Policy). bytes_eq p.name name) w.policies no_policy (Some at) →
    Refuses (rule_refusal (policy_at w at) label keep preserve) r → OnOk r (new ≡ model.with_policy w at (with_rule (policy_at w at) (record { label = label; keep = keep; preserve = preserve }))) → IsRuled (model.add_rule w name label keep preserve) r new
unfolding some_or and_then
ruled w new name label keep at preserve r f e o =
    let p = policy_at w at in
    rw f.0 (refused (is_wrong_rule p.kind label preserve) (is_bad_keep p.kind keep) (is_ruled p label) (are_rules_full p) (model.with_policy w at (with_rule p (record { label = label; keep = keep; preserve = preserve }))) new r e o)
