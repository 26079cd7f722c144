-- Which refusal a rule that is to come is answered, in the order in which they are asked.
use Rattle.std.specs.Prelude.{◌≡◌, ℕ, Bool, if◌then◌else◌, List, Option, None, Some, Result, Err, OnErr}
use Rattle.sm_defs.specs.Relationship.{Policy}
use Rattle.sm_defs.specs.Rules.{is_wrong_rule, is_bad_keep, is_ruled, are_rules_full}
use Rattle.sm_policy.specs.declared.adding.RuleFault.{RuleFault}
use Rattle.sm_policy.specs.declared.adding.RuleFault.TheVariants.{WrongRule, BadKeep, RuleTaken, RulesFull, NoMemory as OutOfMemory}

abbrev pub rule_refusal : Policy → List ℕ → ℕ → Bool → Option RuleFault
rule_refusal p label keep preserve =
    if is_wrong_rule p.kind label preserve then Some WrongRule else
    if is_bad_keep p.kind keep then Some BadKeep else
    if is_ruled p label then Some RuleTaken else
    if are_rules_full p then Some RulesFull else None

-- the refusal comes exactly where it stands; without one the call answers Ok or finds no memory
abbrev pub Refuses : Option RuleFault → Result (Unit {0}) RuleFault → Type 0
Refuses (Some refusal) result = result ≡ Err refusal
Refuses None result = OnErr result (result ≡ Err OutOfMemory)
