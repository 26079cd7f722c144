-- What events on policies make of a catalogue.
use Rattle.std.specs.Prelude.{ℕ, ◌==◌, List, [], ◌∷◌, ◌++◌, length, slice_set, Result, Ok}
use Rattle.std.specs.List.{list_any}
use Rattle.std.specs.Str.{bytes_eq}
use Rattle.sm_base.specs.declared.numbers.PolicyKind.{PolicyKind}
use Rattle.sm_base.specs.declared.limits.TheConstants.{MOST_POLICIES}
use Rattle.sm_base.specs.declared.refusal.What.TheVariants.{Policies}
use Rattle.sm_base.specs.declared.refusal.Refusal.{Refusal}
use Rattle.sm_base.specs.declared.refusal.Refusal.TheVariants as refusals
use Rattle.sm_defs.specs.Relationship.{Policy, Rule}
use Rattle.sm_defs.specs.Rules.{new_policy, is_wrong_rule, is_bad_keep, is_ruled, are_rules_full, with_rule}
use Rattle.sm_defs.specs.Words.{Found, found}
use Rattle.sm_model.specs.Answers.{◌>>=◌, ◌>>◌, ◌when◌, some_or}
use Rattle.sm_catroot.specs.Catalog.{Catalog}

-- with a further policy
abbrev pub with_new_policy : Catalog → Policy → Catalog
with_new_policy k p = record k { policies = k.policies ++ p ∷ [] }

abbrev pub policy_created : Catalog → List ℕ → PolicyKind → Result Catalog Refusal
policy_created k name kind = do
  refusals.NameTaken when list_any (λ p. bytes_eq p.name name) k.policies
  refusals.Full Policies when length k.policies == MOST_POLICIES
  Ok (with_new_policy k (new_policy name kind))

-- the policy at a place is changed, and nothing else
abbrev pub with_policy : Catalog → ℕ → Policy → Catalog
with_policy k at p = record k { policies = slice_set k.policies at p }

-- the policy that was found gets the rule
abbrev pub rule_added_to : Catalog → Found Policy → Rule → Result Catalog Refusal
rule_added_to k p rule = do
  refusals.WrongRule when is_wrong_rule p.item.kind rule.label rule.preserve
  refusals.BadKeep when is_bad_keep p.item.kind rule.keep
  refusals.RuleTaken when is_ruled p.item rule.label
  refusals.RulesFull when are_rules_full p.item
  Ok (with_policy k p.at (with_rule p.item rule))

abbrev pub rule_added : Catalog → List ℕ → Rule → Result Catalog Refusal
rule_added k name rule = do
  p ← some_or (refusals.NoPolicy name) (found (λ p. bytes_eq p.name name) k.policies)
  rule_added_to k p rule
