-- What is decided is what the definitions answer.
use Rattle.std.proofs.Common.{◌≡◌, ℕ, ◌==◌, Bool, true, false, List, length, refl, Option, Some, None, Ok}
use Rattle.std.specs.List.{list_any}
use Rattle.std.specs.Str.{bytes_eq}
use Rattle.sm_base.specs.declared.limits.TheConstants.{MOST_POLICIES}
use Rattle.sm_base.specs.declared.numbers.PolicyKind.{PolicyKind}
use Rattle.sm_base.specs.declared.refusal.What.TheVariants.{Policies}
use Rattle.sm_base.specs.declared.refusal.Refusal.TheVariants as refusals
use Rattle.sm_defs.specs.Relationship.{Policy, Rule}
use Rattle.sm_defs.specs.Rules.{new_policy, is_wrong_rule, is_bad_keep, is_ruled, are_rules_full, with_rule}
use Rattle.sm_defs.specs.Words.{Found, found}
use Rattle.sm_model.specs.declared.reply.Reply.TheVariants as replies
use Rattle.sm_model.specs.Answers.{Answer, told, and_then, refused_if, some_or}
use Rattle.sm_model.specs.OfPolicies as answers
use Rattle.sm_catroot.specs.Catalog.{Catalog}
use Rattle.sm_node.specs.Nodes.{Node, world_with, world_of}
use Rattle.sm_events.specs.Deciding.{answer_by}
use Rattle.sm_events.specs.Ruling.{with_new_policy, policy_created, with_policy, rule_added_to, rule_added}

module _ {D : Type 0} (n : Node D) where
  abbrev done : Catalog → Answer
  done next = Ok (record { reply = told replies.Done; world = world_with next n.seats n.lengths })

  created_by : (a b : Bool) (next : Catalog) → and_then (refused_if a refusals.NameTaken) (λ _. and_then (refused_if b (refusals.Full Policies)) (λ _. done next))
      ≡ answer_by n replies.Done (and_then (refused_if a refusals.NameTaken) (λ _. and_then (refused_if b (refusals.Full Policies)) (λ _. Ok next)))
  unfolding and_then refused_if
  created_by true b next = refl
  created_by false true next = refl
  created_by false false next = refl

  pub created_answers : (name : List ℕ) (kind : PolicyKind) → answers.create_policy (world_of n) name kind ≡ answer_by n replies.Done (policy_created n.root.held name kind)
  created_answers name kind =
      created_by (list_any (λ (p : Policy). bytes_eq p.name name) n.root.held.policies) (length n.root.held.policies == MOST_POLICIES) (with_new_policy n.root.held (new_policy name kind))

  added_by : (a b c d : Bool) (next : Catalog) →
      and_then (refused_if a refusals.WrongRule) (λ _. and_then (refused_if b refusals.BadKeep) (λ _. and_then (refused_if c refusals.RuleTaken) (λ _. and_then (refused_if d refusals.RulesFull) (λ _. done next))))
      ≡ answer_by n replies.Done (and_then (refused_if a refusals.WrongRule) (λ _. and_then (refused_if b refusals.BadKeep) (λ _. and_then (refused_if c refusals.RuleTaken) (λ _. and_then (refused_if d refusals.RulesFull) (λ _. Ok next)))))
  unfolding and_then refused_if
  added_by true b c d next = refl
  added_by false true c d next = refl
  added_by false false true d next = refl
  added_by false false false true next = refl
  added_by false false false false next = refl

  found_by : (name : List ℕ) (o : Option (Found Policy)) (rule : Rule) →
      and_then (some_or (refusals.NoPolicy name) o) (λ p. and_then (refused_if (is_wrong_rule p.item.kind rule.label rule.preserve) refusals.WrongRule) (λ _. and_then (refused_if (is_bad_keep p.item.kind rule.keep) refusals.BadKeep) (λ _.
      and_then (refused_if (is_ruled p.item rule.label) refusals.RuleTaken) (λ _. and_then (refused_if (are_rules_full p.item) refusals.RulesFull) (λ _. done (with_policy n.root.held p.at (with_rule p.item rule)))))))
      ≡ answer_by n replies.Done (and_then (some_or (refusals.NoPolicy name) o) (λ p. rule_added_to n.root.held p rule))
  unfolding and_then some_or
  found_by name None rule = refl
  found_by name (Some p) rule =
      added_by (is_wrong_rule p.item.kind rule.label rule.preserve) (is_bad_keep p.item.kind rule.keep) (is_ruled p.item rule.label) (are_rules_full p.item) (with_policy n.root.held p.at (with_rule p.item rule))

  pub rule_answers : (name label : List ℕ) (keep : ℕ) (preserve : Bool)
      → answers.add_rule (world_of n) name label keep preserve ≡ answer_by n replies.Done (rule_added n.root.held name (record { label = label; keep = keep; preserve = preserve }))
  rule_answers name label keep preserve =
      found_by name (found (λ (p : Policy). bytes_eq p.name name) n.root.held.policies) (record { label = label; keep = keep; preserve = preserve })
