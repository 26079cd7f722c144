-- A policy that takes a rule, or does not, as a decision.
use Rattle.std.proofs.Common.{◌≡◌, Bool, true, false, List, [], refl, sym, ap, ◌∙◌, subst, Some, None, Result, Ok, Err}
use Rattle.std.specs.Prelude.{if◌then◌else◌, ℕ, ◌<◌, length, position, get_or, slice_get}
use Rattle.std.specs.Str.{bytes_eq}
use Rattle.std.proofs.lemmas.Option.{slice_get-get_or}
use Rattle.sm_base.specs.declared.numbers.PolicyKind.TheVariants.{AsyncMirror}
use Rattle.sm_base.specs.declared.refusal.Refusal.{Refusal}
use Rattle.sm_base.specs.declared.refusal.Refusal.TheVariants as refusals
use Rattle.sm_defs.specs.Relationship.{Policy, Rule}
use Rattle.sm_defs.specs.Rules.{new_policy, is_wrong_rule, is_bad_keep, is_ruled, are_rules_full, with_rule}
use Rattle.sm_defs.specs.Words.{Found, found}
use Rattle.sm_defs.proofs.Searches.{found_by_position, none_by_position}
use Rattle.sm_model.specs.Answers.{and_then, refused_if, some_or}
use Rattle.sm_policy.specs.declared.adding.RuleFault.{RuleFault}
use Rattle.sm_policy.specs.declared.adding.RuleFault.TheVariants as faults
use Rattle.sm_policy.specs.Added.{rule_refusal, Refuses}
use Rattle.sm_catroot.specs.Catalog.{Catalog}
use Rattle.sm_seats.proofs.Lists.{one_value}
use Rattle.sm_events.specs.Ruling.{with_policy, rule_added_to, rule_added}

-- what the policy answers is what is decided
abbrev pub IsTurned : Result (Unit {0}) RuleFault → Result Catalog Refusal → Catalog → Type 0
IsTurned (Ok done) decided next = decided ≡ Ok next
IsTurned (Err faults.WrongRule) decided next = decided ≡ Err refusals.WrongRule
IsTurned (Err faults.BadKeep) decided next = decided ≡ Err refusals.BadKeep
IsTurned (Err faults.RuleTaken) decided next = decided ≡ Err refusals.RuleTaken
IsTurned (Err faults.RulesFull) decided next = decided ≡ Err refusals.RulesFull
IsTurned (Err faults.NoMemory) decided next = Unit {0}

by_tests : (a b c d : Bool) (next : Catalog) (r : Result (Unit {0}) RuleFault)
    → Refuses (if a then Some faults.WrongRule else if b then Some faults.BadKeep else if c then Some faults.RuleTaken else if d then Some faults.RulesFull else None) r
    → IsTurned r (and_then (refused_if a refusals.WrongRule) (λ _. and_then (refused_if b refusals.BadKeep) (λ _. and_then (refused_if c refusals.RuleTaken) (λ _. and_then (refused_if d refusals.RulesFull) (λ _. Ok next))))) next
unfolding and_then refused_if
by_tests true b c d next r is = subst (λ (x : Result (Unit {0}) RuleFault). IsTurned x (Err refusals.WrongRule) next) (sym is) refl
by_tests false true c d next r is = subst (λ (x : Result (Unit {0}) RuleFault). IsTurned x (Err refusals.BadKeep) next) (sym is) refl
by_tests false false true d next r is = subst (λ (x : Result (Unit {0}) RuleFault). IsTurned x (Err refusals.RuleTaken) next) (sym is) refl
by_tests false false false true next r is = subst (λ (x : Result (Unit {0}) RuleFault). IsTurned x (Err refusals.RulesFull) next) (sym is) refl
by_tests false false false false next (Ok done) is = refl
by_tests false false false false next (Err faults.NoMemory) is = tt
by_tests false false false false next (Err faults.WrongRule) is = absurd (cc)
by_tests false false false false next (Err faults.BadKeep) is = absurd (cc)
by_tests false false false false next (Err faults.RuleTaken) is = absurd (cc)
by_tests false false false false next (Err faults.RulesFull) is = absurd (cc)

turned : (k : Catalog) (p : Found Policy) (rule : Rule) (r : Result (Unit {0}) RuleFault) → Refuses (rule_refusal p.item rule.label rule.keep rule.preserve) r
    → IsTurned r (rule_added_to k p rule) (with_policy k p.at (with_rule p.item rule))
turned k p rule r is =
    by_tests (is_wrong_rule p.item.kind rule.label rule.preserve) (is_bad_keep p.item.kind rule.keep) (is_ruled p.item rule.label) (are_rules_full p.item) (with_policy k p.at (with_rule p.item rule)) r is

-- in an equal catalogue
pub turned_in : (k copy : Catalog) → copy ≡ k → (at : ℕ) (old : Policy) (rule : Rule) → slice_get copy.policies at ≡ Some old → (r : Result (Unit {0}) RuleFault) → Refuses (rule_refusal old rule.label rule.keep rule.preserve) r
    → (x : Result (Unit {0}) RuleFault) → r ≡ x → (p : Policy) → slice_get k.policies at ≡ Some p → IsTurned x (rule_added_to k (record { at = at; item = p }) rule) (with_policy copy at (with_rule old rule))
turned_in k copy same at old rule here r refuses x is p there =
    let p_is : old ≡ p = one_value (slice_get k.policies at) old p (ap (λ (j : Catalog). slice_get j.policies at) (sym same) ∙ here) there in
    subst (λ (q : Policy). IsTurned x (rule_added_to k (record { at = at; item = q }) rule) (with_policy copy at (with_rule old rule))) p_is
    (subst (λ (j : Catalog). IsTurned x (rule_added_to k (record { at = at; item = old }) rule) (with_policy j at (with_rule old rule))) (sym same)
    (subst (λ (y : Result (Unit {0}) RuleFault). IsTurned y (rule_added_to k (record { at = at; item = old }) rule) (with_policy k at (with_rule old rule))) is
    (turned k (record { at = at; item = old }) rule r refuses)))

-- ---- the policy of a name

module _ (k : Catalog) (name : List ℕ) (rule : Rule) where
  pub none_named : position (λ (p : Policy). bytes_eq p.name name) k.policies ≡ None → rule_added k name rule ≡ Err (refusals.NoPolicy name)
  unfolding and_then some_or
  none_named none = rw (none_by_position (λ (p : Policy). bytes_eq p.name name) k.policies none) refl

  no_policy : Policy
  no_policy = new_policy [] AsyncMirror

  module _ (at : ℕ) (is : position (λ (p : Policy). bytes_eq p.name name) k.policies ≡ Some at) where
    at_place : (found (λ (p : Policy). bytes_eq p.name name) k.policies ≡ Some (record { at = at; item = get_or k.policies at no_policy })) × (at < length k.policies)
    at_place = found_by_position (λ (p : Policy). bytes_eq p.name name) k.policies at no_policy is

    pub within : at < length k.policies
    within = at_place.1

    pub named : (x : Result Catalog Refusal) → ((p : Policy) → slice_get k.policies at ≡ Some p → x ≡ rule_added_to k (record { at = at; item = p }) rule) → x ≡ rule_added k name rule
    unfolding and_then some_or
    named x each = rw at_place.0 (each (get_or k.policies at no_policy) (slice_get-get_or k.policies at no_policy within))
