-- The rules of a policy, and the tests of one that is to come.
use Rattle.std.specs.Prelude.{ℕ, ◌==◌, ◌||◌, not, nat_lt, Bool, false, List, [], ◌∷◌, ◌++◌, length, codes, Some, is_some}
use Rattle.std.specs.Str.{bytes_eq}
use Rattle.sm_base.specs.declared.numbers.PolicyKind.{PolicyKind}
use Rattle.sm_base.specs.declared.numbers.PolicyKind.TheVariants.{AsyncMirror, Vault}
use Rattle.sm_base.specs.declared.limits.TheConstants.{MOST_RULES, MOST_KEPT}
use Rattle.sm_defs.specs.Relationship.{Policy, Rule, rule_for}

-- a mirror begins with the rule for the snapshots that its transfers make
abbrev pub first_rules : PolicyKind → List Rule
first_rules AsyncMirror = record { label = codes "sm_created"; keep = 1; preserve = false } ∷ []
first_rules Vault = []

abbrev pub new_policy : List ℕ → PolicyKind → Policy
new_policy name kind = record { name = name; kind = kind; rules = first_rules kind }

-- a label of mirrors
abbrev pub is_mirror_label : List ℕ → Bool
is_mirror_label label = bytes_eq label (codes "sm_created") || bytes_eq label (codes "all_source_snapshots")

-- a mirror has these labels alone and keeps none for good; a vault has none of them
abbrev pub is_wrong_rule : PolicyKind → List ℕ → Bool → Bool
is_wrong_rule AsyncMirror label preserve = not (is_mirror_label label) || preserve
is_wrong_rule Vault label preserve = is_mirror_label label

abbrev pub is_bad_keep : PolicyKind → ℕ → Bool
is_bad_keep AsyncMirror keep = not (keep == 1)
is_bad_keep Vault keep = (keep == 0) || nat_lt MOST_KEPT keep

-- the label has a rule already
abbrev pub is_ruled : Policy → List ℕ → Bool
is_ruled p label = is_some (rule_for p.rules (Some label))

-- there is no room for a rule
abbrev pub are_rules_full : Policy → Bool
are_rules_full p = length p.rules == MOST_RULES

abbrev pub with_rule : Policy → Rule → Policy
with_rule p rule = record p { rules = p.rules ++ rule ∷ [] }
