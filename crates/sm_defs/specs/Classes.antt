-- The class of a snapshot under a policy, if it has one. What a transfer sends and what is kept are told by it.
use Rattle.std.specs.Prelude.{ℕ, ◌==◌, cond, if◌then◌else◌, Bool, List, codes, map, Option, Some, None, is_some}
use Rattle.sm_base.specs.declared.numbers.PolicyKind.{PolicyKind}
use Rattle.sm_base.specs.declared.numbers.PolicyKind.TheVariants.{AsyncMirror, Vault}
use Rattle.sm_defs.specs.Volume.{Snapshot}
use Rattle.sm_defs.specs.Relationship.{Rule, Policy, rule_for}

-- a label that has a rule
abbrev pub ruled : List Rule → Option (List ℕ) → Option (List ℕ)
ruled rules label = cond (is_some (rule_for rules label)) label None

-- of a vault its label where that has a rule; of a mirror each snapshot has one, by who made it
abbrev pub class_by : PolicyKind → List Rule → Option (List ℕ) → ℕ → Option (List ℕ)
class_by Vault rules label maker = ruled rules label
class_by AsyncMirror rules label maker = Some (if maker == 0 then codes "all_source_snapshots" else codes "sm_created")

abbrev pub class_of : Policy → Snapshot → Option (List ℕ)
class_of p s = class_by p.kind p.rules s.label s.maker

abbrev pub has_class : Policy → Snapshot → Bool
has_class p s = is_some (class_of p s)

-- the classes of a list, each told by the function
abbrev pub classes : (Snapshot → Option (List ℕ)) → List Snapshot → List (Option (List ℕ))
classes class ss = map class ss
