-- Legs of a vault, by the rules of its policy.
use Rattle.std.specs.Prelude.{◌≡◌, true, false, List, Some, is_some}
use Rattle.std.specs.List.{All}
use Rattle.sm_base.specs.declared.numbers.Ident.{Ident}
use Rattle.sm_defs.specs.Words.{has_ident}
use Rattle.sm_defs.specs.Relationship.{Relationship, Transfer, Rule, rule_for, is_mirror}
use Rattle.sm_defs.specs.World.{Up, policy_at}
use Rattle.sm_model.specs.LegsKept.{LegsHaveClasses}
use Rattle.sm_model.specs.declared.world.WorldSnapshot.{WorldSnapshot}

-- where the snapshot is a leg, its label has a rule
abbrev pub LegHasRule : List Ident → List Rule → WorldSnapshot → Type 0
LegHasRule legs rules s = has_ident legs s.ident ≡ true → is_some (rule_for rules s.label) ≡ true

abbrev pub VaultFits : Transfer → List Rule → List WorldSnapshot → Type 0
VaultFits t rules ss = (t.reserved ≡ false) × All (LegHasRule t.legs rules) ss

abbrev pub OwnLegsFit : Relationship → List Rule → List WorldSnapshot → Type 0
OwnLegsFit r rules ss = (t : Transfer) → r.transfer ≡ Some t → VaultFits t rules ss

abbrev pub KeepsLegs : Up → Relationship → Type 0
KeepsLegs w r = (t : Transfer) → r.transfer ≡ Some t → is_mirror (policy_at w r.policy).kind ≡ false → LegsHaveClasses w r t
