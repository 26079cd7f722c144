-- The form of a world of maps.
use Rattle.std.specs.Prelude.{◌≡◌, ℕ, ◌≤◌, ◌<◌, ◌^◌, true, false, List, [], ◌∷◌, ◌++◌, length, take, Some, None}
use Rattle.std.specs.List.{All}
use Rattle.sm_base.specs.Name.{is_path, is_part}
use Rattle.sm_base.specs.declared.numbers.PolicyKind.{PolicyKind}
use Rattle.sm_base.specs.declared.numbers.PolicyKind.TheVariants.{AsyncMirror, Vault}
use Rattle.sm_base.specs.declared.numbers.Ident.{Ident}
use Rattle.sm_base.specs.declared.limits.TheConstants.{MOST_VOLUMES, MOST_POLICIES, MOST_RELATIONS, MOST_SNAPSHOTS, MOST_RULES, MOST_LOGICAL, MOST_PHYSICAL, LAST_NUMBER, LAST_RELATION, LAST_SECOND}
use Rattle.sm_defs.specs.Legs.{made_ident}
use Rattle.sm_defs.specs.Relationship.{Rule, Policy, Relationship, Transfer, rule_for}
use Rattle.sm_defs.specs.Rules.{first_rules, is_wrong_rule, is_bad_keep}
use Rattle.sm_model.specs.Formed.{FormedSnapshot, FormedRule, FormedTransfer, FormedRelation}
use Rattle.sm_model.specs.declared.world.WorldVolume.{WorldVolume}
use Rattle.sm_model.specs.declared.world.WorldSnapshot.{WorldSnapshot}
use Rattle.sm_shape.specs.Blank.{blank_snapshot}
use Rattle.sm_shape.specs.Behind.{EachPlace}

pub record SnapshotForm (logical : ℕ) (s : WorldSnapshot) : Type 0 where
  pub formed : FormedSnapshot (blank_snapshot s)
  pub long : length s.map.items ≡ logical

pub record SizesForm (logical physical : ℕ) : Type 0 where
  pub some_blocks : 1 ≤ logical
  pub few_blocks : logical ≤ MOST_LOGICAL
  pub room : logical ≤ physical
  pub few_places : physical ≤ MOST_PHYSICAL

pub record VolumeForm (v : WorldVolume) : Type 0 where
  pub path : is_path v.path ≡ true
  pub disk : v.disk.0 < 2 ^ 32
  pub sizes : SizesForm v.logical v.physical
  pub active : length v.active.items ≡ v.logical
  pub stable : length v.stable.items ≡ v.logical
  pub few : length v.snapshots.items ≤ MOST_SNAPSHOTS
  pub counts : 1 ≤ v.next
  pub counted : v.next ≤ LAST_NUMBER
  pub snapshots : All (SnapshotForm v.logical) v.snapshots.items

-- the volume has another path and another disk
pub record IsOther (v u : WorldVolume) : Type 0 where
  pub path : ¬ (v.path ≡ u.path)
  pub disk : ¬ (v.disk.0 ≡ u.disk.0)

pub record VolumeFitsBehind (before : List WorldVolume) (v : WorldVolume) : Type 0 where
  pub form : VolumeForm v
  pub others : All (IsOther v) before

-- the rule may be added behind these
pub record RuleAdded (kind : PolicyKind) (before : List Rule) (r : Rule) : Type 0 where
  pub right : is_wrong_rule kind r.label r.preserve ≡ false
  pub keep : is_bad_keep kind r.keep ≡ false
  pub new : rule_for before (Some r.label) ≡ None

-- each rule from a place on
abbrev pub AddedAt : PolicyKind → ℕ → ℕ → List Rule → Rule → Type 0
AddedAt kind from place before r = from ≤ place → RuleAdded kind before r

abbrev pub AddedFrom : PolicyKind → ℕ → List Rule → Type 0
AddedFrom kind from rules = EachPlace (λ k r. AddedAt kind from k (take k rules) r) rules

abbrev pub BeginsWith : List Rule → List Rule → Type 0
BeginsWith [] first = ⊥
BeginsWith (r ∷ rs) first = first ≡ r ∷ []

-- a mirror's first rule comes with it
abbrev pub RulesForm : PolicyKind → List Rule → Type 0
RulesForm Vault rules = AddedFrom Vault 0 rules
RulesForm AsyncMirror rules = BeginsWith rules (first_rules AsyncMirror) × AddedFrom AsyncMirror 1 rules

pub record PolicyForm (p : Policy) : Type 0 where
  pub name : is_part p.name ≡ true
  pub few : length p.rules ≤ MOST_RULES
  pub rules : All FormedRule p.rules
  pub added : RulesForm p.kind p.rules

abbrev pub IsOtherPolicy : Policy → Policy → Type 0
IsOtherPolicy p q = ¬ (p.name ≡ q.name)

pub record PolicyFitsBehind (before : List Policy) (p : Policy) : Type 0 where
  pub form : PolicyForm p
  pub others : All (IsOtherPolicy p) before

abbrev pub IsBefore : Relationship → Relationship → Type 0
IsBefore r q = q.number < r.number

pub record RelationFitsBehind (before : List Relationship) (r : Relationship) : Type 0 where
  pub form : FormedRelation r
  pub others : All (IsBefore r) before

abbrev pub EndsWithMade : ℕ → ℕ → List Ident → Type 0
EndsWithMade source number legs = (earlier : List Ident) × (legs ≡ earlier ++ made_ident source number ∷ [])

abbrev pub OwnTransferForms : Relationship → Type 0
OwnTransferForms r = (t : Transfer) → r.transfer ≡ Some t → FormedTransfer r t

pub record CountsForm (volumes policies relations : ℕ) : Type 0 where
  pub few_volumes : volumes ≤ MOST_VOLUMES
  pub few_policies : policies ≤ MOST_POLICIES
  pub few_relations : relations ≤ MOST_RELATIONS

pub record CountersForm (next_relation next_transfer clock : ℕ) : Type 0 where
  pub relations : 1 ≤ next_relation
  pub relations_left : next_relation ≤ LAST_RELATION
  pub transfers : 1 ≤ next_transfer
  pub transfers_left : next_transfer ≤ LAST_NUMBER
  pub clock_runs : clock ≤ LAST_SECOND
