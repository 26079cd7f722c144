-- What is a catalogue: the values that have a spelling.
use Rattle.std.specs.Prelude.{◌≡◌, ◌⊎◌, ℕ, ◌^◌, ◌<◌, ◌≤◌, Bool, true, false, List, [], ◌∷◌, length, map, Option, None, Some, IfSome}
use Rattle.sm_base.specs.Name.{is_part, is_label, is_path}
use Rattle.sm_base.specs.declared.numbers.Ident.{Ident}
use Rattle.sm_base.specs.declared.refusal.Reason.TheVariants.{Restart}
use Rattle.sm_base.specs.declared.limits.TheConstants.{LAST_SECOND, LAST_NUMBER, MOST_VOLUMES, MOST_POLICIES, MOST_RULES, MOST_RELATIONS}
use Rattle.sm_defs.specs.Relationship.{Policy, Rule}
use Rattle.sm_defs.specs.Rules.{new_policy}
use Rattle.sm_defs.specs.Words.{Among, KeysDiffer, Ascends}
use Rattle.sm_fields.specs.Grammar.{IsIdentity, AllInTurn}
use Rattle.sm_policy.specs.Added.{rule_refusal}
use Rattle.sm_relation.specs.declared.relation.Relation.{Relation}
use Rattle.sm_relation.specs.declared.relation.Standing.{Standing}
use Rattle.sm_catroot.specs.declared.placed.Placed.{Placed}
use Rattle.sm_catroot.specs.declared.TheConstants.{MOST_LEGS}
use Rattle.sm_catroot.specs.Catalog.{Catalog}
use Rattle.sm_catroot.specs.Layout.{reserved_leg, with_rules}

-- ---- volumes

abbrev pub path_of : Placed → List ℕ
path_of v = v.path

pub record IsPlaced (v : Placed) : Type 0 where
  pub path : is_path v.path ≡ true
  pub disk : v.disk.0 < 2 ^ 32

-- ---- policies

abbrev pub name_of : Policy → List ℕ
name_of p = p.name

abbrev pub HasFewRules : Policy → Type 0
HasFewRules p = length p.rules ≤ MOST_RULES

-- a rule that is not refused behind these that a policy was given
pub record IsAdded (p : Policy) (before : List Rule) (r : Rule) : Type 0 where
  pub label : is_label r.label ≡ true
  pub taken : rule_refusal (with_rules p before) r.label r.keep r.preserve ≡ None

-- a new policy, to which these rules were then added, one after the other
pub record IsMade (p : Policy) : Type 0 where
  pub name : is_part p.name ≡ true
  pub rules : List Rule
  pub is : p ≡ with_rules (new_policy p.name p.kind) rules
  pub added : AllInTurn (IsAdded (new_policy p.name p.kind)) [] rules
  pub few : HasFewRules p

-- ---- relationships

-- the last of the list is this
abbrev pub EndsIn : List Ident → Ident → Type 0
EndsIn [] i = ⊥
EndsIn (j ∷ []) i = j ≡ i
EndsIn (j ∷ k ∷ is) i = EndsIn (k ∷ is) i

abbrev pub HasFewLegs : Standing → Type 0
HasFewLegs t = length t.legs ≤ MOST_LEGS

abbrev pub Reserves : Bool → List Ident → Ident → Type 0
Reserves false legs i = Unit {0}
Reserves true legs i = EndsIn legs i

-- a transfer from this volume, whether it runs or not
pub record IsTransfer (source : ℕ) (t : Standing) : Type 0 where
  pub number : t.number < 2 ^ 64
  pub checkpoint : t.checkpoint < 2 ^ 32
  pub few : HasFewLegs t
  pub legs : (i : Ident) → Among t.legs i → IsIdentity i
  pub reserved : Reserves t.reserved t.legs (reserved_leg source t.number)

abbrev pub number_of : Relation → ℕ
number_of r = r.number.0

pub record IsRelation (r : Relation) : Type 0 where
  pub number : (1 ≤ r.number.0) × (r.number.0 < 2 ^ 32)
  pub source : r.source.0 < 2 ^ 32
  pub destination : r.destination.0 < 2 ^ 32
  pub policy : r.policy < 2 ^ 32
  pub halves : (r.source_half ≡ true) ⊎ (r.destination_half ≡ true)
  pub base : IfSome r.base IsIdentity
  pub transfer : IfSome r.transfer (IsTransfer r.source.0)

-- ---- the whole

pub record IsCatalog (k : Catalog) : Type 0 where
  pub clock : k.clock ≤ LAST_SECOND
  pub next_relation : (1 ≤ k.next_relation) × (k.next_relation < 2 ^ 32)
  pub next_transfer : (1 ≤ k.next_transfer) × (k.next_transfer ≤ LAST_NUMBER)
  pub few_volumes : length k.volumes ≤ MOST_VOLUMES
  pub volumes : (v : Placed) → Among k.volumes v → IsPlaced v
  pub paths_differ : KeysDiffer path_of k.volumes
  pub few_policies : length k.policies ≤ MOST_POLICIES
  pub policies : (p : Policy) → Among k.policies p → IsMade p
  pub names_differ : KeysDiffer name_of k.policies
  pub few_relations : length k.relations ≤ MOST_RELATIONS
  pub relations : (r : Relation) → Among k.relations r → IsRelation r
  pub ascends : Ascends (map number_of k.relations)

-- ---- what is read again: no transfer runs

abbrev pub stopped : Standing → Standing
stopped t = record t { stopped = Some Restart }

abbrev pub transfer_again : Option Standing → Option Standing
transfer_again None = None
transfer_again (Some t) = Some (stopped t)

abbrev pub relation_again : Relation → Relation
relation_again r = record r { transfer = transfer_again r.transfer }

abbrev pub again : Catalog → Catalog
again k = record k { relations = map relation_again k.relations }
