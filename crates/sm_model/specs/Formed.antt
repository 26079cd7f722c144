-- The shape that a world has by the grammar of its records.
use Rattle.std.specs.Prelude.{◌≡◌, ◌≢◌, ℕ, suc, ◌≤◌, ◌<◌, ◌^◌, true, false, List, [], ◌∷◌, ◌++◌, length, Some, None}
use Rattle.std.specs.List.{AllByRecursion}
use Rattle.sm_base.specs.Name.{is_part, is_path, is_label, is_snapshot_name}
use Rattle.sm_base.specs.declared.numbers.Ident.{Ident}
use Rattle.sm_base.specs.declared.numbers.PolicyKind.{PolicyKind}
use Rattle.sm_base.specs.declared.limits.TheConstants.{MOST_VOLUMES, MOST_POLICIES, MOST_RELATIONS, MOST_SNAPSHOTS, MOST_RULES, MOST_KEPT, MOST_LOGICAL, MOST_PHYSICAL, LAST_NUMBER, LAST_RELATION, LAST_SECOND}
use Rattle.sm_defs.specs.Words.{Among, KeysDiffer}
use Rattle.sm_defs.specs.Image.{Block, Image, hole}
use Rattle.sm_defs.specs.Volume.{Volume, Snapshot, images_of, numbers}
use Rattle.sm_defs.specs.Relationship.{Rule, Policy, Relationship, Transfer, rule_for}
use Rattle.sm_defs.specs.Rules.{first_rules, is_wrong_rule, is_bad_keep}
use Rattle.sm_defs.specs.Legs.{made_ident}
use Rattle.sm_defs.specs.World.{Up}
use Rattle.sm_model.specs.InRange.{IsLabel}
use Rattle.sm_model.specs.OfRelations.{has_a_half}
use Rattle.sm_model.specs.Standing.{Stored, EachVolume, EachRelation}

pub record FormedSnapshot (s : Snapshot) : Type 0 where
  pub name : is_snapshot_name s.name ≡ true
  pub label : IsLabel s.label
  pub time : s.time < 2 ^ 64

pub record FormedVolume (v : Volume) : Type 0 where
  pub path : is_path v.path ≡ true
  pub disk : v.disk < 2 ^ 32
  pub long : (image : Image) → Among (images_of v) image → length image ≡ v.logical
  pub whole : (p : ℕ) (b : Block) → Stored v p b → length b.bytes ≡ 4096
  pub bytes : (p : ℕ) (b : Block) → Stored v p b → (byte : ℕ) → Among b.bytes byte → byte ≤ 255
  pub holes : (p : ℕ) (b : Block) → Stored v p b → b.tag ≡ 0 → b ≡ hole
  pub some_blocks : 1 ≤ v.logical
  pub few_blocks : v.logical ≤ MOST_LOGICAL
  pub room : v.logical ≤ v.physical
  pub few_places : v.physical ≤ MOST_PHYSICAL
  pub few : length v.snapshots ≤ MOST_SNAPSHOTS
  pub counted : (1 ≤ v.next) × (v.next ≤ LAST_NUMBER)
  pub snapshots : (s : Snapshot) → Among v.snapshots s → FormedSnapshot s

abbrev pub path_of : Volume → List ℕ
path_of v = v.path

abbrev pub disk_of : Volume → ℕ
disk_of v = v.disk

pub record FormedRule (r : Rule) : Type 0 where
  pub label : is_label r.label ≡ true
  pub some_kept : 1 ≤ r.keep
  pub few_kept : r.keep ≤ MOST_KEPT

-- its rules are as they come: a mirror's first is that for made snapshots, and each was added to those before it
abbrev pub AreAdded : PolicyKind → List Rule → List Rule → Type 0
AreAdded kind before [] = Unit {0}
AreAdded kind before (r ∷ rs) =
    (is_wrong_rule kind r.label r.preserve ≡ false) × (is_bad_keep kind r.keep ≡ false) × (rule_for before (Some r.label) ≡ None) × AreAdded kind (before ++ r ∷ []) rs

pub record FormedPolicy (p : Policy) : Type 0 where
  pub name : is_part p.name ≡ true
  pub added : (more : List Rule) × (p.rules ≡ first_rules p.kind ++ more) × AreAdded p.kind (first_rules p.kind) more
  pub rules : (r : Rule) → Among p.rules r → FormedRule r
  pub few : length p.rules ≤ MOST_RULES

-- an interrupted transfer has landed what its checkpoint says; a reserved leg is the last
pub record FormedTransfer (r : Relationship) (t : Transfer) : Type 0 where
  pub unpruned : t.stopped ≢ None → t.pruned ≡ false
  pub landed : t.stopped ≢ None → t.landed ≡ numbers 0 t.checkpoint
  pub reserved : t.reserved ≡ true → (earlier : List Ident) × (t.legs ≡ earlier ++ made_ident r.source t.number ∷ [])
  pub few : length t.legs ≤ suc MOST_SNAPSHOTS
  pub checkpoint : t.checkpoint < 2 ^ 32

pub record FormedRelation (r : Relationship) : Type 0 where
  pub half : has_a_half r ≡ true
  pub transfer : (t : Transfer) → r.transfer ≡ Some t → FormedTransfer r t

abbrev pub policy_name : Policy → List ℕ
policy_name p = p.name

-- relationships stand in the order of their numbers
abbrev pub NumbersAscend : List Relationship → Type 0
NumbersAscend [] = Unit {0}
NumbersAscend (r ∷ rs) = AllByRecursion (λ q. r.number < q.number) rs × NumbersAscend rs

pub record Formed (w : Up) : Type 0 where
  pub volumes : EachVolume FormedVolume w
  pub few : length w.volumes ≤ MOST_VOLUMES
  pub paths_differ : KeysDiffer path_of w.volumes
  pub disks_differ : KeysDiffer disk_of w.volumes
  pub policies : (p : Policy) → Among w.policies p → FormedPolicy p
  pub few_policies : length w.policies ≤ MOST_POLICIES
  pub names_differ : KeysDiffer policy_name w.policies
  pub relations : EachRelation FormedRelation w
  pub few_relations : length w.relations ≤ MOST_RELATIONS
  pub ascending : NumbersAscend w.relations
  pub relations_counted : (1 ≤ w.next_relation) × (w.next_relation ≤ LAST_RELATION)
  pub transfers_counted : (1 ≤ w.next_transfer) × (w.next_transfer ≤ LAST_NUMBER)
  pub clock : w.clock ≤ LAST_SECOND
