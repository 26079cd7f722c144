-- Policies, relationships and transfers.
use Rattle.std.specs.Prelude.{ℕ, Bool, true, false, List, [], codes, Option, Some, None, is_some}
use Rattle.std.specs.List.{find}
use Rattle.std.specs.Str.{bytes_eq}
use Rattle.sm_base.specs.declared.numbers.Ident.{Ident}
use Rattle.sm_base.specs.declared.refusal.Reason.{Reason}
use Rattle.sm_base.specs.declared.numbers.PolicyKind.{PolicyKind}
use Rattle.sm_base.specs.declared.numbers.PolicyKind.TheVariants.{AsyncMirror, Vault}
use Rattle.sm_base.specs.declared.numbers.TransferKind.{TransferKind}
use Rattle.sm_base.specs.declared.numbers.TransferKind.TheVariants.{Resync}

pub record Rule : Type 0 where
  pub label : List ℕ
  pub keep : ℕ
  pub preserve : Bool

pub record Policy : Type 0 where
  pub name : List ℕ
  pub kind : PolicyKind
  pub rules : List Rule

-- it runs where there is no reason; landed and pruned speak of a running one
pub record Transfer : Type 0 where
  pub number : ℕ
  pub kind : TransferKind
  pub reserved : Bool
  pub checkpoint : ℕ
  pub legs : List Ident
  pub stopped : Option Reason
  pub landed : List ℕ
  pub pruned : Bool

-- source and destination are places of volumes, the policy a place of a policy
pub record Relationship : Type 0 where
  pub number : ℕ
  pub source : ℕ
  pub destination : ℕ
  pub policy : ℕ
  pub source_half : Bool
  pub destination_half : Bool
  pub quiesced : Bool
  pub base : Option Ident
  pub transfer : Option Transfer

abbrev pub is_mirror : PolicyKind → Bool
is_mirror AsyncMirror = true
is_mirror Vault = false

abbrev pub is_resync : TransferKind → Bool
is_resync Resync = true
is_resync _ = false

abbrev pub rule_for : List Rule → Option (List ℕ) → Option Rule
rule_for rules None = None
rule_for rules (Some label) = find (λ r. bytes_eq r.label label) rules

-- the rule label of mirrors that send all snapshots
abbrev pub sends_all : Policy → Bool
sends_all p = is_some (rule_for p.rules (Some (codes "all_source_snapshots")))

abbrev pub legs_of : Option Transfer → List Ident
legs_of None = []
legs_of (Some t) = t.legs
