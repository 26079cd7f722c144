-- Relationships fit their volumes and each other.
use Rattle.std.specs.Prelude.{◌≡◌, ◌≢◌, ℕ, ◌≤◌, ◌<◌, ◌⊎◌, true, List, length, Option, Some}
use Rattle.std.specs.List.{filter, filter_map}
use Rattle.std.specs.Option.{option_map}
use Rattle.sm_base.specs.declared.numbers.Ident.{Ident}
use Rattle.sm_base.specs.declared.numbers.Kind.TheVariants.{Dp}
use Rattle.sm_defs.specs.Words.{Among, KeysDiffer}
use Rattle.sm_defs.specs.Volume.{has}
use Rattle.sm_defs.specs.Relationship.{Relationship, Transfer, is_mirror}
use Rattle.sm_defs.specs.Legs.{made_ident}
use Rattle.sm_defs.specs.World.{Up, volume_at, policy_at}
use Rattle.sm_model.specs.Standing.{EachRelation, EachTransfer}

abbrev pub IsReservedLeg : Relationship → Transfer → Ident → Type 0
IsReservedLeg r t i = (t.reserved ≡ true) × (i ≡ made_ident r.source t.number)

pub record CrossedRelation (w : Up) (r : Relationship) : Type 0 where
  pub source : r.source < length w.volumes
  pub destination : r.destination < length w.volumes
  pub policy : r.policy < length w.policies
  pub apart : r.source ≢ r.destination
  pub counts : 1 ≤ r.number
  pub given : r.number < w.next_relation
  pub halves : r.destination_half ≡ true → (volume_at w r.destination).kind ≡ Dp → r.source_half ≡ true
  pub base_at_source : (i : Ident) → r.base ≡ Some i → r.source_half ≡ true → has (volume_at w r.source).snapshots i ≡ true
  pub base_at_destination : (i : Ident) → r.base ≡ Some i → r.destination_half ≡ true → has (volume_at w r.destination).snapshots i ≡ true
  pub logical : (volume_at w r.source).logical ≡ (volume_at w r.destination).logical
  pub physical : is_mirror (policy_at w r.policy).kind ≡ true → (volume_at w r.source).physical ≡ (volume_at w r.destination).physical

pub record CrossedTransfer (w : Up) (r : Relationship) (t : Transfer) : Type 0 where
  pub at_source : r.source_half ≡ true
  pub at_destination : r.destination_half ≡ true
  pub counts : 1 ≤ t.number
  pub given : t.number < w.next_transfer
  pub legs_differ : KeysDiffer (λ (i : Ident). i) t.legs
  pub legs_at_source : (i : Ident) → Among t.legs i → (has (volume_at w r.source).snapshots i ≡ true) ⊎ IsReservedLeg r t i

abbrev pub destination_of : Relationship → ℕ
destination_of r = r.destination

abbrev pub with_destination_half : List Relationship → List Relationship
with_destination_half rs = filter (λ r. r.destination_half) rs

abbrev pub transfer_number : Relationship → Option ℕ
transfer_number r = option_map (λ (t : Transfer). t.number) r.transfer

pub record Crossed (w : Up) : Type 0 where
  pub relations : EachRelation (CrossedRelation w) w
  pub transfers : EachTransfer (CrossedTransfer w) w
  pub destinations_differ : KeysDiffer destination_of (with_destination_half w.relations)
  pub transfers_differ : KeysDiffer (λ (n : ℕ). n) (filter_map transfer_number w.relations)
