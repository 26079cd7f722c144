-- The world while the node is up.
use Rattle.std.specs.Prelude.{ℕ, false, List, [], slice_set, slice_index_or, None}
use Rattle.sm_base.specs.declared.numbers.PolicyKind.TheVariants.{AsyncMirror}
use Rattle.sm_defs.specs.Volume.{Volume, no_volume}
use Rattle.sm_defs.specs.Relationship.{Policy, Relationship}

-- disks are their lengths in bytes, by number, which nothing changes
pub record Up : Type 0 where
  pub clock : ℕ
  pub next_relation : ℕ
  pub next_transfer : ℕ
  pub volumes : List Volume
  pub policies : List Policy
  pub relations : List Relationship
  pub disks : List ℕ

abbrev pub no_policy : Policy
no_policy = record { name = []; kind = AsyncMirror; rules = [] }

abbrev pub no_relation : Relationship
no_relation = record { number = 0; source = 0; destination = 0; policy = 0; source_half = false; destination_half = false; quiesced = false; base = None; transfer = None }

abbrev pub volume_at : Up → ℕ → Volume
volume_at w i = slice_index_or w.volumes i no_volume

abbrev pub policy_at : Up → ℕ → Policy
policy_at w i = slice_index_or w.policies i no_policy

abbrev pub relation_at : Up → ℕ → Relationship
relation_at w k = slice_index_or w.relations k no_relation

-- the i-th volume, or the k-th relationship, is changed, and nothing else
abbrev pub with_volume : Up → ℕ → Volume → Up
with_volume w i v = record w { volumes = slice_set w.volumes i v }

abbrev pub with_relation : Up → ℕ → Relationship → Up
with_relation w k r = record w { relations = slice_set w.relations k r }

-- nothing was created yet
abbrev pub empty_world : List ℕ → Up
empty_world disks = record { clock = 0; next_relation = 1; next_transfer = 1; volumes = []; policies = []; relations = []; disks = disks }
