-- What a catalogue is.
use Rattle.std.specs.Prelude.{ℕ, List, []}
use Rattle.sm_defs.specs.Relationship.{Policy}
use Rattle.sm_relation.specs.declared.relation.Relation.{Relation}
use Rattle.sm_catroot.specs.declared.placed.Placed.{Placed}

-- the volumes and policies stand at the places of their numbers
pub record Catalog : Type 0 where
  pub clock : ℕ
  pub next_relation : ℕ
  pub next_transfer : ℕ
  pub volumes : List Placed
  pub policies : List Policy
  pub relations : List Relation

-- nothing was created yet
abbrev pub empty_catalog : Catalog
empty_catalog = record { clock = 0; next_relation = 1; next_transfer = 1; volumes = []; policies = []; relations = [] }
