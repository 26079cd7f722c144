-- The destination that an event names, with its relationship, and whose identity an answer gives.
use Rattle.std.specs.Prelude.{◌≡◌, ◌<◌, ℕ, List, length, slice_index_or, Option, Some, None, Ok}
use Rattle.sm_base.specs.declared.numbers.Ident.{Ident}
use Rattle.sm_defs.specs.Volume.{Snapshot}
use Rattle.sm_defs.specs.World.{Up, volume_at, relation_at, no_relation}
use Rattle.sm_defs.specs.Relationship.{Relationship}
use Rattle.sm_model.specs.Answers.{target_named}
use Rattle.sm_model.specs.OfRelations.{released}
use Rattle.oracle_relations.specs.declared.target.PlainTarget.{PlainTarget}

-- the places are those of the destination of the path and of its relationship
pub record IsTarget (w : Up) (path : List ℕ) (t : PlainTarget) : Type 0 where
  pub named : target_named w path ≡ Ok (record { destination = record { at = t.destination; item = volume_at w t.destination }; relation = record { at = t.relation; item = relation_at w t.relation } })
  pub stands : t.destination < length w.volumes
  pub tied : t.relation < length w.relations

-- the place of the relationship that a release ends, or none
abbrev pub IsReleased : List Relationship → ℕ → ℕ → Option ℕ → Type 0
IsReleased rs source destination None = released rs source destination ≡ None
IsReleased rs source destination (Some at) = (released rs source destination ≡ Some (record { at = at; item = slice_index_or rs at no_relation })) × (at < length rs)

-- the identity is that of the snapshot, if there is one
abbrev pub IsOfOne : Option Snapshot → Option Ident → Type 0
IsOfOne o None = o ≡ None
IsOfOne o (Some i) = (s : Snapshot) × (o ≡ Some s) × (s.ident ≡ i)
