-- Which volume needs which snapshot, and for whom.
use Rattle.std.specs.Prelude.{ℕ, ◌==◌, ◌&&◌, ◌||◌, Bool, Option}
use Rattle.std.specs.List.{list_any, find}
use Rattle.sm_base.specs.declared.numbers.Ident.{Ident}
use Rattle.sm_defs.specs.Words.{is_ident, has_ident}
use Rattle.sm_defs.specs.Relationship.{Relationship, legs_of}
use Rattle.sm_defs.specs.World.{Up}
use Rattle.sm_defs.specs.Edges.{mirror_edges, upstream}

-- the volume is the relationship's source, or lies upstream of it along mirrors, and the snapshot is its base or a leg
abbrev pub needed_at_source : Up → ℕ → Ident → Relationship → Bool
needed_at_source w v i r =
    r.source_half && (is_ident r.base i || has_ident (legs_of r.transfer) i) && ((r.source == v) || upstream (mirror_edges w) v r.source)

abbrev pub needed_at_destination : Up → ℕ → Ident → Relationship → Bool
needed_at_destination w v i r = r.destination_half && (r.destination == v) && is_ident r.base i

abbrev pub needed_for : Up → ℕ → Ident → Relationship → Bool
needed_for w v i r = needed_at_source w v i r || needed_at_destination w v i r

abbrev pub needed : Up → ℕ → Ident → Bool
needed w v i = list_any (needed_for w v i) w.relations

-- the lowest that needs it
abbrev pub holder : Up → ℕ → Ident → Option Relationship
holder w v i = find (needed_for w v i) w.relations
