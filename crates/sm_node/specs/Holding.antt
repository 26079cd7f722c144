-- Which relationship holds a snapshot, and the edges of mirrors.
use Rattle.std.specs.Prelude.{Bool, true, if◌then◌else◌, List, [], ◌∷◌, ◌++◌}
use Rattle.sm_base.specs.declared.numbers.RelNo.{RelNo}
use Rattle.sm_defs.specs.Relationship.{Relationship}
use Rattle.sm_relation.specs.declared.relation.Relation.{Relation}
use Rattle.sm_graph.specs.Links.{Link}
use Rattle.sm_model.specs.Answers.{relno}

abbrev pub holder_number : Relationship → RelNo
holder_number r = relno r.number

-- the edge of a mirror
abbrev pub link_of : Relation → Link
link_of r = record { number = r.number.0; from = r.source.0; to = r.destination.0; mirror = true }

-- behind the others, where it is one
abbrev pub with_link : Bool → Relation → List Link → List Link
with_link is_mirror r links = if is_mirror then links ++ link_of r ∷ [] else links
