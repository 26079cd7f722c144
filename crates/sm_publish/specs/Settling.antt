-- Settle: what a relationship is behind a published leg.
use Rattle.std.specs.Prelude.{◌≡◌, List, [], ◌∷◌, Some}
use Rattle.sm_base.specs.declared.numbers.Ident.{Ident}
use Rattle.sm_defs.specs.Relationship.{Relationship}
use Rattle.sm_relation.specs.declared.relation.Relation.{Relation}
use Rattle.sm_relation.specs.Shown.{relationship_of}
use Rattle.sm_model.specs.Due.{settled_relation}
use Rattle.sm_model.specs.OfTransfers.{without_transfer}
use Rattle.sm_model.specs.Running.{Running}

-- its first leg is the base, and with the last leg or without any the transfer ends
abbrev pub settled_by : Running → List Ident → Relationship
settled_by x [] = without_transfer x.relation
settled_by x (i ∷ later) = settled_relation x i later

-- of every transfer that the relationship runs, whatever has landed of it
abbrev pub Settles : Relation → Relation → Type 0
Settles old new = (x : Running) → x.relation ≡ relationship_of x.transfer.landed x.transfer.pruned old → x.relation.transfer ≡ Some x.transfer →
    relationship_of [] x.transfer.pruned new ≡ settled_by x x.transfer.legs
