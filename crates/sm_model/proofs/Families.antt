-- Families of transfers.
use Rattle.std.proofs.Common.{◌≡◌, List, [], ◌∷◌, Some, inl}
use Rattle.sm_base.specs.declared.numbers.Ident.{Ident}
use Rattle.sm_defs.specs.Relationship.{Relationship}
use Rattle.sm_model.specs.FamiliesStand.{IsBaseOrFirst}

pub base_or_first : (r : Relationship) (legs : List Ident) (i : Ident) → r.base ≡ Some i → IsBaseOrFirst r legs i
base_or_first r [] i e = e
base_or_first r (j ∷ js) i e = inl e
