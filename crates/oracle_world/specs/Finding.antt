-- What a search for the first that passes answers.
use Rattle.std.specs.Prelude.{◌≡◌, ◌<◌, ℕ, Bool, List, length, slice_index_or, Option, Some, None}
use Rattle.sm_base.specs.declared.numbers.RelNo.{RelNo}
use Rattle.sm_defs.specs.Words.{found}
use Rattle.sm_defs.specs.Relationship.{Relationship}
use Rattle.sm_model.specs.Answers.{relno}

-- the place of the first that passes, and that element, or none
abbrev pub IsFound : {X : Type 0} → (X → Bool) → List X → X → Option ℕ → Type 0
IsFound test xs other None = found test xs ≡ None
IsFound test xs other (Some at) = (found test xs ≡ Some (record { at = at; item = slice_index_or xs at other })) × (at < length xs)

abbrev pub number_of : Relationship → RelNo
number_of r = relno r.number
