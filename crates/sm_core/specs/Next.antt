-- The next relationship of a world.
use Rattle.std.specs.Prelude.{◌≡◌, ℕ, ◌<◌, ◌≤◌, List, ◌∷◌, map, Option, None, Some}
use Rattle.sm_base.specs.declared.numbers.RelNo.{RelNo}
use Rattle.sm_defs.specs.Relationship.{Relationship}
use Rattle.sm_defs.specs.Words.{Among, Ascends}
use Rattle.sm_model.specs.World.{World, up, down}

-- the lowest of the numbers above this one
pub record IsLeastAbove (numbers : List ℕ) (after n : ℕ) : Type 0 where
  pub one : Among numbers n
  pub above : after < n
  pub least : (m : ℕ) → Among numbers m → after < m → n ≤ m

-- it, or none exactly where there is none
abbrev pub IsNext : List ℕ → ℕ → Option RelNo → Type 0
IsNext numbers after None = (m : ℕ) → Among numbers m → m ≤ after
IsNext numbers after (Some n) = IsLeastAbove numbers after n.0

abbrev pub relation_number : Relationship → ℕ
relation_number r = r.number

-- of the present world; a node that is down has none
abbrev pub IsNextIn : World → ℕ → Option RelNo → Type 0
IsNextIn (up w) after result = IsNext (map relation_number w.relations) after result
IsNextIn (down disk d) after result = result ≡ None

-- the relationships stand in the order of their numbers, of which none is 0
abbrev pub AreNumbered : World → Type 0
AreNumbered (up w) = Ascends (0 ∷ map relation_number w.relations)
AreNumbered (down disk d) = Unit {0}
