-- The laws of what a mirror drops, and of the common snapshot.
use Rattle.std.specs.Prelude.{◌≡◌, ◌≢◌, ◌⊎◌, ◌↔◌, ◌++◌, Bool, true, false, List, ◌∷◌, Some, None}
use Rattle.sm_base.specs.declared.numbers.Ident.{Ident}
use Rattle.sm_defs.specs.Words.{Among}
use Rattle.sm_defs.specs.Volume.{Snapshot}
use Rattle.sm_defs.specs.Relationship.{Policy, sends_all}
use Rattle.sm_defs.specs.Thinned.{Thinned}
use Rattle.sm_defs.specs.Pruning.{pruned}
use Rattle.sm_defs.specs.Common.{common}

-- the list has a copy of the identity
abbrev pub HasCopy : List Snapshot → Ident → Type 0
HasCopy ss i = (s : Snapshot) × Among ss s × (s.ident ≡ i)

-- the policy sends all snapshots, or a relationship made this one
abbrev pub IsCovered : Policy → Snapshot → Type 0
IsCovered policy s = (sends_all policy ≡ true) ⊎ (s.maker ≢ 0)

abbrev pub PruningDropsExactly : Type 0
PruningDropsExactly =
    (policy : Policy) (needs : Ident → Bool) (source destination : List Snapshot) (s : Snapshot) →
    Among (pruned policy needs source destination) s ↔ (Among destination s × (needs s.ident ≡ false) × (¬ (HasCopy source s.ident) ⊎ ¬ (IsCovered policy s)))

abbrev pub PruningThins : Type 0
PruningThins = (policy : Policy) (needs : Ident → Bool) (source destination : List Snapshot) → Thinned (pruned policy needs source destination) destination

-- it stands in the destination's list, the source has it, and has nothing that stands behind it there
abbrev pub IsNewestCommon : List Snapshot → List Snapshot → Snapshot → Type 0
IsNewestCommon source destination s =
    (older newer : List Snapshot) × (destination ≡ older ++ s ∷ newer) × HasCopy source s.ident × ((t : Snapshot) → Among newer t → ¬ (HasCopy source t.ident))

abbrev pub CommonIsTheNewest : Type 0
CommonIsTheNewest = (source destination : List Snapshot) (s : Snapshot) → common source destination ≡ Some s → IsNewestCommon source destination s

abbrev pub NothingIsCommon : Type 0
NothingIsCommon = (source destination : List Snapshot) → (common source destination ≡ None) ↔ ((t : Snapshot) → Among destination t → ¬ (HasCopy source t.ident))
