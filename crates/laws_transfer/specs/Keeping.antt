-- The laws of what a vault keeps, and of what is needed.
use Rattle.std.specs.Prelude.{◌≡◌, ◌⊎◌, ◌↔◌, ◌<◌, ◌≤◌, ◌+◌, ◌++◌, ℕ, Bool, true, false, Option, List, [], ◌∷◌, Some, None}
use Rattle.sm_base.specs.declared.numbers.Ident.{Ident}
use Rattle.sm_defs.specs.Classes.{classes}
use Rattle.sm_defs.specs.Words.{Among, has_ident}
use Rattle.sm_defs.specs.Volume.{Snapshot}
use Rattle.sm_defs.specs.Relationship.{Rule, Relationship, rule_for, legs_of}
use Rattle.sm_defs.specs.World.{Up}
use Rattle.sm_defs.specs.Needed.{needed}
use Rattle.sm_defs.specs.Thinned.{Thinned}
use Rattle.sm_defs.specs.Retention.{retained, labelled, keep_reached}

abbrev pub RetentionKeepsTheNeeded : Type 0
RetentionKeepsTheNeeded = (rules : List Rule) (class : Snapshot → Option (List ℕ)) (needs : Ident → Bool) (ss : List Snapshot) (s : Snapshot) → Among ss s → needs s.ident ≡ true → Among (retained rules class needs ss) s

abbrev pub RetentionThins : Type 0
RetentionThins = (rules : List Rule) (class : Snapshot → Option (List ℕ)) (needs : Ident → Bool) (ss : List Snapshot) → Thinned (retained rules class needs ss) ss

-- its class has a rule, which preserves or has room beside the newer ones that are kept
abbrev pub HasRoom : List Rule → (Snapshot → Option (List ℕ)) → Snapshot → List Snapshot → Type 0
HasRoom rules class s kept = (rule : Rule) × (rule_for rules (class s) ≡ Some rule) × ((rule.preserve ≡ true) ⊎ (labelled (class s) (classes class kept) < rule.keep))

abbrev pub Stays : List Rule → (Snapshot → Option (List ℕ)) → (Ident → Bool) → Snapshot → List Snapshot → Type 0
Stays rules class needs s kept = (needs s.ident ≡ true) ⊎ HasRoom rules class s kept

-- the oldest of a list stays exactly where it is needed or has room, and changes nothing of what is kept of the others
abbrev pub RetentionKeepsByReason : Type 0
RetentionKeepsByReason =
    (rules : List Rule) (class : Snapshot → Option (List ℕ)) (needs : Ident → Bool) (s : Snapshot) (newer : List Snapshot) →
    (Stays rules class needs s (retained rules class needs newer) → retained rules class needs (s ∷ newer) ≡ s ∷ retained rules class needs newer) ×
    (¬ (Stays rules class needs s (retained rules class needs newer)) → retained rules class needs (s ∷ newer) ≡ retained rules class needs newer)

-- what is kept of the newer part of a list rests on no older snapshot
abbrev pub RetentionBeginsAtTheNewest : Type 0
RetentionBeginsAtTheNewest =
    (rules : List Rule) (class : Snapshot → Option (List ℕ)) (needs : Ident → Bool) (older newer : List Snapshot) →
    (front : List Snapshot) × Thinned front older × (retained rules class needs (older ++ newer) ≡ front ++ retained rules class needs newer)

-- its class has a rule that preserves or keeps at least one
abbrev pub IsWanted : List Rule → (Snapshot → Option (List ℕ)) → Snapshot → Type 0
IsWanted rules class s = (rule : Rule) × (rule_for rules (class s) ≡ Some rule) × ((rule.preserve ≡ true) ⊎ (0 < rule.keep))

-- what comes last stays, whatever stands before it
abbrev pub RetentionKeepsTheNewest : Type 0
RetentionKeepsTheNewest =
    (rules : List Rule) (class : Snapshot → Option (List ℕ)) (needs : Ident → Bool) (older : List Snapshot) (s : Snapshot) → IsWanted rules class s →
    (front : List Snapshot) × Thinned front older × (retained rules class needs (older ++ s ∷ []) ≡ front ++ s ∷ [])

-- of snapshots that nobody needs, a rule that does not preserve keeps no more than its number
abbrev pub RulesKeepNoMore : Type 0
RulesKeepNoMore =
    (rules : List Rule) (class : Snapshot → Option (List ℕ)) (needs : Ident → Bool) (ss : List Snapshot) (rule : Rule) (label : List ℕ) → ((s : Snapshot) → Among ss s → needs s.ident ≡ false) →
    rule_for rules (Some label) ≡ Some rule → rule.preserve ≡ false → labelled (Some label) (classes class (retained rules class needs ss)) ≤ rule.keep

abbrev pub IsReached : List (Option (List ℕ)) → List (Option (List ℕ)) → Rule → Type 0
IsReached there coming rule = (rule.preserve ≡ true) × (rule.keep < labelled (Some rule.label) there + labelled (Some rule.label) coming)

-- the rule that is named is the first that is reached; none is named exactly where none is reached
abbrev pub KeepReachedNamesTheFirst : Type 0
KeepReachedNamesTheFirst =
    (rules : List Rule) (there coming : List (Option (List ℕ))) →
    ((rule : Rule) → keep_reached rules there coming ≡ Some rule →
    (before behind : List Rule) × (rules ≡ before ++ rule ∷ behind) × IsReached there coming rule × ((r : Rule) → Among before r → ¬ (IsReached there coming r))) ×
    ((keep_reached rules there coming ≡ None) ↔ ((r : Rule) → Among rules r → ¬ (IsReached there coming r)))

-- each side that has its half needs the base
abbrev pub BasesAreNeeded : Type 0
BasesAreNeeded =
    (w : Up) (r : Relationship) (i : Ident) → Among w.relations r → r.base ≡ Some i →
    (r.source_half ≡ true → needed w r.source i ≡ true) × (r.destination_half ≡ true → needed w r.destination i ≡ true)

abbrev pub LegsAreNeeded : Type 0
LegsAreNeeded = (w : Up) (r : Relationship) (i : Ident) → Among w.relations r → r.source_half ≡ true → has_ident (legs_of r.transfer) i ≡ true → needed w r.source i ≡ true
