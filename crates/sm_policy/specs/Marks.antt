-- Which places of a list stay, as marks: true at each place that is kept.
use Rattle.std.specs.Prelude.{◌≡◌, ℕ, ◌||◌, cond, Bool, false, List, [], ◌∷◌, map, Option}
use Rattle.sm_base.specs.declared.numbers.Ident.{Ident}
use Rattle.sm_defs.specs.Volume.{Snapshot}
use Rattle.sm_defs.specs.Relationship.{Rule, Policy, rule_for, is_mirror}
use Rattle.sm_defs.specs.Classes.{classes, class_of}
use Rattle.sm_defs.specs.Retention.{labels, labelled, keeps_by_rule, retained}

-- the members whose place is marked
abbrev pub marked : {X : Type 0} → List Bool → List X → List X
marked [] xs = []
marked (m ∷ ms) [] = []
marked (m ∷ ms) (x ∷ xs) = cond m (x ∷ marked ms xs) (marked ms xs)

-- a place stays where it is needed, its label's rule preserves, or fewer than that rule's number of later ones of
-- its label stay
abbrev pub kept_marks : List Rule → List (Option (List ℕ)) → List Bool → List Bool
kept_marks rules [] needed = []
kept_marks rules (l ∷ ls) [] = []
kept_marks rules (l ∷ ls) (n ∷ ns) =
    (n || keeps_by_rule (rule_for rules l) (labelled l (marked (kept_marks rules ls ns) ls))) ∷ kept_marks rules ls ns

-- which of these snapshots are needed
abbrev pub needed_marks : (Ident → Bool) → List Snapshot → List Bool
needed_marks needs ss = map (λ s. needs s.ident) ss

-- what the marks leave of any snapshots with these labels and needs is what retention leaves of them, where the labels
-- are their classes; and by a vault's own classes, where they are their own labels
pub record KeepsRetained (p : Policy) (ls : List (Option (List ℕ))) (needed : List Bool) (marks : List Bool) : Type 0 where
  pub by_class : (class : Snapshot → Option (List ℕ)) (needs : Ident → Bool) (ss : List Snapshot) → ls ≡ classes class ss → needed ≡ needed_marks needs ss → marked marks ss ≡ retained p.rules class needs ss
  pub of_vault : is_mirror p.kind ≡ false → (needs : Ident → Bool) (ss : List Snapshot) → ls ≡ labels ss → needed ≡ needed_marks needs ss → marked marks ss ≡ retained p.rules (class_of p) needs ss
