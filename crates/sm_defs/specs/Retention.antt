-- Which snapshots a vault keeps.
use Rattle.std.specs.Prelude.{ℕ, ◌+◌, cond, ◌&&◌, ◌||◌, nat_lt, Bool, false, List, [], ◌∷◌, map, Option, Some, None}
use Rattle.std.specs.List.{count_by, find}
use Rattle.std.specs.Option.{option_eq}
use Rattle.std.specs.Str.{bytes_eq}
use Rattle.sm_base.specs.declared.numbers.Ident.{Ident}
use Rattle.sm_defs.specs.Volume.{Snapshot}
use Rattle.sm_defs.specs.Relationship.{Rule, rule_for}
use Rattle.sm_defs.specs.Classes.{classes}

abbrev pub label_of : Snapshot → Option (List ℕ)
label_of s = s.label

abbrev pub labels : List Snapshot → List (Option (List ℕ))
labels ss = map label_of ss

-- how many of these are the label
abbrev pub labelled : Option (List ℕ) → List (Option (List ℕ)) → ℕ
labelled label ls = count_by (λ l. option_eq bytes_eq l label) ls

-- without a rule, as with no class, nothing is kept
abbrev pub keeps_by_rule : Option Rule → ℕ → Bool
keeps_by_rule None newer = false
keeps_by_rule (Some rule) newer = rule.preserve || nat_lt newer rule.keep

-- where it is needed, its class's rule preserves, or fewer than that rule's number of newer ones of its class are kept
abbrev pub keeps : List Rule → (Snapshot → Option (List ℕ)) → (Ident → Bool) → Snapshot → List Snapshot → Bool
keeps rules class needed s kept = needed s.ident || keeps_by_rule (rule_for rules (class s)) (labelled (class s) (classes class kept))

abbrev pub with_kept : List Rule → (Snapshot → Option (List ℕ)) → (Ident → Bool) → Snapshot → List Snapshot → List Snapshot
with_kept rules class needed s kept = cond (keeps rules class needed s kept) (s ∷ kept) kept

-- of a list, oldest first, what is kept by rules of classes: the newer ones are settled before the older ones
abbrev pub retained : List Rule → (Snapshot → Option (List ℕ)) → (Ident → Bool) → List Snapshot → List Snapshot
retained rules class needed [] = []
retained rules class needed (s ∷ newer) = with_kept rules class needed s (retained rules class needed newer)

-- a rule that preserves has no room: what is there and what would come exceed its number
abbrev pub is_reached : List (Option (List ℕ)) → List (Option (List ℕ)) → Rule → Bool
is_reached there coming rule = rule.preserve && nat_lt rule.keep (labelled (Some rule.label) there + labelled (Some rule.label) coming)

-- the first such rule
abbrev pub keep_reached : List Rule → List (Option (List ℕ)) → List (Option (List ℕ)) → Option Rule
keep_reached rules there coming = find (is_reached there coming) rules
