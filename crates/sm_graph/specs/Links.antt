-- The edges of relationships, as the graph holds them.
use Rattle.std.specs.Prelude.{◌≡◌, ℕ, ◌≤◌, ◌⊎◌, ◌||◌, not, Bool, List, map, Option, Some, None, MatchOption}
use Rattle.std.specs.List.{filter}
use Rattle.sm_base.specs.declared.numbers.RelNo.{RelNo}
use Rattle.sm_base.specs.declared.numbers.VolNo.{VolNo}
use Rattle.sm_defs.specs.Words.{Among}
use Rattle.sm_defs.specs.Edges.{Edge}

-- from a volume to a volume, of the relationship of the number
pub record Link : Type 0 where
  pub number : ℕ
  pub from : ℕ
  pub to : ℕ
  pub mirror : Bool

abbrev pub edge_of : Link → Edge
edge_of l = record { from = l.from; to = l.to }

-- all of them, or those of mirrors alone
abbrev pub is_walked : Bool → Link → Bool
is_walked mirrors_only l = not mirrors_only || l.mirror

abbrev pub edges_of : Bool → List Link → List Edge
edges_of mirrors_only ls = map edge_of (filter (is_walked mirrors_only) ls)

-- by its number
abbrev pub volume : ℕ → VolNo
volume n = record { 0 = n }

-- one of them ends at the volume, and none of those has a lower number
pub record IsLowestTo (ls : List Link) (v number : ℕ) : Type 0 where
  pub stands : (l : Link) × Among ls l × (l.to ≡ v) × (l.number ≡ number)
  pub lowest : (l : Link) → Among ls l → l.to ≡ v → number ≤ l.number

-- the lowest relationship whose edge ends at the volume, if one does
abbrev pub IsIncoming : List Link → ℕ → Option RelNo → Type 0
IsIncoming ls v result = MatchOption result ((l : Link) → Among ls l → ¬ (l.to ≡ v)) (λ r. IsLowestTo ls v r.0)

-- of a number and one that may be known
pub record IsLower (known : Option RelNo) (number result : RelNo) : Type 0 where
  pub alone : known ≡ None → result ≡ number
  pub both : (k : RelNo) → known ≡ Some k → (result.0 ≤ k.0) × (result.0 ≤ number.0) × ((result ≡ k) ⊎ (result ≡ number))
