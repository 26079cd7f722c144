-- Where a reader stands.
use Rattle.std.specs.Prelude.{◌≡◌, ℕ, ◌+◌, ◌<◌, List, ◌++◌, length, drop, get_or}
use Rattle.sm_fields.specs.Format.{Format}
use Rattle.sm_fields.specs.Grammar.{Spells}

-- how many bytes were read, and those that are left
pub record Place : Type 0 where
  pub at : ℕ
  pub rest : List ℕ

abbrev pub moved : Place → ℕ → Place
moved p n = record { at = p.at + n; rest = drop n p.rest }

abbrev pub IsBytes : List ℕ → Type 0
IsBytes bytes = (i : ℕ) → get_or bytes i 0 < 256

-- A spelling of the value stood at the old place, and the new place is behind it.
abbrev pub Takes : {A : Type 0} → Format A → Place → A → Place → Type 0
Takes f old value new = (front : List ℕ) × Spells f value front × (old.rest ≡ front ++ new.rest) × (new.at ≡ old.at + length front)
