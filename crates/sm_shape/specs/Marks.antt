-- A table of where each number stands in the maps that were seen: 0 for nowhere, and one more than the place.
use Rattle.std.specs.Prelude.{◌≡◌, ◌≢◌, ℕ, ◌+◌, ◌<◌, ◌==◌, ◌&&◌, ◌||◌, nat_lt, Bool, if◌then◌else◌, List, [], ◌∷◌, length, slice_index, slice_set}
use Rattle.std.specs.List.{flat_map}
use Rattle.sm_base.specs.declared.numbers.Ident.{Ident}
use Rattle.sm_defs.specs.Places.{StandsAt, OnePlace}
use Rattle.sm_model.specs.declared.world.WorldVolume.{WorldVolume}
use Rattle.sm_model.specs.declared.world.WorldSnapshot.{WorldSnapshot}
use Rattle.sm_shape.specs.Takes.{Takes}

-- a number but 0 stands at one place alone, and is in the table
pub record AtOnePlace (most : ℕ) (maps : List (List ℕ)) : Type 0 where
  pub one_place : OnePlace maps
  pub in_range : (number p : ℕ) → number ≢ 0 → StandsAt maps number p → number < most

pub record IsTableOf (most : ℕ) (table : List ℕ) (maps : List (List ℕ)) : Type 0 where
  pub long : length table ≡ most
  pub kept : (number p : ℕ) → number ≢ 0 → StandsAt maps number p → slice_index table number ≡ p + 1
  pub came : (number : ℕ) → 0 < slice_index table number → (p : ℕ) × StandsAt maps number p × (slice_index table number ≡ p + 1)

-- the test of more maps
abbrev pub TakesMaps : ℕ → List ℕ → List ℕ → List (List ℕ) → Bool → Type 0
TakesMaps most old new maps fit = Takes (IsTableOf most) (AtOnePlace most) old new maps fit

abbrev pub free_at : List ℕ → ℕ → ℕ → Bool
free_at table place n = (n == 0) || (nat_lt n (length table) && ((slice_index table n == 0) || (slice_index table n == place + 1)))

abbrev pub with_number : List ℕ → ℕ → ℕ → List ℕ
with_number table place n = if n == 0 then table else slice_set table n (place + 1)

abbrev pub one_map : WorldSnapshot → List (List ℕ)
one_map s = s.map.items ∷ []

abbrev pub maps_of : WorldVolume → List (List ℕ)
maps_of v = v.active.items ∷ v.stable.items ∷ flat_map one_map v.snapshots.items

abbrev pub ident_in : WorldSnapshot → Ident
ident_in s = s.ident
