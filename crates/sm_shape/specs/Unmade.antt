-- Legs that are still to be made.
use Rattle.std.specs.Prelude.{◌≡◌, ℕ, ◌==◌, ◌&&◌, ◌/◌, ◌%◌, Bool, true, false, List, map, Some}
use Rattle.std.specs.List.{All}
use Rattle.sm_defs.specs.Volume.{has}
use Rattle.sm_defs.specs.Relationship.{Relationship, Transfer}
use Rattle.sm_defs.specs.Legs.{made_ident}
use Rattle.sm_defs.specs.World.{volume_at}
use Rattle.sm_model.specs.declared.world.WorldVolume.{WorldVolume}
use Rattle.sm_model.specs.declared.world.WorldSnapshot.{WorldSnapshot}
use Rattle.sm_shape.specs.Blank.{blank_snapshot, having}

-- without the number of the identity, which might be too great to count
abbrev pub was_made : ℕ → ℕ → WorldSnapshot → Bool
was_made source number s = (s.ident.origin == source) && ((s.ident.seq % 2 == 1) && (s.ident.seq / 2 == number))

abbrev pub LacksMade : ℕ → ℕ → WorldVolume → Type 0
LacksMade source number v = has (map blank_snapshot v.snapshots.items) (made_ident source number) ≡ false

pub record LegIsUnmade (reserved : Bool) (source number : ℕ) (vs : List WorldVolume) : Type 0 where
  pub nowhere : reserved ≡ true → has (volume_at (having vs) source).snapshots (made_ident source number) ≡ false → All (LacksMade source number) vs

abbrev pub IsUnmade : List WorldVolume → Relationship → Type 0
IsUnmade vs r = (t : Transfer) → r.transfer ≡ Some t → LegIsUnmade t.reserved r.source t.number vs
