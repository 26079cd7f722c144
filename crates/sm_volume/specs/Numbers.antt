-- Sets of a volume's block numbers.
use Rattle.std.specs.Prelude.{◌≡◌, ℕ, ◌+◌, ◌≤◌, not, Bool, true, false, List, length}
use Rattle.sm_bits.specs.Places.{has}
use Rattle.sm_defs.specs.Image.{stands}
use Rattle.sm_defs.specs.Missing.{tags_in}
use Rattle.sm_defs.specs.Volume.{Volume, tags_of}

-- the set has the numbers that no image of the volume uses; 0 is the hole and never free
pub record AreFreeOn (space : List Bool) (v : Volume) : Type 0 where
  pub long : length space ≡ v.physical + 1
  pub hole : has space 0 ≡ false
  pub each : (n : ℕ) → 1 ≤ n → n ≤ v.physical → has space n ≡ not (stands n (tags_of v))

-- the set has the numbers that the volume's snapshots use, and 0
pub record AreHeldOn (held : List Bool) (v : Volume) : Type 0 where
  pub long : length held ≡ v.physical + 1
  pub hole : has held 0 ≡ true
  pub each : (n : ℕ) → 1 ≤ n → n ≤ v.physical → has held n ≡ stands n (tags_in v.snapshots)
