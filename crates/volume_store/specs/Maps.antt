-- The maps of a volume, and which physical numbers they use.
use Rattle.std.specs.Prelude.{◌≡◌, ℕ, ◌+◌, ◌<◌, ◌≤◌, not, Bool, true, false, List, [], ◌∷◌, length, slice_index, map}
use Rattle.std.specs.List.{list_any}
use Rattle.sm_bits.specs.Places.{has}
use Rattle.sm_defs.specs.Image.{stands}
use Rattle.sm_defs.specs.Words.{Among}
use Rattle.sm_root.specs.declared.root.Root.{Root}
use Rattle.sm_root.specs.Condition.{IsRoot, map_of, maps_of}

-- the maps that a restart needs: the stable one, and those of the snapshots
abbrev pub kept_maps : Root → List (List ℕ)
kept_maps r = maps_of r

-- those of the snapshots alone
abbrev pub held_maps : Root → List (List ℕ)
held_maps r = map map_of r.snapshots

abbrev pub all_maps : Root → List ℕ → List (List ℕ)
all_maps r active = active ∷ kept_maps r

-- the number stands in one of the maps
abbrev pub uses : List (List ℕ) → ℕ → Bool
uses maps n = list_any (λ m. stands n m) maps

-- a number that stands twice stands at one place of two maps; 0 is a hole
abbrev pub OnePlace : List (List ℕ) → Type 0
OnePlace maps = (x y : List ℕ) (i j : ℕ) → Among maps x → Among maps y → slice_index x i ≡ slice_index y j → 0 < slice_index x i → i ≡ j

-- maps of so many places, with numbers up to the physical size
pub record AreMapsOf (logical physical : ℕ) (maps : List (List ℕ)) : Type 0 where
  pub long : (x : List ℕ) → Among maps x → length x ≡ logical
  pub within : (x : List ℕ) → Among maps x → (i : ℕ) → slice_index x i ≤ physical
  pub one_place : OnePlace maps

-- the marks of the numbers that the maps use; 0, the hole, is always marked
pub record AreUsed (set : List Bool) (physical : ℕ) (maps : List (List ℕ)) : Type 0 where
  pub long : length set ≡ physical + 1
  pub hole : has set 0 ≡ true
  pub each : (n : ℕ) → 1 ≤ n → n ≤ physical → has set n ≡ uses maps n

-- the marks of the numbers that no map uses; 0 is a hole and never free
pub record AreFree (free : List Bool) (physical : ℕ) (maps : List (List ℕ)) : Type 0 where
  pub long : length free ≡ physical + 1
  pub hole : has free 0 ≡ false
  pub each : (n : ℕ) → 1 ≤ n → n ≤ physical → has free n ≡ not (uses maps n)

-- the root of a volume and its active map
pub record Maps : Type 0 where
  pub root : Root
  pub active : List ℕ

-- which numbers the snapshots use, which the stable map does, and which the active one does
pub record AreMarks (held settled live : List Bool) (root : Root) (active : List ℕ) : Type 0 where
  pub of_snapshots : AreUsed held root.physical (held_maps root)
  pub of_stable : AreUsed settled root.physical (root.stable ∷ [])
  pub of_active : AreUsed live root.physical (active ∷ [])

-- What is kept beside the maps: the marks of each part, which numbers a restart needs, and which are free.
pub record AreKept (root : Root) (active : List ℕ) (held settled live kept space : List Bool) : Type 0 where
  pub maps : AreMapsOf root.logical root.physical (all_maps root active)
  pub good : IsRoot root
  pub marks : AreMarks held settled live root active
  pub used : AreUsed kept root.physical (kept_maps root)
  pub free : AreFree space root.physical (all_maps root active)

-- the least number that no map uses
pub record IsLeastFree (maps : Maps) (n : ℕ) : Type 0 where
  pub from_one : 1 ≤ n
  pub within : n ≤ maps.root.physical
  pub unused : uses (all_maps maps.root maps.active) n ≡ false
  pub least : (m : ℕ) → 1 ≤ m → m < n → uses (all_maps maps.root maps.active) m ≡ true
