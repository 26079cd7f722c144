-- What is a root: the values that have a spelling.
use Rattle.std.specs.Prelude.{◌≡◌, ◌≢◌, ℕ, ◌^◌, ◌<◌, ◌≤◌, true, List, ◌∷◌, length, map, slice_index, Option, None, Some}
use Rattle.sm_base.specs.Name.{is_label, is_snapshot_name}
use Rattle.sm_base.specs.declared.numbers.Ident.{Ident}
use Rattle.sm_base.specs.declared.limits.TheConstants.{MOST_LOGICAL, MOST_PHYSICAL, LAST_NUMBER}
use Rattle.sm_defs.specs.Places.{StandsAt, OnePlace}
use Rattle.sm_defs.specs.Words.{Among, KeysDiffer}
use Rattle.sm_fields.specs.Grammar.{IsIdentity}
use Rattle.sm_root.specs.declared.TheConstants.{RECORD_SNAPSHOTS}
use Rattle.sm_root.specs.declared.head.Head.{Head}
use Rattle.sm_root.specs.declared.root.Root.{Root}
use Rattle.sm_root.specs.declared.root.RootSnapshot.{RootSnapshot}

abbrev pub ident_of : RootSnapshot → Ident
ident_of s = s.ident

abbrev pub map_of : RootSnapshot → List ℕ
map_of s = s.map

-- the maps of the stable image and of the snapshots, oldest first
abbrev pub maps_of : Root → List (List ℕ)
maps_of r = r.stable ∷ map map_of r.snapshots

-- no number is above the greatest
abbrev pub AllAtMost : List (List ℕ) → ℕ → Type 0
AllAtMost maps most = (number p : ℕ) → StandsAt maps number p → number ≤ most

abbrev pub IsLabel : Option (List ℕ) → Type 0
IsLabel None = Unit {0}
IsLabel (Some label) = is_label label ≡ true

-- the snapshot of this head and this map
abbrev pub snapshot_of : Head → List ℕ → RootSnapshot
snapshot_of h map = record { ident = h.ident; name = h.name; label = h.label; time = h.time; made = h.made; map = map }

-- what a snapshot's grammar asks of its head
pub record IsHead (h : Head) : Type 0 where
  pub ident : IsIdentity h.ident
  pub name : is_snapshot_name h.name ≡ true
  pub label : IsLabel h.label
  pub time : h.time < 2 ^ 64
  pub made : h.made < 2 ^ 32

pub record IsSnapshot (logical : ℕ) (s : RootSnapshot) : Type 0 where
  pub ident : IsIdentity s.ident
  pub name : is_snapshot_name s.name ≡ true
  pub label : IsLabel s.label
  pub time : s.time < 2 ^ 64
  pub made : s.made < 2 ^ 32
  pub long : length s.map ≡ logical

pub record IsRoot (r : Root) : Type 0 where
  pub number : r.number.0 < 2 ^ 32
  pub family : r.family < 2 ^ 64
  pub some_blocks : 1 ≤ r.logical
  pub few_blocks : r.logical ≤ MOST_LOGICAL
  pub room : r.logical ≤ r.physical
  pub few_places : r.physical ≤ MOST_PHYSICAL
  pub counted : (1 ≤ r.next) × (r.next ≤ LAST_NUMBER)
  pub long : length r.stable ≡ r.logical
  pub few : length r.snapshots ≤ RECORD_SNAPSHOTS
  pub snapshots : (s : RootSnapshot) → Among r.snapshots s → IsSnapshot r.logical s
  pub at_most : AllAtMost (maps_of r) r.physical
  pub one_place : OnePlace (maps_of r)
  pub idents_differ : KeysDiffer ident_of r.snapshots
