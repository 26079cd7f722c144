-- What of a transfer's legs was shipped, by maps and tables of their numbers.
use Rattle.std.specs.Prelude.{◌≡◌, ◌≢◌, ℕ, ◌≤◌, ◌<◌, ◌+◌, true, false, List, [], ◌∷◌, length, map, count_by, slice_index, Some, None}
use Rattle.std.specs.List.{All}
use Rattle.sm_base.specs.declared.numbers.Ident.{Ident}
use Rattle.sm_base.specs.declared.limits.TheConstants.{WINDOW}
use Rattle.sm_defs.specs.Words.{has_ident}
use Rattle.sm_defs.specs.Volume.{has}
use Rattle.sm_defs.specs.Missing.{missing_from}
use Rattle.sm_defs.specs.Relationship.{Relationship, Transfer, is_mirror}
use Rattle.sm_defs.specs.World.{Up}
use Rattle.sm_model.specs.Running.{Running, running_in}
use Rattle.sm_model.specs.LegsFit.{IsUnderWay, IsChecked, FitsSource, FirstFits, InWindow, LegsFitFor}
use Rattle.sm_model.specs.declared.world.WorldSnapshot.{WorldSnapshot}
use Rattle.sm_shape.specs.Blank.{blank_image, blank_snapshot}
use Rattle.sm_shape.specs.Behind.{EachPlace}
use Rattle.sm_shape.specs.Standing.{Lacks}
use Rattle.sm_fit.specs.Maps.{map_of}
use Rattle.sm_fit.specs.Tables.{is_new}

abbrev pub IsNear : ℕ → ℕ → Type 0
IsNear checkpoint k = k < checkpoint + WINDOW

abbrev pub WindowFits : Transfer → Type 0
WindowFits t = t.stopped ≡ None → InWindow t

-- the number stands nowhere but at the place, by the table
abbrev pub IsFreeAt : List ℕ → ℕ → ℕ → Type 0
IsFreeAt table place n = n ≢ 0 → slice_index table n ≢ 0 → slice_index table n ≡ place + 1

abbrev pub MapAgrees : List ℕ → List ℕ → Type 0
MapAgrees table numbers = EachPlace (IsFreeAt table) numbers

abbrev pub LegAgrees : List Ident → List ℕ → WorldSnapshot → Type 0
LegAgrees legs table s = has_ident legs s.ident ≡ true → MapAgrees table s.map.items

abbrev pub IsThere : List WorldSnapshot → Ident → Type 0
IsThere ss i = has (map blank_snapshot ss) i ≡ true

-- each leg is at the source, where none of its numbers clashes with the table of the destination
pub record SourceFits (legs : List Ident) (table : List ℕ) (source : List WorldSnapshot) : Type 0 where
  pub there : All (IsThere source) legs
  pub agree : All (LegAgrees legs table) source

abbrev pub IsBelow : ℕ → ℕ → Type 0
IsBelow cost k = k < cost

-- no more was shipped than so many blocks
pub record IsWithin (t : Transfer) (cost : ℕ) : Type 0 where
  pub checkpoint : t.checkpoint ≤ cost
  pub landed : All (IsBelow cost) t.landed

-- the leg has to fit, since the destination lacks it
pub record IsToFit (t : Transfer) (destination : List WorldSnapshot) (i : Ident) : Type 0 where
  pub lacks : Lacks destination i
  pub under_way : IsUnderWay t

pub record MirrorLegFits (t : Transfer) (table : List ℕ) (source : List WorldSnapshot) (i : Ident) : Type 0 where
  pub there : IsThere source i
  pub within : IsWithin t (count_by (is_new table) (map_of source i))

abbrev pub MirrorFirst : Transfer → List ℕ → List WorldSnapshot → List WorldSnapshot → List Ident → Type 0
MirrorFirst t table source destination [] = Unit {0}
MirrorFirst t table source destination (i ∷ is) = IsToFit t destination i → MirrorLegFits t table source i

pub record MirrorFits (t : Transfer) (table : List ℕ) (source destination : List WorldSnapshot) : Type 0 where
  pub checked : IsChecked t → SourceFits t.legs table source
  pub fresh : t.pruned ≡ false → t.checkpoint ≡ 0 → t.landed ≡ []
  pub first : MirrorFirst t table source destination t.legs

abbrev pub vault_cost_of : List ℕ → List ℕ → ℕ
vault_cost_of leg base = length (missing_from 0 (blank_image leg) (blank_image base))

-- so many blocks are free at the destination
pub record VaultLegFits (t : Transfer) (base : List ℕ) (free : ℕ) (source : List WorldSnapshot) (i : Ident) : Type 0 where
  pub there : IsThere source i
  pub within : IsWithin t (vault_cost_of (map_of source i) base)
  pub room : vault_cost_of (map_of source i) base ≤ free

abbrev pub VaultFirst : Transfer → List ℕ → ℕ → List WorldSnapshot → List WorldSnapshot → List Ident → Type 0
VaultFirst t base free source destination [] = Unit {0}
VaultFirst t base free source destination (i ∷ is) = IsToFit t destination i → VaultLegFits t base free source i

-- but for the window
pub record ShippedFits (x : Running) : Type 0 where
  pub mirror : is_mirror x.policy.kind ≡ true → IsChecked x.transfer → FitsSource x
  pub fresh : is_mirror x.policy.kind ≡ true → x.transfer.pruned ≡ false → x.transfer.checkpoint ≡ 0 → x.transfer.landed ≡ []
  pub first : FirstFits x x.transfer.legs

abbrev pub OwnLegsFit : Up → Relationship → Type 0
OwnLegsFit w r = (t : Transfer) → r.transfer ≡ Some t → LegsFitFor (running_in w r t)
