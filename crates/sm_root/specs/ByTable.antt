-- The same layout, where a table has the place of each number that stood so far: 0 for none, and one more than the place.
use Rattle.std.specs.Prelude.{ℕ, suc, ◌+◌, ◌-◌, ◌==◌, ◌&&◌, ◌||◌, nat_lt, Bool, if◌then◌else◌, List, [], ◌∷◌, length, map, slice_index, slice_set, replicate}
use Rattle.sm_base.specs.declared.numbers.Ident.{Ident}
use Rattle.sm_fields.specs.Format.{Format, ◌>>=◌, empty, bits32, count, in_turn, numbers, head}
use Rattle.sm_root.specs.declared.root.Root.{Root}
use Rattle.sm_root.specs.declared.root.RootSnapshot.{RootSnapshot}
use Rattle.sm_root.specs.declared.parts.Sizes.{Sizes}
use Rattle.sm_root.specs.declared.TheConstants.{MAGIC, RECORD_SNAPSHOTS}
use Rattle.sm_root.specs.Condition.{map_of, snapshot_of}
use Rattle.sm_root.specs.Layout.{sizes, words, fresh, root_made}

abbrev pub free_at : List ℕ → ℕ → ℕ → Bool
free_at table place n = (n == 0) || (nat_lt n (length table) && ((slice_index table n == 0) || (slice_index table n == place + 1)))

abbrev pub with_number : List ℕ → ℕ → ℕ → List ℕ
with_number table place n = if n == 0 then table else slice_set table n (place + 1)

abbrev pub after_map : List ℕ → ℕ → List ℕ → List ℕ
after_map table place [] = table
after_map table place (n ∷ ns) = after_map (with_number table place n) (suc place) ns

abbrev pub after_maps : List ℕ → List (List ℕ) → List ℕ
after_maps table [] = table
after_maps table (m ∷ ms) = after_maps (after_map table 0 m) ms

unfoldable pub map_by_table : List ℕ → ℕ → Format (List ℕ)
map_by_table table logical = numbers bits32 (λ before n. free_at (after_map table 0 before) (length before) n) logical

-- a snapshot behind its identity
unfoldable pub rest_by_table : List ℕ → ℕ → Ident → Format RootSnapshot
rest_by_table table logical ident = do
  h ← words ident
  numbers ← map_by_table table logical
  empty (snapshot_of h numbers)

unfoldable pub snapshot_by_table : List ℕ → ℕ → List RootSnapshot → Format RootSnapshot
snapshot_by_table table logical before = do
  ident ← fresh before
  rest_by_table (after_maps table (map map_of before)) logical ident

unfoldable pub snapshots_by_table : List ℕ → ℕ → ℕ → Format (List RootSnapshot)
snapshots_by_table table logical n = in_turn (snapshot_by_table table logical) [] n

-- the maps and the snapshots, behind the sizes
unfoldable pub images_by_table : List ℕ → Sizes → Format Root
images_by_table table s = do
  stable ← map_by_table table s.logical
  n ← count RECORD_SNAPSHOTS
  snapshots ← snapshots_by_table (after_map table 0 stable) s.logical n
  empty (root_made s stable snapshots)

unfoldable pub body_by_table : Format Root
body_by_table = do
  s ← sizes
  images_by_table (replicate (s.physical + 1) 0) s

unfoldable pub record_by_table : ℕ → Format Root
record_by_table total = do
  front ← head MAGIC (total - 12)
  body_by_table
