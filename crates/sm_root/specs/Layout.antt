-- The layout of a root, version 1: its fields one behind the other, and what each must meet.
use Rattle.std.specs.Prelude.{ℕ, zero, suc, ◌-◌, ◌==◌, ◌&&◌, ◌||◌, nat_le, not, List, [], ◌∷◌, length, map, Option, None, Some}
use Rattle.std.specs.List.{list_any}
use Rattle.sm_base.specs.Name.{is_label, is_snapshot_name}
use Rattle.sm_base.specs.declared.numbers.Ident.{Ident}
use Rattle.sm_base.specs.declared.numbers.Kind.{Kind}
use Rattle.sm_base.specs.declared.numbers.Kind.TheVariants.{Rw, Dp}
use Rattle.sm_base.specs.declared.limits.TheConstants.{MOST_LOGICAL, MOST_PHYSICAL, LAST_NUMBER}
use Rattle.sm_defs.specs.Words.{same_ident}
use Rattle.sm_fields.specs.Format.{Format, ◌>>=◌, empty, number, text, such_that, bits8, bits32, bits64, count, identity, in_turn, numbers, head}
use Rattle.sm_root.specs.declared.root.Root.{Root}
use Rattle.sm_root.specs.declared.root.RootSnapshot.{RootSnapshot}
use Rattle.sm_root.specs.declared.parts.Sizes.{Sizes}
use Rattle.sm_root.specs.declared.head.Head.{Head}
use Rattle.sm_root.specs.declared.TheConstants.{MAGIC, RECORD_SNAPSHOTS}
use Rattle.sm_root.specs.Condition.{map_of, snapshot_of}
use Rattle.sm_root.specs.Spots.{Spot, with_map, with_maps, may_stand}

abbrev pub kind_of : ℕ → Kind
kind_of zero = Rw
kind_of (suc n) = Dp

-- 0 for a volume that clients may write, 1 for a destination
unfoldable pub kind : Format Kind
kind = do
  n ← such_that (number bits8) (λ n. nat_le n 1)
  empty (kind_of n)

abbrev pub label_of : List ℕ → Option (List ℕ)
label_of [] = None
label_of (b ∷ bytes) = Some (b ∷ bytes)

-- a text of no bytes for no label
unfoldable pub label : Format (Option (List ℕ))
label = do
  t ← such_that (text 31) (λ t. (length t == 0) || is_label t)
  empty (label_of t)

-- a number at each place of the image, where the spots are those of the maps before
unfoldable pub block_map : ℕ → ℕ → List Spot → Format (List ℕ)
block_map logical physical seen = numbers bits32 (λ before n. may_stand physical (with_map seen 0 before) (length before) n) logical

-- the sizes and numbers at the front of a root
unfoldable pub sizes : Format Sizes
sizes = do
  n ← number bits32
  k ← kind
  f ← number bits64
  logical ← such_that (number bits32) (λ b. nat_le 1 b && nat_le b MOST_LOGICAL)
  physical ← such_that (number bits32) (λ b. nat_le logical b && nat_le b MOST_PHYSICAL)
  next ← such_that (number bits64) (λ c. nat_le 1 c && nat_le c LAST_NUMBER)
  empty (record { number = record { 0 = n }; kind = k; family = f; logical = logical; physical = physical; next = next })

-- what stands of a snapshot of this identity before its map
unfoldable pub words : Ident → Format Head
words ident = do
  name ← such_that (text 64) is_snapshot_name
  l ← label
  time ← number bits64
  made ← number bits32
  empty (record { ident = ident; name = name; label = l; time = time; made = made })

-- an identity that no snapshot before has
unfoldable pub fresh : List RootSnapshot → Format Ident
fresh before = such_that identity (λ i. not (list_any (λ s. same_ident s.ident i) before))

unfoldable pub snapshot : ℕ → ℕ → List ℕ → List RootSnapshot → Format RootSnapshot
snapshot logical physical stable before = do
  ident ← fresh before
  h ← words ident
  numbers ← block_map logical physical (with_maps [] (stable ∷ map map_of before))
  empty (snapshot_of h numbers)

abbrev pub root_made : Sizes → List ℕ → List RootSnapshot → Root
root_made s stable snapshots = record { number = s.number; kind = s.kind; family = s.family; logical = s.logical; physical = s.physical; next = s.next; stable = stable; snapshots = snapshots }

unfoldable pub body : Format Root
body = do
  s ← sizes
  stable ← block_map s.logical s.physical []
  n ← count RECORD_SNAPSHOTS
  snapshots ← in_turn (snapshot s.logical s.physical stable) [] n
  empty (root_made s stable snapshots)

-- a record of so many bytes in all: the magic word, the number of bytes behind, and the root
unfoldable pub root_record : ℕ → Format Root
root_record total = do
  front ← head MAGIC (total - 12)
  body
