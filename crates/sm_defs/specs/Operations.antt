-- What each call makes of a volume, and the tests behind its refusals. Each is told here alone.
use Rattle.std.specs.Prelude.{◌≡◌, ℕ, suc, ◌*◌, ◌<◌, ◌≤◌, true, false, ◌==◌, ◌||◌, ◌&&◌, nat_lt, nat_le, not, cond, Bool, if◌then◌else◌, Option, None, Some, List, [], ◌∷◌, ◌++◌, length, slice_set}
use Rattle.std.specs.List.{list_any, list_all}
use Rattle.std.specs.Str.{bytes_eq}
use Rattle.sm_base.specs.declared.numbers.Ident.{Ident}
use Rattle.sm_base.specs.declared.numbers.Kind.TheVariants.{Rw, Dp}
use Rattle.sm_defs.specs.Image.{Block, Image, stands}
use Rattle.sm_base.specs.declared.limits.TheConstants.{MOST_SNAPSHOTS, LAST_NUMBER}
use Rattle.sm_defs.specs.Volume.{Volume, Snapshot, is_rw, has, used, tags_of, free_tags, without}
use Rattle.sm_defs.specs.Missing.{first_number}
use Rattle.sm_defs.specs.Words.{has_ident}

-- the least number that no image of the volume uses, 0 where none is free
abbrev pub least_free : Volume → ℕ
least_free v = first_number (free_tags v)

-- a block at a place of the active image
abbrev pub written : Volume → ℕ → Block → Volume
written v at b = record v { active = slice_set v.active at b }

-- a consistency point
abbrev pub settled : Volume → Volume
settled v = record v { stable = v.active }

-- the next number of a client is never given again
abbrev pub counted : Volume → Volume
counted v = record v { next = suc v.next }

-- a consistency point, and a snapshot behind the others
abbrev pub with_snapshot : Volume → Snapshot → Volume
with_snapshot v s = record v { stable = v.active; snapshots = v.snapshots ++ s ∷ [] }

-- a number of a client's snapshot is used up with it
abbrev pub next_after : ℕ → Ident → ℕ
next_after next i = cond (i.seq == 2 * next) (suc next) next

-- the same, where the number of a client's snapshot is used up with it
abbrev pub snapped : Volume → Snapshot → Volume
snapped v s = record v { stable = v.active; next = next_after v.next s.ident; snapshots = v.snapshots ++ s ∷ [] }

-- without the snapshots of these identities
abbrev pub removed : Volume → List Ident → Volume
removed v drops = without (λ s. has_ident drops s.ident) v

-- the image becomes the active and the stable one
abbrev pub taken_over : Volume → Image → ℕ → List Snapshot → Volume
taken_over v image family snapshots = record v { family = family; active = image; stable = image; snapshots = snapshots }

-- the same of a destination
abbrev pub reverted : Volume → Image → ℕ → List Snapshot → Volume
reverted v image family snapshots = record v { kind = Dp; family = family; active = image; stable = image; snapshots = snapshots }

-- clients write it
abbrev pub writable : Volume → Volume
writable v = record v { kind = Rw }

-- as a restart or an opening leaves it: what was written since the last consistency point is lost
abbrev pub opened : Volume → Volume
opened v = record v { active = v.stable }

-- clients don't write it
abbrev pub is_read_only : Volume → Bool
is_read_only v = not (is_rw v.kind)

-- the place is behind the last one
abbrev pub is_past : Volume → ℕ → Bool
is_past v at = nat_le v.logical at

-- no block is free
abbrev pub is_used_up : Volume → Bool
is_used_up v = used v == v.physical

abbrev pub has_name : List Snapshot → List ℕ → Bool
has_name snapshots name = list_any (λ s. bytes_eq s.name name) snapshots

-- no room for a snapshot, or no number for one of the clients
abbrev pub is_full : Volume → Ident → Bool
is_full v i = (length v.snapshots == MOST_SNAPSHOTS) || ((i.seq == 2 * v.next) && (v.next == LAST_NUMBER))

-- the volume has a snapshot of each identity
abbrev pub has_each : List Snapshot → List Ident → Bool
has_each snapshots idents = list_all (has snapshots) idents

-- more snapshots than a volume may have
abbrev pub are_too_many : List Snapshot → Bool
are_too_many snapshots = nat_lt MOST_SNAPSHOTS (length snapshots)

-- the least number that no image of the volume uses
pub record IsLeastFree (v : Volume) (n : ℕ) : Type 0 where
  pub from_one : 1 ≤ n
  pub within : n ≤ v.physical
  pub unused : stands n (tags_of v) ≡ false
  pub least : (m : ℕ) → 1 ≤ m → m < n → stands m (tags_of v) ≡ true

-- The order of the tests: the first that holds is the refusal. What a refusal is differs from layer to layer.
abbrev pub to_clients : {R : Type 0} → R → Volume → Option R → Option R
to_clients read_only v later = if is_rw v.kind then later else Some read_only

abbrev pub write_tests : {R : Type 0} → R → R → R → Volume → ℕ → Option R
write_tests read_only bad_block no_space v at = to_clients read_only v (
    if is_past v at then Some bad_block else
    if is_used_up v then Some no_space else None)

abbrev pub snapshot_tests : {R : Type 0} → R → R → R → Volume → Ident → List ℕ → Option R
snapshot_tests read_only name_taken full v i name = to_clients read_only v (
    if has_name v.snapshots name then Some name_taken else
    if is_full v i then Some full else None)
