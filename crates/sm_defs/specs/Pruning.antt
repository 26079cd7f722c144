-- Which snapshots a mirror drops.
use Rattle.std.specs.Prelude.{◌==◌, ◌&&◌, ◌||◌, not, Bool, List}
use Rattle.std.specs.List.{filter}
use Rattle.sm_base.specs.declared.numbers.Ident.{Ident}
use Rattle.sm_defs.specs.Volume.{Snapshot, has}
use Rattle.sm_defs.specs.Relationship.{Policy, sends_all}

-- by a transfer, not by a client
abbrev pub is_made : Snapshot → Bool
is_made s = not (s.maker == 0)

-- the mirror keeps it in step with the source
abbrev pub covered : Policy → Snapshot → Bool
covered policy s = sends_all policy || is_made s

-- nobody needs it, and it is missing on the source or not covered
abbrev pub is_pruned : Policy → (Ident → Bool) → List Snapshot → Snapshot → Bool
is_pruned policy needed source s = not (needed s.ident) && (not (has source s.ident) || not (covered policy s))

-- what goes of the destination's list
abbrev pub pruned : Policy → (Ident → Bool) → List Snapshot → List Snapshot → List Snapshot
pruned policy needed source destination = filter (is_pruned policy needed source) destination
