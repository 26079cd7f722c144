-- Snapshots that a root lists.
use Rattle.std.specs.Prelude.{◌≡◌, List, map}
use Rattle.sm_defs.specs.Volume.{Snapshot, idents}
use Rattle.sm_root.specs.declared.root.Root.{Root}
use Rattle.sm_root.specs.Condition.{ident_of}

-- the root has these snapshots, told by their identities
abbrev pub Lists : Root → List Snapshot → Type 0
Lists root ss = map ident_of root.snapshots ≡ idents ss
