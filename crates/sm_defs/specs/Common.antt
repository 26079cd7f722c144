-- The newest common snapshot.
use Rattle.std.specs.Prelude.{List, Option}
use Rattle.sm_defs.specs.Words.{last_that}
use Rattle.sm_defs.specs.Volume.{Snapshot, has}

-- the last of the destination's list that the source has, whatever the source's order
abbrev pub common : List Snapshot → List Snapshot → Option Snapshot
common source destination = last_that (λ s. has source s.ident) destination
