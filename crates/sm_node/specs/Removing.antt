-- Which snapshot a client deletes, or the refusal.
use Rattle.std.specs.Prelude.{ℕ, List, Result, Ok}
use Rattle.sm_base.specs.declared.numbers.Ident.{Ident}
use Rattle.sm_base.specs.declared.refusal.Refusal.{Refusal}
use Rattle.sm_base.specs.declared.refusal.Refusal.TheVariants as refusals
use Rattle.sm_defs.specs.Operations.{is_read_only}
use Rattle.sm_defs.specs.Volume.{Volume}
use Rattle.sm_defs.specs.Needed.{holder}
use Rattle.sm_defs.specs.World.{Up}
use Rattle.sm_model.specs.Answers.{◌>>=◌, ◌>>◌, ◌when◌}
use Rattle.sm_model.specs.OfVolumes.{snapshot_named, held}

-- of the volume of this number: its newest snapshot of the name, which nobody needs
abbrev pub removal : Up → ℕ → Volume → List ℕ → Result Ident Refusal
removal w number v name = do
  s ← snapshot_named v name
  refusals.ReadOnly when is_read_only v
  held (holder w number s.ident)
  Ok s.ident
