-- Which kind of step a plain value stands for.
use Rattle.std.specs.Prelude.{Option, None, Some, if◌then◌else◌}
use Rattle.sm_base.specs.declared.numbers.Ident.{Ident}
use Rattle.sm_model.specs.Running.{Running}
use Rattle.sm_model.specs.Steps.{snapshot_of}
use Rattle.sm_model.specs.Due.{StepKind, revert, finish, settle, prepare, prune, publish, checkpoint, ship, lacks_reserved, reserved_leg, kind_at_source}
use Rattle.oracle_steps.specs.declared.kinds.PlainKind.{PlainKind}
use Rattle.oracle_steps.specs.declared.kinds.PlainKind.TheVariants as kinds

abbrev pub kind_of : PlainKind → StepKind
kind_of (kinds.Revert base) = revert base
kind_of (kinds.Finish base) = finish base
kind_of (kinds.Settle ident later) = settle ident later.items
kind_of (kinds.Prepare ident) = prepare ident
kind_of kinds.Prune = prune
kind_of (kinds.Publish leg) = publish leg
kind_of kinds.Checkpoint = checkpoint
kind_of (kinds.Ship leg) = ship leg

abbrev pub kind_if : Option PlainKind → Option StepKind
kind_if None = None
kind_if (Some kind) = Some (kind_of kind)

-- of a first leg that the destination lacks
abbrev pub kind_ahead : Running → Ident → Option StepKind
kind_ahead x leg = if lacks_reserved x then Some (prepare (reserved_leg x)) else kind_at_source x (snapshot_of x.source.snapshots (Some leg))
