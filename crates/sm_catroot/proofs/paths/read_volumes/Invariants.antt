use Rattle.std.proofs.Common.{◌≡◌, ◌-◌}
use Rattle.sm_fields.specs.Format.{in_turn}
use Rattle.sm_fields.specs.Reading.{read}
use Rattle.sm_fields.proofs.InTurn.{with_front}
use Rattle.sm_catroot.specs.Layout.{placed, volumes}
use Rattle.sm_catroot.proofs.paths.read_volumes.Given as goal

abbrev pub invariant-loop : goal.invariant-loop
invariant-loop l = with_front l.volumes.items (read (in_turn placed l.volumes.items (l.count - l.counter)) l.reader) ≡ read (volumes l.count) l.fn.reader
