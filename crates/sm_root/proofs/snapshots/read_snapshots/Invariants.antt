use Rattle.std.proofs.Common.{◌≡◌, ◌-◌, map}
use Rattle.sm_fields.specs.Format.{in_turn}
use Rattle.sm_fields.specs.Reading.{read}
use Rattle.sm_fields.proofs.InTurn.{with_front}
use Rattle.sm_root.specs.Condition.{map_of}
use Rattle.sm_root.specs.ByTable.{after_maps, snapshot_by_table, snapshots_by_table}
use Rattle.sm_root.specs.Known.{Knows}
use Rattle.sm_root.proofs.snapshots.read_snapshots.Given as goal

abbrev pub invariant-loop : goal.invariant-loop
invariant-loop l = record {
  so_far : with_front l.snapshots.items (read (in_turn (snapshot_by_table l.fn.table l.logical) l.snapshots.items (l.count - l.counter)) l.reader) ≡ read (snapshots_by_table l.fn.table l.logical l.count) l.fn.reader;
  after : l.table ≡ after_maps l.fn.table (map map_of l.snapshots.items);
  knows : Knows l.snapshots.items l.idents;
}
