use Rattle.std.proofs.Common.{◌≡◌, ◌-◌, length}
use Rattle.sm_fields.specs.Format.{in_turn}
use Rattle.sm_fields.specs.Reading.{read}
use Rattle.sm_fields.proofs.InTurn.{with_front}
use Rattle.sm_root.specs.ByTable.{after_map, map_by_table}
use Rattle.sm_root.proofs.Entries.{next_entry}
use Rattle.sm_root.proofs.maps.read_map.Given as goal

abbrev pub invariant-loop-place : goal.invariant-loop-place
invariant-loop-place l = record {
  so_far : with_front l.numbers.items (read (in_turn (next_entry l.fn.table) l.numbers.items (l.logical - l.place)) l.reader) ≡ read (map_by_table l.fn.table l.logical) l.fn.reader;
  after : l.table ≡ after_map l.fn.table 0 l.numbers.items;
  long : length l.numbers.items ≡ l.place;
}
