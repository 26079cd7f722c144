use Rattle.std.proofs.Common.{◌≡◌, ◌-◌}
use Rattle.sm_fields.specs.Format.{in_turn}
use Rattle.sm_fields.specs.Reading.{read}
use Rattle.sm_fields.proofs.InTurn.{with_front}
use Rattle.sm_catroot.specs.Layout.{last_number, next_relation, relations}
use Rattle.sm_catroot.proofs.relations.read_relations.Given as goal

abbrev pub invariant-loop : goal.invariant-loop
invariant-loop l = record {
  so_far : with_front l.relations.items (read (in_turn next_relation l.relations.items (l.count - l.counter)) l.reader) ≡ read (relations l.count) l.fn.reader;
  last : l.last ≡ last_number l.relations.items;
}
