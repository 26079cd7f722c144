use Rattle.std.proofs.Common.{◌≡◌, ◌-◌, List, []}
use Rattle.sm_defs.specs.Relationship.{Rule}
use Rattle.sm_fields.specs.Format.{in_turn}
use Rattle.sm_fields.specs.Reading.{read}
use Rattle.sm_fields.proofs.InTurn.{with_front}
use Rattle.sm_catroot.specs.Layout.{with_rules, next_rule}
use Rattle.sm_catroot.proofs.rules.read_added.Given as goal

abbrev pub invariant-loop : goal.invariant-loop
invariant-loop l = record {
  front : List Rule;
  policy : l.policy ≡ with_rules l.fn.policy front;
  so_far : with_front front (read (in_turn (next_rule l.fn.policy) front (l.count - l.counter)) l.reader) ≡ read (in_turn (next_rule l.fn.policy) [] l.count) l.fn.reader;
}
