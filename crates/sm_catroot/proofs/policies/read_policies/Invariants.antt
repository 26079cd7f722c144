use Rattle.std.proofs.Common.{◌≡◌, ◌-◌}
use Rattle.sm_fields.specs.Format.{in_turn}
use Rattle.sm_fields.specs.Reading.{read}
use Rattle.sm_fields.proofs.InTurn.{with_front}
use Rattle.sm_catroot.specs.Layout.{policy, policies}
use Rattle.sm_catroot.proofs.policies.read_policies.Given as goal

abbrev pub invariant-loop : goal.invariant-loop
invariant-loop l = with_front l.policies.items (read (in_turn policy l.policies.items (l.count - l.counter)) l.reader) ≡ read (policies l.count) l.fn.reader
