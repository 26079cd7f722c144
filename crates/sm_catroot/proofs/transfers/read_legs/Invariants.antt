use Rattle.std.proofs.Common.{◌≡◌, ◌-◌, length}
use Rattle.sm_fields.specs.Format.{in_turn}
use Rattle.sm_fields.specs.Reading.{read}
use Rattle.sm_fields.proofs.InTurn.{with_front}
use Rattle.sm_catroot.specs.Layout.{legs, leg}
use Rattle.sm_catroot.proofs.transfers.read_legs.Given as goal

abbrev pub invariant-loop-place : goal.invariant-loop-place
invariant-loop-place l = record {
  so_far : with_front l.idents.items (read (in_turn (leg l.source.0 l.head l.count) l.idents.items (l.count - l.place)) l.reader) ≡ read (legs l.source.0 l.head l.count) l.fn.reader;
  long : length l.idents.items ≡ l.place;
}
