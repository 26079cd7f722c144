use Rattle.std.proofs.Common.{arith, ap, Some, ◌≤◌, ◌+◌, ◌∙◌, sym, length}
use Rattle.sm_stream.proofs.Streams.{given}
use Rattle.sm_stream.proofs.memory_source.MemSourceSource.read.Goals as goal

pub returns-clause-taken : goal.returns-clause-taken
returns-clause-taken c =
    let s = c.self.inside in
    let h = rw c.deref-2.ensures.value at c.copy_from_slice.ensures.after in
    let fits : s.at + c.min-n.result ≤ length s.bytes.items = omega (arith, s.bytes.ok.0) in
    ap (λ v. Some v.bytes) (sym c.self.view_is) ∙ ap Some (given c.min-n.result s.at s.bytes.items c.args.into.now _ fits h)
