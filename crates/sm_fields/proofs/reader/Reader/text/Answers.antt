use Rattle.std.proofs.Common.{arith}
use Rattle.sm_fields.proofs.Sizes.{IsBytes-drop, IsBytes-rest}
use Rattle.sm_fields.proofs.reader.Reader.text.Goals as goal

pub invariant_of-self : goal.invariant_of-self
invariant_of-self c =
    let fits = rw c.in-Some.ensures.cases.0 at c.self.invariant.1 in
    (omega (arith, c.in-Some.ensures.cases.1, c.split_at.ensures.back_len, c.self.invariant.0), rw c.split_at.ensures.back (IsBytes-drop _ _ (IsBytes-rest _ _ fits)))
