use Rattle.std.proofs.Common.{append_assoc, refl}
use Rattle.sm_report.proofs.refusal_text.fields_of.Goals as goal

pub returns-in_ok-format-in-HeldDownstream : goal.returns-in_ok-format-in-HeldDownstream
returns-in_ok-format-in-HeldDownstream c = simp (c.in-HeldDownstream.is, c.in_ok-format-in-HeldDownstream.ensures.ok, append_assoc) refl
