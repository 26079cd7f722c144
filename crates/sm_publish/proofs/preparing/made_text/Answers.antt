use Rattle.std.proofs.Common.{append_assoc, refl}
use Rattle.sm_publish.proofs.preparing.made_text.Goals as goal

pub returns : goal.returns
returns c = simp (c.in_ok-format.ensures.ok, append_assoc) refl
