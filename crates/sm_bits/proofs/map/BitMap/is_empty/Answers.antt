use Rattle.std.proofs.Common.{length, sym, ap, ◌∙◌, eqb}
use Rattle.sm_bits.proofs.Marks.{length-marks}
use Rattle.sm_bits.proofs.map.BitMap.is_empty.Goals as goal

pub returns : goal.returns
returns c = ap (λ n. eqb n 0) (sym (length-marks c.self.inside.places c.self.inside.words.items) ∙ ap length c.self.view_is)
