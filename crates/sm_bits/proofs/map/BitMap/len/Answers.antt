use Rattle.std.proofs.Common.{length, sym, ap, ◌∙◌}
use Rattle.sm_bits.proofs.Marks.{length-marks}
use Rattle.sm_bits.proofs.map.BitMap.len.Goals as goal

pub returns : goal.returns
returns c = sym (length-marks c.self.inside.places c.self.inside.words.items) ∙ ap length c.self.view_is
