-- Where nothing is transferred nothing was shipped.
use Rattle.std.proofs.Common.{◌≡◌, sym, ◌∙◌}
use Rattle.std.specs.Prelude.{Some, None}
use Rattle.sm_defs.specs.Relationship.{Transfer}
use Rattle.sm_defs.specs.World.{Up}
use Rattle.sm_model.specs.LegsFit.{LegsFit}
use Rattle.sm_shape.specs.Interim.{IsInterim}

none_some : (t : Transfer) → None ≡ Some t → ⊥
none_some t e = absurd cc

pub nothing_shipped : (w : Up) → IsInterim w → LegsFit w
nothing_shipped w interim r t a is = absurd (none_some t (sym (interim.relations r a).transfer ∙ is))
