use Rattle.std.proofs.Common.{subst}
use Rattle.sm_core.specs.Kept.{Kept, Stands}
use Rattle.sm_core.proofs.catalogue.Catalogue.told.Goals as goal

pub returns : goal.returns
returns g c = subst (λ (k : Kept _). Stands g.D.Disk.state k.world k.node) c.self.view_is c.stands.ensures
