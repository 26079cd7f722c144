use Rattle.std.proofs.Common.{subst}
use Rattle.sm_core.specs.Kept.{Kept}
use Rattle.sm_core.specs.Next.{IsNextIn, AreNumbered}
use Rattle.sm_core.proofs.catalogue.Catalogue.next_relation.Goals as goal

pub returns-clause-next : goal.returns-clause-next
returns-clause-next g c = subst (λ (k : Kept _). IsNextIn k.world c.args.after c.next_of.result) c.self.view_is c.next_of.ensures.next

pub returns-clause-order : goal.returns-clause-order
returns-clause-order g c = subst (λ (k : Kept _). AreNumbered k.world) c.self.view_is c.next_of.ensures.order
