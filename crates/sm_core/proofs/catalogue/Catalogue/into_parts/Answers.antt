use Rattle.std.proofs.Common.{subst, ℕ}
use Rattle.sm_node.specs.HandedBack.{AreInPlaces}
use Rattle.sm_node.specs.Counted.{HasCounted}
use Rattle.sm_core.specs.FaultsRise.{DisksHaveCounted}
use Rattle.sm_core.specs.Kept.{Kept}
use Rattle.sm_core.proofs.CountsKept.{handed_back}
use Rattle.sm_core.proofs.Shows.{stands_at}
use Rattle.sm_core.proofs.catalogue.Catalogue.into_parts.Goals as goal

pub returns-clause-places : goal.returns-clause-places
returns-clause-places g c = subst (λ (k : Kept _). AreInPlaces k.node c.into_disks.result.items) c.self.view_is c.into_disks.ensures

pub returns-clause-stands : goal.returns-clause-stands
returns-clause-stands g c =
    stands_at g.D.Disk.state c.args.self.world c.args.self.node c.into_disks.result.items
    (subst (λ (k : Kept _). AreInPlaces k.node c.into_disks.result.items) c.self.view_is c.into_disks.ensures) c.told.ensures

pub returns-clause-counts : goal.returns-clause-counts
returns-clause-counts g c =
    let state = g.D.Disk.state in
    let disks = c.into_disks.result.items in
    subst (λ (k : Kept _). (counts : ℕ → ℕ) → HasCounted state counts k.node → DisksHaveCounted state counts disks) c.self.view_is
    (λ counts has. handed_back state c.self.inside.node c.told-2.ensures.node.laid_out counts disks c.into_disks.ensures has)
