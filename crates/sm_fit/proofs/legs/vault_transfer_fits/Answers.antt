use Rattle.std.proofs.Common.{◌≡◌, map, sym, ap}
use Rattle.sm_defs.specs.Relationship.{Relationship, Transfer}
use Rattle.sm_defs.specs.Volume.{free}
use Rattle.sm_defs.specs.World.{volume_at}
use Rattle.sm_model.specs.Running.{running_in}
use Rattle.sm_shape.specs.Blank.{blank, blank_snapshot}
use Rattle.sm_shape.proofs.Tests.{and_so}
use Rattle.sm_fit.specs.Maps.{base_map}
use Rattle.sm_fit.proofs.VaultLemmas.{vault_shipped}
use Rattle.sm_fit.proofs.legs.vault_transfer_fits.Goals as goal

pub returns : goal.returns
returns c =
    let w = blank c.args.world.now in
    let r = c.args.relation.now in
    let t = c.args.transfer.now in
    let ss = c.snapshots_at-source.result.now in
    let ds = c.snapshots_at-destination.result.now in
    let base = c.base_map-base.result.now in
    let from : r.source ≡ c.relation.inside.source.0 = ap (λ (q : Relationship). q.source) (sym c.relation.view_is) in
    let to : r.destination ≡ c.relation.inside.destination.0 = ap (λ (q : Relationship). q.destination) (sym c.relation.view_is) in
    let base_of : r.base ≡ c.relation.inside.base = ap (λ (q : Relationship). q.base) (sym c.relation.view_is) in
    let legs : c.transfer.inside.legs.items ≡ t.legs = ap (λ (q : Transfer). q.legs) c.transfer.view_is in
    let source : map blank_snapshot ss ≡ (volume_at w r.source).snapshots = rw (c.deref.ensures.value, ← from) at c.snapshots_at-source.ensures in
    let destination : map blank_snapshot ds ≡ (volume_at w r.destination).snapshots = rw (c.deref-2.ensures.value, ← to) at c.snapshots_at-destination.ensures in
    let base_is : base ≡ base_map ss r.base = rw (← base_of) at c.base_map-base.ensures in
    let blocks : c.in_ok-free.free ≡ free (volume_at w r.destination) = rw (c.deref-3.ensures.value, ← to) at c.in_ok-free.ensures in
    and_so (rw (c.deref-4.ensures.value, legs) at c.first_fits-fits.ensures)
    (vault_shipped (running_in w r t) ss ds base c.in_ok-free.free source destination c.requires.kind base_is blocks)
