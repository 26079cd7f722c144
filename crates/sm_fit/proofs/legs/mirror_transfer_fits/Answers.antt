use Rattle.std.proofs.Common.{◌≡◌, ◌+◌, map, sym, ap, subst}
use Rattle.std.specs.List.{flat_map}
use Rattle.sm_defs.specs.Relationship.{Relationship}
use Rattle.sm_defs.specs.World.{volume_at}
use Rattle.sm_model.specs.Running.{running_in}
use Rattle.sm_shape.specs.Blank.{blank, blank_snapshot}
use Rattle.sm_shape.specs.Marks.{AtOnePlace, one_map}
use Rattle.sm_shape.proofs.Tests.{and_so}
use Rattle.sm_fit.proofs.BlankLemmas.{tags_at, one_place_in}
use Rattle.sm_fit.proofs.MirrorLemmas.{mirror_shipped}
use Rattle.sm_fit.proofs.legs.mirror_transfer_fits.Goals as goal

pub snapshots_table-requires : goal.snapshots_table-requires
snapshots_table-requires c =
    let w = blank c.args.world.now in
    let r = c.args.relation.now in
    let v = volume_at w r.destination in
    let ds = c.snapshots_at-destination.result.now in
    let to : r.destination ≡ c.relation.inside.destination.0 = ap (λ (q : Relationship). q.destination) (sym c.relation.view_is) in
    let are : map blank_snapshot ds ≡ v.snapshots = rw (c.deref-2.ensures.value, ← to) at c.snapshots_at-destination.ensures in
    let most : c.physical_at-physical.result ≡ v.physical = rw (c.deref-3.ensures.value, ← to) at c.physical_at-physical.ensures in
    subst (λ n. AtOnePlace (n + 1) (flat_map one_map ds)) (sym most) (one_place_in v ds are (tags_at w c.requires.tags r.destination))

pub returns : goal.returns
returns c =
    let w = blank c.args.world.now in
    let r = c.args.relation.now in
    let ss = c.snapshots_at-source.result.now in
    let ds = c.snapshots_at-destination.result.now in
    let from : r.source ≡ c.relation.inside.source.0 = ap (λ (q : Relationship). q.source) (sym c.relation.view_is) in
    let to : r.destination ≡ c.relation.inside.destination.0 = ap (λ (q : Relationship). q.destination) (sym c.relation.view_is) in
    let source : map blank_snapshot ss ≡ (volume_at w r.source).snapshots = rw (c.deref.ensures.value, ← from) at c.snapshots_at-source.ensures in
    let destination : map blank_snapshot ds ≡ (volume_at w r.destination).snapshots = rw (c.deref-2.ensures.value, ← to) at c.snapshots_at-destination.ensures in
    and_so (rw c.deref-4.ensures.value at c.mirror_fits-fits.ensures)
    (mirror_shipped (running_in w r c.args.transfer.now) (c.physical_at-physical.result + 1) c.in_ok-table.table.items ss ds c.in_ok-table.ensures source destination c.requires.kind
    (one_place_in (volume_at w r.source) ss source (tags_at w c.requires.tags r.source)).one_place)
