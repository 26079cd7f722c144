use Rattle.std.proofs.Common.{◌≡◌}
use Rattle.sm_base.specs.declared.numbers.Kind.TheVariants.{Dp}
use Rattle.sm_defs.specs.Volume.{Volume}
use Rattle.sm_model.specs.DestinationsStand.{StandsAtBase, StandsAtSnapshot}
use Rattle.sm_model.specs.declared.world.WorldVolume.{WorldVolume}
use Rattle.sm_shape.specs.Blank.{blank_volume, having}
use Rattle.sm_shape.proofs.ListWords.{all_among, among_all, each_image, image_each}
use Rattle.sm_shape.proofs.Tests.{first_fails, both_hold}
use Rattle.sm_shape.proofs.bases.destinations_stand.Goals as goal

abbrev Stands : Volume → Type 0
Stands v = v.kind ≡ Dp → StandsAtSnapshot v

abbrev StandsMaps : WorldVolume → Type 0
StandsMaps v = v.kind ≡ Dp → StandsAtSnapshot (blank_volume v)

pub returns-then-not-volumes_stand : goal.returns-then-not-volumes_stand
returns-then-not-volumes_stand c =
    let vs = c.args.world.now.volumes.items in
    first_fails c.volumes_stand.result c.if-not-volumes_stand.true (rw c.deref.ensures.value at c.volumes_stand.ensures)
    (λ d. among_all StandsMaps vs (image_each blank_volume Stands vs d.volumes))

pub returns : goal.returns
returns c =
    let vs = c.args.world.now.volumes.items in
    let rs = c.args.world.now.relations.items in
    both_hold c.volumes_stand.result c.all_at_base.result c.if-not-volumes_stand.false (rw c.deref.ensures.value at c.volumes_stand.ensures)
    (rw (c.deref-2.ensures.value, c.deref-3.ensures.value) at c.all_at_base.ensures)
    (λ a b. record {
      volumes = each_image blank_volume Stands vs (all_among StandsMaps vs a);
      bases = all_among (StandsAtBase (having vs)) rs b;
    })
    (λ d. among_all (StandsAtBase (having vs)) rs d.bases)
