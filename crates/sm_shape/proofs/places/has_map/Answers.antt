use Rattle.std.proofs.Common.{◌≡◌}
use Rattle.sm_model.specs.declared.world.WorldSnapshot.{WorldSnapshot}
use Rattle.sm_shape.proofs.Each.{found_one, not_this, found_none}
use Rattle.sm_shape.proofs.places.has_map.Goals as goal

pub returns-then-same : goal.returns-then-same
returns-then-same c =
    found_one (λ (s : WorldSnapshot). c.args.numbers.now ≡ s.map.items) c.args.snapshots.now c.loop-snapshot.snapshot-index c.snapshot-item.result c.loop-snapshot-test.true c.snapshot-item.is c.same_map-same.result
    (rw c.deref.ensures.value at c.same_map-same.ensures) c.if-same.true

pub loop-snapshot-preserved : goal.loop-snapshot-preserved
loop-snapshot-preserved c =
    not_this (λ (s : WorldSnapshot). c.args.numbers.now ≡ s.map.items) c.args.snapshots.now c.loop-snapshot.snapshot-index c.snapshot-item.result c.loop-snapshot-test.true c.snapshot-item.is c.same_map-same.result
    (rw c.deref.ensures.value at c.same_map-same.ensures) c.if-same.false c.loop-snapshot.invariant

pub returns : goal.returns
returns c = found_none (λ (s : WorldSnapshot). c.args.numbers.now ≡ s.map.items) c.args.snapshots.now c.loop-snapshot.snapshot-index c.loop-snapshot-test.false c.loop-snapshot.invariant
