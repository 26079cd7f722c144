use Rattle.std.proofs.Common.{map, sym, ap, ◌∙◌}
use Rattle.sm_defs.specs.Volume.{Volume, no_volume}
use Rattle.sm_model.specs.declared.world.WorldVolume.{WorldVolume}
use Rattle.sm_shape.specs.Blank.{blank_snapshot, blank_volume}
use Rattle.sm_shape.proofs.RulesLemmas.{at_image, past_image}
use Rattle.sm_shape.proofs.reading.snapshots_at.Goals as goal

pub returns-then-at-volumes : goal.returns-then-at-volumes
returns-then-at-volumes c = sym (ap (λ (v : Volume). v.snapshots) (past_image blank_volume c.args.volumes.now c.args.place no_volume c.if-at-volumes.true))

pub returns : goal.returns
returns c =
    ap (map blank_snapshot) c.deref.ensures.value
    ∙ ap (λ (v : WorldVolume). map blank_snapshot v.snapshots.items) (sym c.index-volumes-at.is)
    ∙ sym (ap (λ (v : Volume). v.snapshots) (at_image blank_volume c.args.volumes.now c.args.place c.index-volumes-at.result no_volume c.if-at-volumes.false c.index-volumes-at.is))
