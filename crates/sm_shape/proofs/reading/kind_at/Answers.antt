use Rattle.std.proofs.Common.{sym, ap, ◌∙◌}
use Rattle.sm_defs.specs.Volume.{Volume, no_volume}
use Rattle.sm_model.specs.declared.world.WorldVolume.{WorldVolume}
use Rattle.sm_shape.specs.Blank.{blank_volume}
use Rattle.sm_shape.proofs.RulesLemmas.{at_image, past_image}
use Rattle.sm_shape.proofs.reading.kind_at.Goals as goal

pub returns-then-at-volumes : goal.returns-then-at-volumes
returns-then-at-volumes c = sym (ap (λ (v : Volume). v.kind) (past_image blank_volume c.args.volumes.now c.args.place no_volume c.if-at-volumes.true))

pub returns : goal.returns
returns c =
    ap (λ (v : WorldVolume). v.kind) (sym c.index-volumes-at.is)
    ∙ sym (ap (λ (v : Volume). v.kind) (at_image blank_volume c.args.volumes.now c.args.place c.index-volumes-at.result no_volume c.if-at-volumes.false c.index-volumes-at.is))
