use Rattle.std.proofs.Common.{◌∙◌, sym}
use Rattle.sm_shape.proofs.UnmadeLemmas.{source_lacks, source_is}
use Rattle.sm_shape.proofs.unmade.source_has.Goals as goal

pub returns-then-at-volumes : goal.returns-then-at-volumes
returns-then-at-volumes c = sym (source_lacks c.args.volumes.now c.args.source c.args.number c.if-at-volumes.true)

pub returns : goal.returns
returns c =
    c.volume_has.ensures ∙ sym (source_is c.args.volumes.now c.args.source c.args.number c.index-volumes-at.result c.if-at-volumes.false c.index-volumes-at.is)
