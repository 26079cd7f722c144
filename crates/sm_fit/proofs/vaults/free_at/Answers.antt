use Rattle.sm_defs.proofs.Members.{among_map}
use Rattle.sm_shape.specs.Blank.{blank_volume}
use Rattle.sm_shape.proofs.ListWords.{among_read}
use Rattle.sm_fit.proofs.vaults.free_at.Goals as goal

pub free_on-requires : goal.free_on-requires
free_on-requires c =
    let vs = c.args.volumes.now in
    let v = c.index-volumes-at.result in
    c.requires (blank_volume v) (among_map blank_volume vs v (among_read vs c.args.place v c.if-at-volumes.false c.index-volumes-at.is))
