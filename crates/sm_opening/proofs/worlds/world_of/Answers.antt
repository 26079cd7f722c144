use Rattle.std.proofs.Common.{map}
use Rattle.sm_opening.specs.Finding.{root_of}
use Rattle.sm_opening.proofs.BareLemmas.{world_read}
use Rattle.sm_opening.proofs.worlds.world_of.Goals as goal

pub returns : goal.returns
returns c = world_read c.args.lengths.now c.args.catalog.now (map root_of c.args.founds.now) c.bare_of.result c.bare_of.ensures
