use Rattle.sm_defs.specs.Common.{common}
use Rattle.oracle_relations.proofs.Onward.{of_one}
use Rattle.oracle_relations.proofs.transfers.common_of.Goals as goal

pub returns : goal.returns
returns c = of_one (common c.args.source.now c.args.destination.now) c.common.result c.common.ensures
