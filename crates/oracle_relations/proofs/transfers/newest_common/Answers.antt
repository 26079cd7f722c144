use Rattle.std.proofs.Common.{List, subst}
use Rattle.sm_defs.specs.Common.{common}
use Rattle.sm_defs.specs.Volume.{Snapshot}
use Rattle.sm_defs.specs.World.{volume_at}
use Rattle.oracle_relations.specs.Targets.{IsOfOne}
use Rattle.oracle_relations.proofs.transfers.newest_common.Goals as goal

pub returns : goal.returns
returns c =
    let there = (volume_at c.args.world.now c.args.destination).snapshots in
    subst (λ (ss : List Snapshot). IsOfOne (common ss there) c.common_of.result) c.source_snapshots.ensures
    (subst (λ (ds : List Snapshot). IsOfOne (common c.source_snapshots.result.now ds) c.common_of.result) c.snapshots_at.ensures c.common_of.ensures)
