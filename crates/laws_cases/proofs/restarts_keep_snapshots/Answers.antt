use Rattle.laws_cases.proofs.Needed.NeedsStay.{restarts_keep_snapshots}
use Rattle.laws_cases.proofs.restarts_keep_snapshots.Goals as goal

pub returns : goal.returns
returns c = restarts_keep_snapshots
