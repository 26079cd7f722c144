use Rattle.sm_transfer.proofs.KeepLemmas.{checkpoint_keeps}
use Rattle.sm_transfer.proofs.laws.checkpoint_keeps_what_landed.Goals as goal

pub returns : goal.returns
returns g c = checkpoint_keeps g.D.Disk.state
