use Rattle.laws_transfer.proofs.Landed.{overwrites_nothing}
use Rattle.laws_transfer.proofs.landing_overwrites_nothing.Goals as goal

pub returns : goal.returns
returns c = overwrites_nothing
