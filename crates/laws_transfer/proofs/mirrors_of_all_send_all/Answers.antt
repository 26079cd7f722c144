use Rattle.laws_transfer.proofs.Sent.{all_send_all}
use Rattle.laws_transfer.proofs.mirrors_of_all_send_all.Goals as goal

pub returns : goal.returns
returns c = all_send_all
