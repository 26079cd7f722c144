use Rattle.laws_transfer.proofs.Sent.{vault_sends}
use Rattle.laws_transfer.proofs.vaults_send_by_rule.Goals as goal

pub returns : goal.returns
returns c = vault_sends
