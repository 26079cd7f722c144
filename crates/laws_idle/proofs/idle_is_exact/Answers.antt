use Rattle.laws_idle.proofs.Idling.{idle_is_exact}
use Rattle.laws_idle.proofs.idle_is_exact.Goals as goal

pub returns : goal.returns
returns c w a s = idle_is_exact w a s (λ r t m e. (s.transfers_stand r t m e).ends)
