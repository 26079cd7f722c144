use Rattle.sm_slots.proofs.Spelled.{byte_read}
use Rattle.sm_slots.proofs.read_selector.Goals as goal

pub returns-clause-byte : goal.returns-clause-byte
returns-clause-byte g c = λ told. byte_read _ _ (c.in_ok-read.ensures.bytes told)
