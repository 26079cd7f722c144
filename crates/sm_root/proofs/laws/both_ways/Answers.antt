use Rattle.sm_root.proofs.RootSpelled.{record_only, record_again}
use Rattle.sm_root.proofs.Round.{one_value, written_is_read, spelling_short}
use Rattle.sm_root.proofs.laws.both_ways.Goals as goal

pub returns-clause-spelled : goal.returns-clause-spelled
returns-clause-spelled c r bytes small = ((λ s. record_only r bytes s), (λ p. record_again r bytes p.0 small p.1))

pub returns-clause-one_value : goal.returns-clause-one_value
returns-clause-one_value c r s a b e = one_value r s a b e

pub returns-clause-written_is_read : goal.returns-clause-written_is_read
returns-clause-written_is_read c r is = written_is_read r is

pub returns-clause-short : goal.returns-clause-short
returns-clause-short c r is = spelling_short r is
