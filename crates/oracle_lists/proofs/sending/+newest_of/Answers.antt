use Rattle.std.proofs.Common.{sym, arith}
use Rattle.oracle_lists.proofs.FirstOf.{newest_of_one}
use Rattle.oracle_lists.proofs.sending.+newest_of.Goals as goal

pub returns-in-len1 : goal.returns-in-len1
returns-in-len1 t c = sym (newest_of_one c.args.snapshots.now (omega arith))
