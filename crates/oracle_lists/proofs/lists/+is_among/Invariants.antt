use Rattle.std.proofs.Common.{length}
use Rattle.oracle_lists.proofs.lists.+is_among.Given as goal

abbrev pub decreases-is_among : goal.decreases-is_among
decreases-is_among l = length l.idents.now
