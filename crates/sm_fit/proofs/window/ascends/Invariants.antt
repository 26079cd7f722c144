use Rattle.std.proofs.Common.{ℕ, suc, ◌<◌, get_or}
use Rattle.sm_fit.proofs.window.ascends.Given as goal

abbrev pub invariant-loop-place : goal.invariant-loop-place
invariant-loop-place l = (j : ℕ) → suc j < l.place → get_or l.landed j 0 < get_or l.landed (suc j) 0
