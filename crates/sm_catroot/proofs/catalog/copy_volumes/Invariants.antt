use Rattle.std.proofs.Common.{◌≡◌, take}
use Rattle.sm_catroot.proofs.catalog.copy_volumes.Given as goal

abbrev pub invariant-loop-placed : goal.invariant-loop-placed
invariant-loop-placed l = l.copy.items ≡ take l.placed-index l.volumes
