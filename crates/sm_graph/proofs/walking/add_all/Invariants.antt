use Rattle.std.proofs.Common.{◌≡◌, nat_eq, take}
use Rattle.indexmap.specs.IndexSet.{insert_all, IsUnique}
use Rattle.sm_graph.proofs.walking.add_all.Given as goal

abbrev pub invariant-loop-volume : goal.invariant-loop-volume
invariant-loop-volume l = (l.found.keys ≡ insert_all nat_eq l.initial.found.keys (take l.volume-index l.volumes)) × (IsUnique nat_eq l.initial.found → IsUnique nat_eq l.found)
