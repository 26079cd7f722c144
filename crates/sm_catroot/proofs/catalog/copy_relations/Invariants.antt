use Rattle.std.proofs.Common.{◌≡◌, take}
use Rattle.sm_catroot.proofs.catalog.copy_relations.Given as goal

abbrev pub invariant-loop-relation : goal.invariant-loop-relation
invariant-loop-relation l = l.copy.items ≡ take l.relation-index l.relations
