use Rattle.std.proofs.Common.{◌≡◌, take, map}
use Rattle.sm_opening.specs.Bare.{bare_relation}
use Rattle.sm_opening.proofs.worlds.world_relations.Given as goal

abbrev pub invariant-loop-relation : goal.invariant-loop-relation
invariant-loop-relation l = l.list.items ≡ map bare_relation (take l.relation-index l.relations)
