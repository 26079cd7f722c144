use Rattle.std.proofs.Common.{◌≡◌, ◌++◌, take}
use Rattle.std.specs.List.{flat_map}
use Rattle.sm_catroot.specs.Spelling.{relation_digits}
use Rattle.sm_catroot.proofs.writing.write_each_relation.Given as goal

abbrev pub invariant-loop-relation : goal.invariant-loop-relation
invariant-loop-relation l = l.writer ≡ l.fn.writer ++ flat_map relation_digits (take l.relation-index l.relations)
