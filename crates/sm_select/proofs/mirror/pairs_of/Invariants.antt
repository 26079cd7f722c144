use Rattle.std.proofs.Common.{◌≡◌, ◌≤◌, ◌++◌, ◌-◌, length, map}
use Rattle.sm_select.specs.Planned.{members, twice}
use Rattle.sm_select.proofs.MemberLemmas.{members_above}
use Rattle.sm_select.proofs.mirror.pairs_of.Given as goal

abbrev pub invariant-loop-number : goal.invariant-loop-number
invariant-loop-number l = record {
  inside : l.from ≤ length l.set;
  pairs : l.pairs.items ++ map twice (members_above l.set l.from) ≡ map twice (members l.set);
}

abbrev pub decreases-loop-number : goal.decreases-loop-number
decreases-loop-number l = length l.set - l.from
