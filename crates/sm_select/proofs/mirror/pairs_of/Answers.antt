use Rattle.std.proofs.Common.{◌∙◌, ap, map, ◌++◌, ◌+◌, arith}
use Rattle.sm_select.specs.Planned.{members, twice}
use Rattle.sm_select.proofs.MemberLemmas.{members_above, one_more, no_more, within}
use Rattle.sm_select.proofs.mirror.pairs_of.Goals as goal

pub loop-number-preserved : goal.loop-number-preserved
loop-number-preserved c =
    let set = c.args.set.now in
    let n = c.in-Some.number in
    let all = map twice (members set) in
    let less = within set n c.in-Some.ensures.is_in in record {
      inside = omega (arith, less);
      pairs = ap (λ ps. ps ++ map twice (members_above set (n + 1))) c.in_ok-push.ensures.items ∙ one_more set c.loop-number.from n c.loop-number.pairs.items all c.in-Some.ensures c.loop-number.invariant.pairs;
    }

pub returns : goal.returns
returns c = let set = c.args.set.now in no_more set c.loop-number.from c.loop-number.pairs.items (map twice (members set)) c.in_default.ensures c.loop-number.invariant.pairs
