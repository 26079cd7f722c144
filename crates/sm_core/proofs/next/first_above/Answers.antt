use Rattle.std.proofs.Common.{◌<◌, ◌≤◌, map, Some, sym, ap, ◌∙◌, arith}
use Rattle.std.proofs.lemmas.List.{length-map}
use Rattle.std.proofs.lemmas.Option.{slice_get-get_or, slice_get_within}
use Rattle.sm_catroot.specs.Condition.{number_of}
use Rattle.sm_node.proofs.Lists.{mapped_to}
use Rattle.sm_core.proofs.Least.{least_at, one_more, none_above}
use Rattle.sm_core.proofs.next.first_above.Goals as goal

pub returns-then-relation-after : goal.returns-then-relation-after
returns-then-relation-after c =
    let rs = c.args.relations.now in
    let k = c.loop-relation.relation-index in
    let r = c.relation-item.result in
    let there = slice_get-get_or rs k r c.loop-relation-test.true ∙ ap Some (sym c.relation-item.is) in
    least_at (map number_of rs) c.args.after k (number_of r) c.requires c.loop-relation.invariant (mapped_to number_of rs k r there) c.if-relation-after.true

pub loop-relation-preserved : goal.loop-relation-preserved
loop-relation-preserved c =
    let rs = c.args.relations.now in
    let k = c.loop-relation.relation-index in
    let r = c.relation-item.result in
    let there = slice_get-get_or rs k r c.loop-relation-test.true ∙ ap Some (sym c.relation-item.is) in
    let low : number_of r ≤ c.args.after = omega (arith, c.if-relation-after.false) in
    one_more (map number_of rs) c.args.after k (number_of r) c.loop-relation.invariant (mapped_to number_of rs k r there) low

pub returns : goal.returns
returns c =
    let rs = c.args.relations.now in
    none_above (map number_of rs) c.args.after (λ j m e.
    let within = slice_get_within (map number_of rs) j m e in
    let long = length-map rs number_of in
    let end = c.loop-relation-test.false in
    let lt : j < c.loop-relation.relation-index = omega (arith, within, long, end) in
    c.loop-relation.invariant j m lt e)
