use Rattle.std.proofs.Common.{◌∷◌, ◌++◌, [], refl, ap, ◌∙◌, arith}
use Rattle.std.proofs.lemmas.Option.{slice_get_read}
use Rattle.sm_node.proofs.ShowingLemmas.{table_more, table_ends}
use Rattle.sm_node.proofs.showing.volume_lines.Goals as goal

pub loop-at-preserved : goal.loop-at-preserved
loop-at-preserved g c =
    let places = c.args.places.now in
    let seats = c.args.seats.now in
    let within = c.loop-at-test.true in
    let line = c.in_ok-volume_line.ensures in
    table_more c.loop-at.at _ places seats c.index-places-at.result c.index-seats-at.result c.loop-at.lines.items c.push.new.self.items _ (omega arith)
    (slice_get_read places _ c.loop-at.at c.index-places-at.result refl within c.index-places-at.is)
    (slice_get_read seats _ c.loop-at.at c.index-seats-at.result refl (omega (arith, within, c.requires.as_many)) c.index-seats-at.is)
    c.loop-at.invariant
    (c.in_ok-push.ensures.items ∙ ap (λ l. c.loop-at.lines.items ++ l ∷ []) line)

pub returns : goal.returns
returns g c = table_ends c.loop-at.at c.args.places.now c.args.seats.now c.loop-at.lines.items _ c.loop-at-test.false c.loop-at.invariant
