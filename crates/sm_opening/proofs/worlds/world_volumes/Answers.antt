use Rattle.std.proofs.Common.{◌≡◌, ◌∙◌, [], ◌∷◌, ◌++◌, length, map, ap, length-append, add-one, rules}
use Rattle.std.proofs.lemmas.Slice.Zip.{zip_turn, zip_end}
use Rattle.sm_shape.specs.Blank.{blank_volume}
use Rattle.sm_opening.specs.Bare.{bare_volume}
use Rattle.sm_opening.proofs.BareLemmas.{volumes_more, volumes_all}
use Rattle.sm_opening.proofs.worlds.world_volumes.Goals as goal

pub loop-placed-preserved : goal.loop-placed-preserved
loop-placed-preserved c =
    let p = c.in-Some.placed.now in
    let f = c.in-Some.found.now in
    let turn = zip_turn c.args.placed.now c.args.founds.now c.loop-placed.yielded c.into_iter-placed-iterator.result c.loop-placed.placed-iterator c.next.new.self c.next.result (search rules) (search rules) c.loop-placed.yielded_by (c.in-Some.placed, c.in-Some.found) c.in-Some.is c.next.ensures.steps in
    let items : c.push.new.self.items ≡ c.loop-placed.list.items ++ c.in_ok-world_volume.field-0 ∷ [] = c.in_ok-push.ensures.items in
    ap (map blank_volume) items
    ∙ volumes_more c.args.placed.now c.args.founds.now c.loop-placed.list.items c.in_ok-world_volume.field-0 (length c.loop-placed.yielded) (length (c.loop-placed.yielded ++ (c.in-Some.placed, c.in-Some.found) ∷ [])) p f
    c.loop-placed.invariant (c.in_ok-world_volume.ensures ∙ ap (bare_volume p) c.root.ensures.value) turn.0 turn.1 (turn.2 p) (turn.3 f) (length-append c.loop-placed.yielded ((c.in-Some.placed, c.in-Some.found) ∷ []) ∙ add-one (length c.loop-placed.yielded))

pub returns : goal.returns
returns c =
    c.loop-placed.invariant ∙ volumes_all c.args.placed.now c.args.founds.now (length c.loop-placed.yielded)
    (zip_end c.args.placed.now c.args.founds.now c.loop-placed.yielded c.into_iter-placed-iterator.result c.loop-placed.placed-iterator c.next.new.self c.next.result (search rules) (search rules) c.loop-placed.yielded_by c.in-None.is c.next.ensures.steps)
