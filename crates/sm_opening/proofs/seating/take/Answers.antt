use Rattle.std.proofs.Common.{Some, sym, ap, ◌∙◌}
use Rattle.std.proofs.lemmas.Option.{none-some, get_or_from_slice_get}
use Rattle.sm_opening.proofs.seating.take.Goals as goal

pub unreachable-requires : goal.unreachable-requires
unreachable-requires g c =
    let is = get_or_from_slice_get c.args.spares.now c.args.number (Some c.requires.there.0) c.index-spares-number.result c.requires.there.1 in
    none-some c.requires.there.0 (sym c.in_default.is ∙ c.take.ensures.value ∙ is)

pub returns-clause-taken : goal.returns-clause-taken
returns-clause-taken g c =
    let is = get_or_from_slice_get c.args.spares.now c.args.number (Some c.requires.there.0) c.index-spares-number.result c.requires.there.1 in
    c.requires.there.1 ∙ ap Some (sym is ∙ sym c.take.ensures.value ∙ c.in-Some.is)
