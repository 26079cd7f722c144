use Rattle.std.proofs.Common.{◌∙◌, sym}
use Rattle.std.specs.Prelude.{slice_index_or}
use Rattle.sm_base.specs.declared.numbers.Ident.{Ident}
use Rattle.tests_steps.proofs.ReadyLemmas.{begins, first_of}
use Rattle.tests_steps.proofs.beginning.may_begin.Goals as goal

pub returns-else-not-are_alike : goal.returns-else-not-are_alike
returns-else-not-are_alike g c = λ there.
    let zero : Ident = record { origin = 0; seq = 0 } in
    let legs = c.as_slice-legs.result.now in
    let first = first_of legs zero (sym c.is_empty.ensures ∙ c.if-is_empty.false) in
    begins c.args.kind c.args.relation.now c.in-Some.transfer (slice_index_or legs 0 zero) first.0 c.args.source.now.volume c.args.destination.now.volume
    c.in-Some.is c.if-transfer-ne0.false (sym c.as_slice-legs.ensures ∙ first.1) (sym c.has_snapshot.ensures ∙ there)
    (c.are_alike.ensures.logical c.if-not-are_alike.false) (c.are_alike.ensures.physical c.if-not-are_alike.false)
