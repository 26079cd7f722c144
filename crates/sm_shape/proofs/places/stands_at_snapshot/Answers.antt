use Rattle.std.proofs.Common.{◌≡◌, ◌==◌, true, false, length, ap, sym, ◌∙◌}
use Rattle.std.proofs.lemmas.Bool.{eqb-true, both_ways}
use Rattle.sm_shape.proofs.Tests.{and_so}
use Rattle.std.proofs.lemmas.List.{nil_from_length}
use Rattle.sm_shape.proofs.PlacesLemmas.{blank_of, still_of}
use Rattle.sm_shape.proofs.places.stands_at_snapshot.Goals as goal

pub returns-then-has_none : goal.returns-then-has_none
returns-then-has_none c =
    let v = c.args.volume.now in
    let empty : (length v.snapshots.items == 0) ≡ true = sym (rw c.deref.ensures.value at c.has_none.ensures) ∙ c.if-has_none.true in
    and_so c.stands_blank.ensures (blank_of v (nil_from_length v.snapshots.items (eqb-true _ _ empty)))

pub returns-else-has_none : goal.returns-else-has_none
returns-else-has_none c =
    let v = c.args.volume.now in
    let some : (length v.snapshots.items == 0) ≡ false = sym (rw c.deref.ensures.value at c.has_none.ensures) ∙ c.if-has_none.false in
    and_so c.stands_still.ensures (still_of v (λ none. both_ways _ some (ap (λ l. length l == 0) none)))
