use Rattle.sm_defs.specs.Volume.{ident_of}
use Rattle.sm_shape.specs.Blank.{blank_snapshot}
use Rattle.sm_shape.proofs.Tests.{both_hold, first_fails}
use Rattle.sm_shape.proofs.Idents.{keys_differ, differ_keys}
use Rattle.sm_shape.proofs.TagsLemmas.{tags_fit_of, of_tags_fit}
use Rattle.sm_shape.proofs.tags.volume_tags_fit.Goals as goal

pub returns-then-not-fit : goal.returns-then-not-fit
returns-then-not-fit c = first_fails c.in_ok-fit.fit c.if-not-fit.true c.in_ok-fit.ensures (of_tags_fit c.args.volume.now)

pub returns : goal.returns
returns c =
    let v = c.args.volume.now in
    let idents = rw (c.deref-2.ensures.value, c.in_ok-idents.ensures, c.deref.ensures.value) at c.in_ok-differ.ensures in
    both_hold c.in_ok-fit.fit c.in_ok-differ.differ c.if-not-fit.false c.in_ok-fit.ensures idents
    (λ one d. tags_fit_of v one (differ_keys _ _ blank_snapshot ident_of v.snapshots.items d))
    (λ fit. keys_differ _ _ blank_snapshot ident_of v.snapshots.items fit.idents_differ)
