use Rattle.std.proofs.Common.{◌≡◌, None, Some, sym, ap, ◌∙◌}
use Rattle.std.specs.Prelude.{slice_get, slice_set}
use Rattle.std.proofs.lemmas.Option.{same_Some, slice_get-get_or}
use Rattle.sm_node.proofs.creating.take_spare.Goals as goal

pub unreachable-requires : goal.unreachable-requires
unreachable-requires g c =
    let xs = c.args.spares.now in
    let found = slice_get-get_or xs c.args.disk.0 c.index-spares-disk.result c.requires.within ∙ ap Some (sym c.index-spares-disk.is) in
    let is = same_Some _ _ (sym c.requires.there.1 ∙ found) in
    let none = sym c.in-None.is ∙ c.take.ensures.value ∙ sym c.index-spares-disk.is in
    let bad : None ≡ Some c.requires.there.0 = none ∙ sym is in
    absurd (cc)

pub returns : goal.returns
returns g c =
    let xs = c.args.spares.now in
    let found = slice_get-get_or xs c.args.disk.0 c.index-spares-disk.result c.requires.within ∙ ap Some (sym c.index-spares-disk.is) in
    record {
      was = found ∙ ap Some (c.index-spares-disk.is ∙ sym c.take.ensures.value ∙ c.in-Some.is);
      is = ap (λ o. slice_set xs c.args.disk.0 o) c.take.ensures.after;
    }
