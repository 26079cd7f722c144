use Rattle.std.proofs.Common.{◌≡◌, length, ap, sym, ◌∙◌, refl, subst, Some, arith}
use Rattle.std.specs.Prelude.{slice_get}
use Rattle.std.proofs.lemmas.Option.{slice_get_read}
use Rattle.sm_catroot.specs.Catalog.{Catalog}
use Rattle.sm_model.specs.OfReport as reports
use Rattle.sm_node.proofs.PlacedLemmas.{volume_is}
use Rattle.sm_node.proofs.HoldingLemmas.{ok_so}
use Rattle.sm_node.proofs.reporting.volume_line_at.Goals as goal

pub returns : goal.returns
returns g c =
    let k = c.catalog.inside in
    let at = c.args.number.0 in
    let volumes = ap (λ (x : Catalog). length x.volumes) c.catalog.view_is in
    let p = c.index-placed.result.now in
    let s = c.index-seats-number.result in
    let place = subst (λ (x : Catalog). slice_get x.volumes at ≡ Some p) c.catalog.view_is (slice_get_read k.volumes.items _ at p refl (omega (arith, c.requires.as_many, c.requires.there, volumes)) c.index-placed.ensures) in
    let seat = slice_get_read c.args.seats.now _ at s refl c.requires.there c.index-seats-number.is in
    ok_so c.volume_line.result _ _ c.volume_line.ensures (λ line e lengths. e ∙ ap (reports.volume_line c.args.number) (sym (volume_is c.args.catalog.now.volumes c.args.seats.now at p s place seat)))
