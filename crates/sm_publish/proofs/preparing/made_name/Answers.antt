use Rattle.std.proofs.Common.{ap, ◌∙◌, arith}
use Rattle.sm_base.specs.Name.{is_snapshot_name}
use Rattle.laws_form.proofs.MadeNames.{made_is_name}
use Rattle.sm_publish.proofs.preparing.made_name.Goals as goal

pub name_of-requires : goal.name_of-requires
name_of-requires c =
    let few = c.ranges.relation.fits in
    let less = c.requires in
    ap is_snapshot_name (c.as_bytes.ensures.value ∙ c.in_ok-text.ensures) ∙ made_is_name c.args.relation c.args.transfer (omega (arith, few)) (omega (arith, less))
