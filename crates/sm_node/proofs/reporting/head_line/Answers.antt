use Rattle.std.proofs.Common.{length, ap, arith}
use Rattle.sm_catroot.specs.Catalog.{Catalog}
use Rattle.sm_node.proofs.ReportLemmas.{head_is}
use Rattle.sm_node.proofs.reporting.head_line.Goals as goal

pub returns : goal.returns
returns g c = λ lengths.
    let is = c.catalog.view_is in
    let k = c.catalog.inside in
    head_is c.args.catalog.now c.args.seats.now lengths c.len.result c.len-2.result c.len-3.result k.clock c.requires.as_many
    (omega (arith, c.len.ensures, k.volumes.ok, ap (λ (x : Catalog). length x.volumes) is))
    (omega (arith, c.len-2.ensures, k.relations.ok, ap (λ (x : Catalog). length x.relations) is))
    (omega (arith, c.len-3.ensures, k.policies.ok, ap (λ (x : Catalog). length x.policies) is))
    (ap (λ (x : Catalog). x.clock) is)
