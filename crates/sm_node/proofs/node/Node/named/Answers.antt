use Rattle.std.proofs.Common.{◌≡◌, position, sym, ap, ◌∙◌, subst, Some, None, Err}
use Rattle.std.specs.Prelude.{slice_get}
use Rattle.std.specs.Str.{bytes_eq}
use Rattle.sm_base.specs.declared.refusal.Refusal.{Refusal}
use Rattle.sm_catroot.specs.declared.placed.Placed.{Placed}
use Rattle.sm_catroot.specs.Catalog.{Catalog}
use Rattle.sm_node.proofs.NamingLemmas.{named_none, named_at}
use Rattle.sm_node.proofs.node.Node.named.Goals as goal

pub returns-in_ok-no_volume-in-None : goal.returns-in_ok-no_volume-in-None
returns-in_ok-no_volume-in-None g c =
    let now = c.args.self.now in
    let path = c.args.path.now in
    let none = subst (λ (k : Catalog). position (λ (q : Placed). bytes_eq q.path path) k.volumes ≡ None) c.catalog-catalog.ensures (sym c.in-None.ensures) in
    named_none now.root.held now.seats now.lengths path c.told.ensures.node.as_many none ∙ ap (λ (x : Refusal). Err x) (sym c.in_ok-no_volume-in-None.ensures)

pub returns-in-Some : goal.returns-in-Some
returns-in-Some g c =
    let now = c.args.self.now in
    let path = c.args.path.now in
    let d = c.disk_at.ensures in
    named_at now path c.in-Some.at c.disk_at.result c.told.ensures.node.as_many
    (subst (λ (k : Catalog). position (λ (q : Placed). bytes_eq q.path path) k.volumes ≡ Some c.in-Some.at) c.catalog-catalog.ensures (sym c.in-Some.ensures))
    (d.0, subst (λ (k : Catalog). slice_get k.volumes c.in-Some.at ≡ Some d.0) c.catalog-catalog.ensures d.1, d.2)
