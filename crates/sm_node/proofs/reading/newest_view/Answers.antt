use Rattle.std.proofs.Common.{ap, sym, ◌∙◌, Err}
use Rattle.sm_base.specs.declared.refusal.Refusal.TheVariants as refusals
use Rattle.sm_node.specs.Viewing.{view_of_ident}
use Rattle.sm_node.proofs.reading.newest_view.Goals as goal

pub returns-in_ok-copy-in-None : goal.returns-in_ok-copy-in-None
returns-in_ok-copy-in-None c = λ number v e.
    ap (λ name. Err (refusals.NoSnapshot name)) c.in_ok-copy-in-None.ensures
    ∙ ap (view_of_ident c.args.name.now) (sym c.in-None.is ∙ c.newest_named.ensures number v e)

pub returns-in-Some : goal.returns-in-Some
returns-in-Some c = λ number v e. ap (view_of_ident c.args.name.now) (sym c.in-Some.is ∙ c.newest_named.ensures number v e)
