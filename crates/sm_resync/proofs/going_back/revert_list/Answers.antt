use Rattle.std.proofs.Common.{◌∙◌, ap, map}
use Rattle.sm_root.specs.Condition.{ident_of}
use Rattle.sm_resync.proofs.Mapped.{idents-past}
use Rattle.sm_resync.proofs.going_back.revert_list.Goals as goal

pub returns : goal.returns
returns c = λ there e.
    c.in_ok-drops.ensures ∙ (ap (map ident_of) c.behind.ensures ∙ idents-past c.as_slice.result.now there c.args.common (ap (map ident_of) c.as_slice.ensures ∙ e))
