use Rattle.std.proofs.Common.{◌∙◌, ap, map}
use Rattle.sm_root.specs.Condition.{ident_of}
use Rattle.sm_resync.proofs.Mapped.{newest-common}
use Rattle.sm_resync.proofs.going_back.common.Goals as goal

pub returns : goal.returns
returns c = λ here there e f.
    c.newest_common.ensures
    ∙ newest-common c.as_slice.result.now c.as_slice-2.result.now here there (ap (map ident_of) c.as_slice.ensures ∙ e) (ap (map ident_of) c.as_slice-2.ensures ∙ f)
