use Rattle.std.proofs.Common.{◌∙◌, ap, map}
use Rattle.sm_select.specs.Planned.{twice}
use Rattle.sm_select.proofs.PlanLemmas.{mirror_planned}
use Rattle.sm_select.proofs.mirror.plan_mirror.Goals as goal

pub returns-clause-missing : goal.returns-clause-missing
returns-clause-missing c =
    mirror_planned c.args.have.now c.args.target.now c.in_ok-pairs_of.field-0.items c.in_ok-from_slice.field-0.items (c.in_ok-pairs_of.ensures ∙ ap (map twice) c.in_ok-lacking.ensures) c.in_ok-from_slice.ensures.items c.requires.within
