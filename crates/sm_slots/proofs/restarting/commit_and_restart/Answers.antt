use Rattle.std.proofs.lemmas.Result.{IfOk-weaker}
use Rattle.sm_slots.proofs.Through.{names_before, shows_new}
use Rattle.sm_slots.proofs.restarting.commit_and_restart.Goals as goal

pub returns-clause-before : goal.returns-clause-before
returns-clause-before g c = IfOk-weaker c.restart_and_open.result _ _
    (names_before _ (g.D.Disk.state c.commit.new.disk) (g.D.Disk.state c.restart_and_open.new.disk) _ _ c.commit.ensures.any_moment c.commit.ensures.images c.restart_and_open.ensures.time c.restart_and_open.ensures.image)
    c.restart_and_open.ensures.selected

pub returns-clause-after : goal.returns-clause-after
returns-clause-after g c = λ fits sound. IfOk-weaker c.restart_and_open.result _ _
    (λ _ _ told. shows_new _ (g.D.Disk.state c.commit.new.disk) (g.D.Disk.state c.restart_and_open.new.disk) _ _ c.commit.ensures.any_moment c.commit.ensures.images c.restart_and_open.ensures.time c.restart_and_open.ensures.image
    c.commit.result c.commit.new.self c.commit.ensures.committed c.commit.ensures.other c.commit.ensures.too_large.0 c.commit.ensures.failed fits sound told)
    c.restart_and_open.ensures.selected
