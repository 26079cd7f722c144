use Rattle.sm_model.specs.Answer.{answer}
use Rattle.sm_model.specs.OfVolumes as model
use Rattle.oracle_answers.proofs.Replied.{is_answered}
use Rattle.oracle_answers.proofs.events.answer.Goals as goal

pub returns-in_ok-create_volume-in-CreateVolume-clause-ok : goal.returns-in_ok-create_volume-in-CreateVolume-clause-ok
unfolding answer
returns-in_ok-create_volume-in-CreateVolume-clause-ok c =
    let e = c.in-CreateVolume in
    let made = c.in_ok-create_volume-in-CreateVolume in
    rw e.is (is_answered c.args.world.now c.create_volume.new.world (model.create_volume c.args.world.now e.path e.disk e.kind e.logical e.physical) made.field-0 made.ensures.ok)
