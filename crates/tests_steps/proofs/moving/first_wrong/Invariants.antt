use Rattle.tests_steps.specs.Ready.{IsReady}
use Rattle.tests_steps.proofs.moving.first_wrong.Given as goal

abbrev pub invariant-loop-place : goal.invariant-loop-place
invariant-loop-place g l = IsReady l.transfer.plan l.source l.destination
