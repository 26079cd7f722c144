use Rattle.sm_transfer.proofs.DefinedLemmas.{begins, ships, checks, stops}
use Rattle.sm_transfer.proofs.laws.steps_are_the_definitions.Goals as goal

pub returns-clause-begins : goal.returns-clause-begins
returns-clause-begins c = begins

pub returns-clause-ships : goal.returns-clause-ships
returns-clause-ships c = ships

pub returns-clause-checks : goal.returns-clause-checks
returns-clause-checks c = checks

pub returns-clause-stops : goal.returns-clause-stops
returns-clause-stops c = stops
