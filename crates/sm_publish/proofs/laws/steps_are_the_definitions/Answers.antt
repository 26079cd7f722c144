use Rattle.sm_publish.proofs.DefinedLemmas.{tidies, prunes, prune_stops, prepares, prepare_stops}
use Rattle.sm_publish.proofs.laws.steps_are_the_definitions.Goals as goal

pub returns-clause-tidies : goal.returns-clause-tidies
returns-clause-tidies g c = tidies g.D.Disk.state

pub returns-clause-prunes : goal.returns-clause-prunes
returns-clause-prunes g c = prunes g.D.Disk.state

pub returns-clause-prune_stops : goal.returns-clause-prune_stops
returns-clause-prune_stops g c = prune_stops g.D.Disk.state

pub returns-clause-prepares : goal.returns-clause-prepares
returns-clause-prepares g c = prepares g.D.Disk.state

pub returns-clause-prepare_stops : goal.returns-clause-prepare_stops
returns-clause-prepare_stops g c = prepare_stops g.D.Disk.state
