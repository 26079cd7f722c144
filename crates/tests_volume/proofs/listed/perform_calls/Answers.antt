use Rattle.laws_volume.proofs.DoneLemmas.{ready}
use Rattle.tests_volume.proofs.listed.perform_calls.Goals as goal

pub perform_all-requires-clause-ready : goal.perform_all-requires-clause-ready
perform_all-requires-clause-ready g c = ready _ c.calls.result _ c.calls.ensures
