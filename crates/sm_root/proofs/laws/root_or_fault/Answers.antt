use Rattle.sm_fields.proofs.Whole.{whole_spelled, whole_again, whole_faults, whole_stops}
use Rattle.std.proofs.Common.{length}
use Rattle.sm_root.specs.Layout.{root_record}
use Rattle.sm_root.proofs.RootSpelled.{record_only, record_again}
use Rattle.sm_root.proofs.laws.root_or_fault.Goals as goal

pub returns-clause-fault : goal.returns-clause-fault
returns-clause-fault c bytes at fits = ((λ e. whole_faults (root_record (length bytes)) bytes at fits e), (λ f. whole_stops (root_record (length bytes)) bytes at fits f))

pub returns-clause-root : goal.returns-clause-root
returns-clause-root c bytes r fits small =
    ((λ e. record_only r bytes (whole_spelled (root_record (length bytes)) bytes r fits e)), (λ p. whole_again (root_record (length bytes)) bytes r (record_again r bytes p.0 small p.1)))
