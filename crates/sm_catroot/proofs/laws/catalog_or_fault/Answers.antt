use Rattle.std.proofs.Common.{length, subst}
use Rattle.sm_fields.specs.Grammar.{Spells}
use Rattle.sm_fields.proofs.Whole.{whole_spelled, whole_again, whole_faults, whole_stops}
use Rattle.sm_catroot.specs.Layout.{catalog_record}
use Rattle.sm_catroot.proofs.Decoded.{spells_is, spells_again}
use Rattle.sm_catroot.proofs.laws.catalog_or_fault.Goals as goal

pub returns-clause-fault : goal.returns-clause-fault
returns-clause-fault c bytes at fits = ((λ e. whole_faults (catalog_record (length bytes)) bytes at fits e), (λ f. whole_stops (catalog_record (length bytes)) bytes at fits f))

pub returns-clause-catalog : goal.returns-clause-catalog
returns-clause-catalog c bytes k fits small =
    ((λ e. spells_is k bytes (whole_spelled (catalog_record (length bytes)) bytes k fits e)), (λ p. whole_again (catalog_record (length bytes)) bytes k (subst (λ x. Spells (catalog_record (length bytes)) x bytes) p.1 (spells_again k bytes p.0 small p.2))))
