use Rattle.std.proofs.Common.{subst, length}
use Rattle.sm_fields.specs.Grammar.{Spells}
use Rattle.sm_catroot.specs.Layout.{catalog_record}
use Rattle.sm_catroot.proofs.Decoded.{spells_is, spells_again, written_is_read, one_value}
use Rattle.sm_catroot.proofs.Lengths.{spelling_short}
use Rattle.sm_catroot.proofs.laws.both_ways.Goals as goal

pub returns-clause-spelled : goal.returns-clause-spelled
returns-clause-spelled c k bytes small = ((λ s. spells_is k bytes s), (λ p. subst (λ x. Spells (catalog_record (length bytes)) x bytes) p.1 (spells_again k bytes p.0 small p.2)))

pub returns-clause-one_value : goal.returns-clause-one_value
returns-clause-one_value c j k a b e = one_value j k a b e

pub returns-clause-written_is_read : goal.returns-clause-written_is_read
returns-clause-written_is_read c k is = written_is_read k is

pub returns-clause-short : goal.returns-clause-short
returns-clause-short c k is = spelling_short k is
