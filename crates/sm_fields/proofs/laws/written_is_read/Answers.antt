use Rattle.std.proofs.Common.{◌≡◌, ◌<◌, ◌≤◌, ◌+◌, length, Bool, true, false, refl, arith}
use Rattle.sm_fields.specs.Format.{number, text, truth, identity}
use Rattle.sm_fields.specs.Grammar.{digits, limit, with_length, truth_digits, identity_digits, IsIdentity}
use Rattle.sm_fields.proofs.Sizes.{length-digits, length-truth_digits, length-identity_digits}
use Rattle.sm_fields.proofs.Spelled.{number_spelled, text_spelled, truth_spelled, identity_spelled}
use Rattle.sm_fields.proofs.Whole.{spelled_is_read}
use Rattle.sm_fields.proofs.laws.written_is_read.Goals as goal

pub returns-clause-numbers : goal.returns-clause-numbers
returns-clause-numbers c size n at rest lt = spelled_is_read (number size) (λ n. n < limit size) (digits size) (number_spelled size) n at _ rest lt (length-digits size n)

pub returns-clause-texts : goal.returns-clause-texts
returns-clause-texts c most at t rest le = spelled_is_read (text most) (λ t. length t ≤ most) with_length (text_spelled most) t at (1 + length t) rest le (omega arith)

pub returns-clause-truth_values : goal.returns-clause-truth_values
returns-clause-truth_values c v at rest = spelled_is_read truth (λ _. Unit {0}) truth_digits truth_spelled v at 1 rest tt (length-truth_digits v)

pub returns-clause-identities : goal.returns-clause-identities
returns-clause-identities c i at rest fits = spelled_is_read identity IsIdentity identity_digits identity_spelled i at 12 rest fits (length-identity_digits i)
