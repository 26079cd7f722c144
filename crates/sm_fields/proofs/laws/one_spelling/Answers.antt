use Rattle.std.proofs.Common.{◌≡◌, ◌<◌, ◌≤◌, ◌∙◌, sym, true, length, ℕ, List, []}
use Rattle.std.specs.Prelude.{IfSome}
use Rattle.sm_fields.specs.Format.{number, text, truth, identity, option, such_that}
use Rattle.sm_fields.specs.Grammar.{digits, limit, with_length, truth_digits, identity_digits, IsIdentity, option_digits}
use Rattle.sm_fields.proofs.Spelled.{number_spelled, text_spelled, truth_spelled, identity_spelled, option_spelled, such_that_spelled, in_turn_only}
use Rattle.sm_fields.proofs.Whole.{same_spelling}
use Rattle.sm_fields.proofs.laws.one_spelling.Goals as goal

pub returns-clause-numbers : goal.returns-clause-numbers
returns-clause-numbers c size n a b = same_spelling (number size) (λ n. n < limit size) (digits size) (number_spelled size) n a b

pub returns-clause-texts : goal.returns-clause-texts
returns-clause-texts c most t a b = same_spelling (text most) (λ t. length t ≤ most) with_length (text_spelled most) t a b

pub returns-clause-counts : goal.returns-clause-counts
returns-clause-counts c most n a b s t = s.0.1 ∙ sym t.0.1

pub returns-clause-truth_values : goal.returns-clause-truth_values
returns-clause-truth_values c v a b = same_spelling truth (λ _. Unit {0}) truth_digits truth_spelled v a b

pub returns-clause-identities : goal.returns-clause-identities
returns-clause-identities c i a b = same_spelling identity IsIdentity identity_digits identity_spelled i a b

pub returns-clause-options : goal.returns-clause-options
returns-clause-options c o a b = same_spelling (option identity) (λ o. IfSome o IsIdentity) (option_digits identity_digits) (option_spelled identity IsIdentity identity_digits identity_spelled) o a b

pub returns-clause-lists : goal.returns-clause-lists
returns-clause-lists c size holds n xs a b s t =
    let by = λ (before : List ℕ). such_that_spelled (number size) (λ n. n < limit size) (digits size) (holds before) (number_spelled size) in
    let one = in_turn_only (λ before. such_that (number size) (holds before)) (λ before n. (n < limit size) × (holds before n ≡ true)) (digits size) by [] n xs a s in
    let two = in_turn_only (λ before. such_that (number size) (holds before)) (λ before n. (n < limit size) × (holds before n ≡ true)) (digits size) by [] n xs b t in
    one.2 ∙ sym two.2
