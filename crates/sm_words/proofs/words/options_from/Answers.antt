use Rattle.std.proofs.Common.{rules, ◌≡◌, ◌∙◌, sym, arith, codes, Some, None}
use Rattle.std.specs.Str.Parse.{ExplainsUnsignedError, HasUnsignedDigitsIfOk, ParsesUnsigned}
use Rattle.clap.specs.Words.{first_value, found_of, rows_of}
use Rattle.clap.proofs.WalkLemmas.{first_value-rows}
use Rattle.sm_words.proofs.GivenLemmas.{flag_read, given, no_name, number_read, other_name}
use Rattle.sm_words.proofs.words.options_from.Goals as goal

-- src/words.rt:28:26
pub returns-in_err-get_str : goal.returns-in_err-get_str
returns-in_err-get_str c =
    let found = found_of c.args.matches.now in
    let shown : first_value found (codes "mode") ≡ None = search rules in
    c.from_residual.ensures ∙ no_name (rows_of found) (sym (first_value-rows found (codes "mode")) ∙ shown)

-- src/words.rt:28:15
pub returns-in_err-mode_named : goal.returns-in_err-mode_named
returns-in_err-mode_named c =
    let found = found_of c.args.matches.now in
    let name = c.in_ok-get_str.field-0.now in
    let shown : first_value found (codes "mode") ≡ Some name = search rules in
    c.from_residual-in_err-mode_named.ensures ∙ other_name (rows_of found) name (sym (first_value-rows found (codes "mode")) ∙ shown) (search rules)

-- src/words.rt:24:1
pub returns : goal.returns
returns c =
    let found = found_of c.args.matches.now in
    let name = c.in_ok-get_str.field-0.now in
    let shown : first_value found (codes "mode") ≡ Some name = search rules in
    let workers = number_read 32 4294967295 (λ n h. (omega arith, omega arith)) (λ n h. omega arith) _
    (λ bs r. ParsesUnsigned 32 10 bs r × ExplainsUnsignedError 10 bs r × HasUnsignedDigitsIfOk bs r) (λ u x g. g.0)
    found (codes "workers") c.get_one.result c.get_one.ensures.none c.get_one.ensures.value in
    let number = number_read 64 18446744073709551615 (λ n h. (omega arith, omega arith)) (λ n h. omega arith) _
    (λ bs r. ParsesUnsigned 64 10 bs r × ExplainsUnsignedError 10 bs r × HasUnsignedDigitsIfOk bs r) (λ u x g. g.0)
    found (codes "number") c.get_one-2.result c.get_one-2.ensures.none c.get_one-2.ensures.value in
    let history = flag_read _ found (codes "history") c.get_one-3.result c.get_one-3.ensures.none c.get_one-3.ensures.value in
    given (rows_of found) name c.in_ok-mode_named.field-0 c.unwrap_or.result c.unwrap_or-2.result c.unwrap_or-3.result
    (sym (first_value-rows found (codes "mode")) ∙ shown) (search rules)
    (c.unwrap_or.ensures ∙ workers) (c.unwrap_or-2.ensures ∙ number) (c.unwrap_or-3.ensures ∙ history)
