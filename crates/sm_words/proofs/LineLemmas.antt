-- Which words are a line, by what the parse answers.
use Rattle.std.proofs.Common.{◌≡◌, refl, true, List, [], ◌∷◌, None}
use Rattle.clap.specs.Words.{IsAmong, Kinds, Row, Text, fault_of, is_simple, is_simple_and_free, matches_of}
use Rattle.clap.specs.declared.error.kind.ErrorKind.{ErrorKind}
use Rattle.clap.proofs.OnLiterals.{clap_on_literals}
use Rattle.sm_words.specs.Command.{lab_command}
use Rattle.sm_words.specs.Words.{is_line, options_of, options_from}

pub simple_and_free : is_simple_and_free lab_command ≡ true
unfolding lab_command clap_on_literals
simple_and_free = refl

pub simple : is_simple lab_command ≡ true
unfolding lab_command clap_on_literals
simple = refl

pub on_a_line : (words : List Text) (rows : List Row) → fault_of lab_command words ≡ [] → rows ≡ matches_of lab_command words
    → options_from rows ≡ options_of words
unfolding options_of is_line
on_a_line words rows none same = rw none (rw same refl)

pub on_no_line : (words : List Text) (kind : ErrorKind) → IsAmong kind (fault_of lab_command words) → None ≡ options_of words
unfolding options_of is_line
on_no_line words kind among = go (fault_of lab_command words) refl among
  where
    go : (kinds : Kinds) → fault_of lab_command words ≡ kinds → IsAmong kind kinds → None ≡ options_of words
    go [] e a = absurd a
    go (k ∷ ks) e a = rw e refl
