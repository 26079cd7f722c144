use Rattle.std.proofs.Common.{◌≡◌, ◌∙◌, ap, sym, inl, inr, map, string_bytes}
use Rattle.clap.specs.Words.{app_of, fault_of, is_simple, is_simple_and_free, matches_of}
use Rattle.sm_words.specs.Command.{lab_command}
use Rattle.sm_words.proofs.LineLemmas.{on_a_line, on_no_line, simple, simple_and_free}
use Rattle.sm_words.proofs.words.read_words.Goals as goal

-- src/words.rt:41:1
pub returns-in-Ok : goal.returns-in-Ok
returns-in-Ok c =
    let is_lab : app_of c.in_ok-command.command ≡ lab_command = c.in_ok-command.ensures in
    let words = map (λ w. string_bytes w) c.args.words.now in
    c.options_from.ensures ∙ on_a_line words _
    (sym (ap (λ a. fault_of a words) is_lab) ∙ c.in-Ok.ensures.kinds (ap is_simple_and_free is_lab ∙ simple_and_free))
    ((c.in-Ok.ensures.matches (ap is_simple is_lab ∙ simple)).0 ∙ ap (λ a. matches_of a words) is_lab)

-- src/words.rt:39:1
pub returns : goal.returns
returns c =
    let is_lab : app_of c.in_ok-command.command ≡ lab_command = c.in_ok-command.ensures in
    let words = map (λ w. string_bytes w) c.args.words.now in
    let kinds = c.in-Err.ensures.kinds (ap is_simple_and_free is_lab ∙ simple_and_free) in
    elim kinds [
      | inl memory ↦ absurd (c.in_default.not-OutOfMemory (c.kind.ensures ∙ memory))
      | inr among ↦ on_no_line words _ (rw (ap (λ a. fault_of a words) is_lab) at among)
    ]
