use Rattle.std.proofs.Common.{◌∙◌, ap₂}
use Rattle.std.proofs.lemmas.Result.{IfOk-weaker}
use Rattle.clap.specs.Words.{with_rule}
use Rattle.sm_words.specs.Command.{lab_command}
use Rattle.sm_words.proofs.command.lab_command.Goals as goal

-- src/command.rt:49:1
pub returns : goal.returns
unfolding lab_command
returns c =
    let one = c.in_ok-arg.ensures.shape c.mode_arg.ensures.local ∙ ap₂ with_rule c.new.ensures.app c.mode_arg.ensures.rule in
    let two = c.in_ok-arg-2.ensures.shape c.workers_arg.ensures.local ∙ ap₂ with_rule one c.workers_arg.ensures.rule in
    let three = c.in_ok-arg-3.ensures.shape c.number_arg.ensures.local ∙ ap₂ with_rule two c.number_arg.ensures.rule in
    IfOk-weaker c.arg-4.result _ _ (λ command h. h.shape c.history_arg.ensures.local ∙ ap₂ with_rule three c.history_arg.ensures.rule) c.arg-4.ensures
