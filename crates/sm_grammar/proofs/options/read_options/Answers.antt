use Rattle.std.proofs.Common.{◌∙◌}
use Rattle.sm_grammar.specs.Words.{words_left}
use Rattle.sm_grammar.proofs.OptionLemmas.{next_option}
use Rattle.sm_grammar.proofs.options.read_options.Goals as goal

pub loop-word-preserved : goal.loop-word-preserved
loop-word-preserved c =
    next_option c.args.form (words_left c.loop-word.words) c.in-Some.word.now (words_left c.in-Some.rest) (words_left c.in-Ok.rest) c.loop-word.given c.push.new.self c.in-Ok.pair
    c.in-Some.ensures c.in-Ok.ensures c.in_ok-push-in-Ok.ensures.pushed ∙ c.loop-word.invariant
