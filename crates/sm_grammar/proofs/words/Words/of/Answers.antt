use Rattle.sm_grammar.proofs.PartedLemmas.{words_parted}
use Rattle.sm_grammar.proofs.words.Words.of.Goals as goal

pub returns-clause-parted : goal.returns-clause-parted
returns-clause-parted c = words_parted
