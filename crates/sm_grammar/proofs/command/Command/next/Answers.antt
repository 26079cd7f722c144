use Rattle.std.specs.Option.{option_map}
use Rattle.sm_grammar.proofs.AskedLemmas.{next_asks}
use Rattle.sm_grammar.proofs.FollowLemmas.{follows_next}
use Rattle.sm_grammar.proofs.StepLemmas.{next_performed}
use Rattle.sm_grammar.proofs.command.Command.next.Goals as goal

pub returns-clause-asked : goal.returns-clause-asked
returns-clause-asked c = λ asks. next_asks c.args.self.now.task c.args.done (option_map (λ r. r.now) c.args.last) c.next_of.result asks c.next_of.ensures

pub returns-clause-law : goal.returns-clause-law
returns-clause-law c = next_performed c.args.self.now.task

pub returns-clause-follows : goal.returns-clause-follows
returns-clause-follows c = follows_next c.args.self.now
