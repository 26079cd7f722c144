use Rattle.sm_grammar.proofs.AskedLemmas.{read_asks_so}
use Rattle.sm_grammar.proofs.ScriptLemmas.{script_spelled}
use Rattle.sm_grammar.proofs.OrderLemmas.{reordered}
use Rattle.sm_grammar.proofs.read.read_script.Goals as goal

pub returns-clause-spelled : goal.returns-clause-spelled
returns-clause-spelled c = script_spelled c.args.text.now

pub returns-clause-order : goal.returns-clause-order
returns-clause-order c = reordered

pub returns-clause-asked : goal.returns-clause-asked
returns-clause-asked c = read_asks_so c.args.text.now c.read_commands.result c.read_commands.ensures.ok
