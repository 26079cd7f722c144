use Rattle.std.proofs.Common.{map}
use Rattle.sm_shape.specs.Blank.{blank}
use Rattle.sm_opening.specs.Finding.{root_of}
use Rattle.sm_opening.proofs.JudgeLemmas.{all_right, all_wrong, all_exact}
use Rattle.sm_opening.proofs.judging.judge.Goals as goal

pub returns-clause-judged : goal.returns-clause-judged
returns-clause-judged c = all_right c.args.lengths.now c.args.catalog.now (map root_of c.args.founds.now) (blank c.in_ok-world.world) c.in_ok-world.ensures c.judge_world.result c.judge_world.ensures.right

pub returns-clause-faults : goal.returns-clause-faults
returns-clause-faults c = all_wrong c.args.lengths.now c.args.catalog.now (map root_of c.args.founds.now) (blank c.in_ok-world.world) c.in_ok-world.ensures c.judge_world.result c.judge_world.ensures.wrong

pub returns-clause-exact : goal.returns-clause-exact
returns-clause-exact c = all_exact c.args.lengths.now c.args.catalog.now (map root_of c.args.founds.now) (blank c.in_ok-world.world) c.in_ok-world.ensures c.judge_world.result c.judge_world.ensures.right c.judge_world.ensures.wrong
