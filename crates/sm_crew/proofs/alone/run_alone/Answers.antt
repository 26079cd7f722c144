use Rattle.std.proofs.lemmas.Result.{err_from_is_err_and}
use Rattle.sm_crew.proofs.Commands.{one_done, all_done, cut_off}
use Rattle.sm_crew.proofs.alone.run_alone.Goals as goal

pub returns-in_err-run_command : goal.returns-in_err-run_command
returns-in_err-run_command g c =
    let p = err_from_is_err_and c.from_residual.result c.from_residual.ensures.1 in
    let l = c.loop-command in
    rw (p.1, p.2) (cut_off g.D.Disk.state c.args.catalogue.now c.args.commands.now l.command-index c.command-item.result l.catalogue c.run_command.new.catalogue c.in_err-run_command.field-0.0
    c.loop-command-test.true c.command-item.is l.invariant c.in_err-run_command.ensures)

pub loop-command-preserved : goal.loop-command-preserved
loop-command-preserved g c =
    let l = c.loop-command in
    one_done g.D.Disk.state c.args.catalogue.now c.args.commands.now l.command-index c.command-item.result l.catalogue c.run_command.new.catalogue
    c.loop-command-test.true c.command-item.is l.invariant c.in_ok-run_command.ensures

pub returns : goal.returns
returns g c = all_done g.D.Disk.state c.args.catalogue.now c.args.commands.now c.loop-command.command-index c.loop-command.catalogue c.loop-command-test.false c.loop-command.invariant
