use Rattle.std.proofs.lemmas.Result.{err_from_is_err_and}
use Rattle.sm_output.proofs.Outputs.{on_err, part_of_first, part_of_second}
use Rattle.sm_output.proofs.writing.write_both.Goals as goal

pub returns-in_err-write_whole-clause-part : goal.returns-in_err-write_whole-clause-part
returns-in_err-write_whole-clause-part g c =
    let p = err_from_is_err_and c.from_residual.result c.from_residual.ensures.1 in
    rw p.1 (part_of_first _ _ c.args.first.now c.args.second.now c.in_err-write_whole.ensures.part)

pub returns-clause-part : goal.returns-clause-part
returns-clause-part g c =
    on_err c.write_whole-2.result (part_of_second _ _ _ c.args.first.now c.args.second.now c.in_ok-write_whole.ensures.ok) c.write_whole-2.ensures.part
