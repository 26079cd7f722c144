use Rattle.std.proofs.Common.{ap, Err}
use Rattle.sm_lab.specs.Reading.{bad_line, too_long, read_fault, starved}
use Rattle.sm_lab.proofs.Calls.{told_bad}
use Rattle.sm_lab.proofs.commands.read_commands.Goals as goal

pub returns-in-Err-TooLong-clause-err : goal.returns-in-Err-TooLong-clause-err
returns-in-Err-TooLong-clause-err g c = too_long (c.in-Err-TooLong.ensures.too_long (ap Err c.in-Err-TooLong.field-0-is))

pub returns-in-Err-Failed-clause-err : goal.returns-in-Err-Failed-clause-err
returns-in-Err-Failed-clause-err g c = read_fault (c.in-Err-Failed.ensures.failed (ap Err c.in-Err-Failed.field-0-is))

pub returns-in-Err-NoMemory-clause-err : goal.returns-in-Err-NoMemory-clause-err
returns-in-Err-NoMemory-clause-err g c = starved

pub returns-in-Err-BadLine-clause-err : goal.returns-in-Err-BadLine-clause-err
returns-in-Err-BadLine-clause-err g c =
    let bad = c.in-Err-BadLine in
    bad_line bad.line bad.kind (record {
      text = c.in-Ok.text.items;
      short = c.in-Ok.ensures.short;
      came = c.in-Ok.ensures.ok;
      at_end = c.in-Ok.ensures.at_end;
      says = told_bad bad.field-0 bad.line bad.kind c.deref.result.now c.in-Ok.text.items bad.field-0-is c.deref.ensures.value bad.ensures.bad;
    })

pub returns-clause-err : goal.returns-clause-err
returns-clause-err g c = starved
