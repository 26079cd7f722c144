use Rattle.std.proofs.Common.{refl, sym, ◌∙◌}
use Rattle.sm_lab.proofs.Calls.{no_line_ends, no_words_ends}
use Rattle.sm_lab.proofs.run.run_lab.Goals as goal

pub returns-in-Ok-None-clause-ends : goal.returns-in-Ok-None-clause-ends
returns-in-Ok-None-clause-ends g c =
    let r = c.refuse.ensures in
    let none = sym (rw c.deref.ensures.value at c.in-Ok-None.ensures) ∙ c.in-Ok-None.field-0-is in
    no_line_ends g.D.Disk.state _ _ c.refuse.result.status none (refl, refl) (record { history = r.history; sides = r.sides; disks = r.disks }) r.printed

pub returns-clause-ends : goal.returns-clause-ends
returns-clause-ends g c =
    let r = c.refuse-in-Err.ensures in
    no_words_ends g.D.Disk.state _ _ c.refuse-in-Err.result.status (refl, refl) (record { history = r.history; sides = r.sides; disks = r.disks }) r.printed
