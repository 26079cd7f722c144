use Rattle.std.proofs.Common.{◌∙◌, sym, ap, refl, Ok, Err}
use Rattle.std.proofs.lemmas.Result.{err_from_is_err_and}
use Rattle.sm_root.specs.declared.fault.RootFault.TheVariants.{Bad}
use Rattle.sm_slots.specs.Stored.{Record, slot_of}
use Rattle.volume_store.proofs.RootRead.{unread, decoded}
use Rattle.volume_store.proofs.reading.read_root.Goals as goal

pub returns-in_err-bytes-clause-exact : goal.returns-in_err-bytes-clause-exact
returns-in_err-bytes-clause-exact g c =
    let p = err_from_is_err_and c.from_residual.result c.from_residual.ensures.1 in rw (p.1, p.2)
    (λ told. unread (g.D.Disk.state c.args.disk.now).seen c.in_err-bytes.field-0.0 (c.in_err-bytes.ensures.exact told))

pub returns-in-Ok-clause-exact : goal.returns-in-Ok-clause-exact
returns-in-Ok-clause-exact g c = λ told.
    let image = (g.D.Disk.state c.args.disk.now).seen in
    decoded image (slot_of image) c.deref.result.now (Ok c.in-Ok.root) refl (c.in_ok-bytes.ensures.bytes told ∙ ap Record (sym c.deref.ensures.value)) c.in-Ok.ensures.only c.in-Ok.ensures.fault

pub returns-in-Err-Bad-clause-exact : goal.returns-in-Err-Bad-clause-exact
returns-in-Err-Bad-clause-exact g c = λ told.
    let image = (g.D.Disk.state c.args.disk.now).seen in
    let only = rw c.in-Err-Bad.field-0-is at c.in-Err-Bad.ensures.only in
    let fault = rw c.in-Err-Bad.field-0-is at c.in-Err-Bad.ensures.fault in
    decoded image c.slot.result c.deref.result.now (Err (Bad c.in-Err-Bad.at)) (c.slot.ensures.number ∙ c.requires.selected told) (c.in_ok-bytes.ensures.bytes told ∙ ap Record (sym c.deref.ensures.value)) only fault
