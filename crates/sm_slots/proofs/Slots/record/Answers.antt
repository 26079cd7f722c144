use Rattle.std.proofs.Common.{◌≡◌, length, sym, ◌∙◌, subst, ap, IsTrue, Ok, Err, None, Some, arith}
use Rattle.std.proofs.lemmas.List.{take_at}
use Rattle.std.proofs.lemmas.Result.{err_from_is_err_and}
use Rattle.sm_disk.specs.Image.{Image, part}
use Rattle.sm_slots.specs.Stored.{Record}
use Rattle.sm_slots.specs.declared.faults.RecordFault.TheVariants.{BadLength as TooLong, NoMemory}
use Rattle.sm_slots.proofs.Spelled.{reads_blank, reads_long, reads_record, stored_from}
use Rattle.sm_slots.proofs.Answer.{none_where, bad_length_where}
use Rattle.sm_slots.proofs.Slots.record.Goals as goal

pub returns-then-is_zero-clause-spelled : goal.returns-then-is_zero-clause-spelled
returns-then-is_zero-clause-spelled g c = λ told.
    stored_from _ _ _ c.slot_start_of-start.ensures (c.self.view_is ∙ c.requires.selected told)
    ∙ reads_blank _ _ c.read.new.into (c.in_ok-read.ensures.bytes told) (sym c.is_zero.ensures ∙ c.if-is_zero.true)

pub returns-then-is_zero-clause-none : goal.returns-then-is_zero-clause-none
returns-then-is_zero-clause-none g c = λ told. none_where (Ok None) _ (returns-then-is_zero-clause-spelled g c told)

pub returns-then-is_zero-clause-bad_length : goal.returns-then-is_zero-clause-bad_length
returns-then-is_zero-clause-bad_length g c = λ told. bad_length_where (Ok None) _ (returns-then-is_zero-clause-spelled g c told)

pub returns-then-len-gt-SLOT_LEN-clause-none : goal.returns-then-len-gt-SLOT_LEN-clause-none
returns-then-len-gt-SLOT_LEN-clause-none g c = λ told. none_where (Err TooLong) _ (
    stored_from _ _ _ c.slot_start_of-start.ensures (c.self.view_is ∙ c.requires.selected told)
    ∙ reads_long _ _ c.read.new.into (c.in_ok-read.ensures.bytes told) (sym c.is_zero.ensures ∙ c.if-is_zero.false) (omega arith))

pub returns-then-len-gt-SLOT_LEN-clause-bad_length : goal.returns-then-len-gt-SLOT_LEN-clause-bad_length
returns-then-len-gt-SLOT_LEN-clause-bad_length g c = λ told. bad_length_where (Err TooLong) _ (
    stored_from _ _ _ c.slot_start_of-start.ensures (c.self.view_is ∙ c.requires.selected told)
    ∙ reads_long _ _ c.read.new.into (c.in_ok-read.ensures.bytes told) (sym c.is_zero.ensures ∙ c.if-is_zero.false) (omega arith))

pub returns-in_err-bytes-clause-none : goal.returns-in_err-bytes-clause-none
returns-in_err-bytes-clause-none g c =
    let p = err_from_is_err_and c.from_residual-in_err-bytes.result c.from_residual-in_err-bytes.ensures.1 in rw (p.1, p.2)
    (λ told. none_where (Err NoMemory) _ (
      part _ _ c.stated_len-len.result,
      stored_from _ _ _ c.slot_start_of-start.ensures (c.self.view_is ∙ c.requires.selected told)
          ∙ reads_record _ _ c.read.new.into (c.in_ok-read.ensures.bytes told) _ (sym c.is_zero.ensures ∙ c.if-is_zero.false) c.stated_len-len.ensures c.if-len-gt-SLOT_LEN.false,
    ))

pub returns-in_err-bytes-clause-bad_length : goal.returns-in_err-bytes-clause-bad_length
returns-in_err-bytes-clause-bad_length g c =
    let p = err_from_is_err_and c.from_residual-in_err-bytes.result c.from_residual-in_err-bytes.ensures.1 in rw (p.1, p.2)
    (λ told. bad_length_where (Err NoMemory) _ (
      part _ _ c.stated_len-len.result,
      stored_from _ _ _ c.slot_start_of-start.ensures (c.self.view_is ∙ c.requires.selected told)
          ∙ reads_record _ _ c.read.new.into (c.in_ok-read.ensures.bytes told) _ (sym c.is_zero.ensures ∙ c.if-is_zero.false) c.stated_len-len.ensures c.if-len-gt-SLOT_LEN.false,
    ))

pub returns-clause-spelled : goal.returns-clause-spelled
returns-clause-spelled g c = λ told.
    let s = g.D.Disk.state c.args.disk.now in
    let whole = c.in_ok-read-2.ensures.bytes (subst IsTrue (sym c.read.ensures.time.told) told) in
    let long : length c.read-2.new.into ≡ c.in_ok-bytes.bytes.len = omega (arith, c.read-2.auto.into, c.deref_mut.ensures.len, c.in_ok-bytes.ensures.len) in
    let size : length c.deref_mut.result.now ≡ c.stated_len-len.result = omega (arith, c.deref_mut.ensures.len, c.in_ok-bytes.ensures.len) in
    stored_from _ _ _ c.slot_start_of-start.ensures (c.self.view_is ∙ c.requires.selected told)
    ∙ reads_record _ _ c.read.new.into (c.in_ok-read.ensures.bytes told) _ (sym c.is_zero.ensures ∙ c.if-is_zero.false) c.stated_len-len.ensures c.if-len-gt-SLOT_LEN.false
    ∙ ap Record (sym (take_at _ _ _ long ∙ whole ∙ ap (λ (x : Image). part x c.slot_start_of-start.result (length c.deref_mut.result.now)) c.read.ensures.quiet.seen
    ∙ ap (λ n. part s.seen c.slot_start_of-start.result n) size))

pub returns-clause-none : goal.returns-clause-none
returns-clause-none g c = λ told. none_where (Ok (Some _)) _ (returns-clause-spelled g c told)

pub returns-clause-bad_length : goal.returns-clause-bad_length
returns-clause-bad_length g c = λ told. bad_length_where (Ok (Some _)) _ (returns-clause-spelled g c told)
