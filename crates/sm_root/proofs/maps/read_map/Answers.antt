use Rattle.std.proofs.Common.{◌≡◌, ◌∷◌, ◌++◌, [], ◌∙◌, ap, sym, arith, length-append}
use Rattle.std.proofs.lemmas.Result.{err_from_is_err_and}
use Rattle.sm_fields.specs.Reading.{read}
use Rattle.sm_fields.proofs.InTurn.{goes_on, ends_somehow, is_done}
use Rattle.sm_root.specs.Answer.{bad_byte}
use Rattle.sm_root.specs.ByTable.{map_by_table, with_number, after_map}
use Rattle.sm_root.proofs.Entries.{next_entry, after_map-push, entry_is, entry_fails}
use Rattle.sm_root.proofs.maps.read_map.Goals as goal

pub returns-in_err-number-clause-reads : goal.returns-in_err-number-clause-reads
returns-in_err-number-clause-reads c =
    let p = err_from_is_err_and c.from_residual.result c.from_residual.ensures.1 in
    let inv = c.loop-place.invariant in
    let byte = bad_byte c.in_err-number.field-0.0 in
    let failed = entry_fails c.args.table.now c.loop-place.table c.loop-place.numbers.items c.loop-place.place c.loop-place.reader byte inv.after inv.long c.in_err-number.ensures.reads in
    rw (p.1, p.2) (ends_somehow (next_entry c.args.table.now) c.loop-place.numbers.items c.args.logical c.loop-place.place byte c.loop-place.reader (read (map_by_table c.args.table.now c.args.logical) c.args.reader.now) c.loop-place-test.true failed inv.so_far)

pub loop-place-preserved : goal.loop-place-preserved
loop-place-preserved c =
    let inv = c.loop-place.invariant in
    let n = c.in_ok-number.number in
    let items = c.loop-place.numbers.items in
    let one = entry_is c.args.table.now c.loop-place.table items c.loop-place.place c.loop-place.reader _ inv.after inv.long c.in_ok-number.ensures.reads in
    let after : c.read_entry.new.table ≡ after_map c.args.table.now 0 (items ++ n ∷ []) =
    c.in_ok-number.ensures.after ∙ rw (inv.after, ← inv.long) (sym (after_map-push c.args.table.now 0 items n ∙ ap (λ p. with_number (after_map c.args.table.now 0 items) p n) (omega arith))) in
    rw c.in_ok-push.ensures.items (record {
      so_far = goes_on (next_entry c.args.table.now) items c.args.logical c.loop-place.place c.loop-place.reader c.read_entry.new.reader n (read (map_by_table c.args.table.now c.args.logical) c.args.reader.now) c.loop-place-test.true one inv.so_far;
      after = after;
      long = omega (arith, length-append items (n ∷ []), inv.long);
    })

pub returns-clause-reads : goal.returns-clause-reads
returns-clause-reads c =
    rw c.in_ok-map.ensures (is_done (next_entry c.args.table.now) c.loop-place.numbers.items c.args.logical c.loop-place.place c.loop-place.reader (read (map_by_table c.args.table.now c.args.logical) c.args.reader.now) c.loop-place-test.false c.loop-place.invariant.so_far)
