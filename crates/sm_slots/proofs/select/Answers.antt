use Rattle.std.proofs.Common.{IsTrue, sym, subst}
use Rattle.sm_slots.proofs.Crash.{to_record, to_selector, committed, written_behind, selected_behind}
use Rattle.sm_slots.proofs.select.Goals as goal

pub returns-in_err-write_record-clause-spared : goal.returns-in_err-write_record-clause-spared
returns-in_err-write_record-clause-spared g c = written_behind _ _ c.requires.one_of_two _ c.requires.framed c.if-bytes-gt-SLOT_LEN.false _ c.write_record.ensures.spared

pub returns-in_err-write_record-clause-any_moment : goal.returns-in_err-write_record-clause-any_moment
returns-in_err-write_record-clause-any_moment g c = to_record _ _ c.requires.one_of_two _ c.requires.framed c.if-bytes-gt-SLOT_LEN.false _ c.write_record.ensures.spared

pub returns-in_err-write_selector-clause-spared : goal.returns-in_err-write_selector-clause-spared
returns-in_err-write_selector-clause-spared g c = selected_behind _ _ c.requires.one_of_two _ c.requires.framed c.if-bytes-gt-SLOT_LEN.false _ c.write_record.ensures.spared
    c.in_ok-write_record.ensures.bytes c.in_ok-write_record.ensures.synced _ c.write_selector.ensures.spared

pub returns-in_err-write_selector-clause-any_moment : goal.returns-in_err-write_selector-clause-any_moment
returns-in_err-write_selector-clause-any_moment g c = to_selector _ _ c.requires.one_of_two _ c.requires.framed c.if-bytes-gt-SLOT_LEN.false _ c.write_record.ensures.spared
    c.in_ok-write_record.ensures.bytes c.in_ok-write_record.ensures.synced _ c.write_selector.ensures.spared

pub returns-clause-spared : goal.returns-clause-spared
returns-clause-spared g c = selected_behind _ _ c.requires.one_of_two _ c.requires.framed c.if-bytes-gt-SLOT_LEN.false _ c.write_record.ensures.spared
    c.in_ok-write_record.ensures.bytes c.in_ok-write_record.ensures.synced _ c.write_selector.ensures.spared

pub returns-clause-any_moment : goal.returns-clause-any_moment
returns-clause-any_moment g c = to_selector _ _ c.requires.one_of_two _ c.requires.framed c.if-bytes-gt-SLOT_LEN.false _ c.write_record.ensures.spared
    c.in_ok-write_record.ensures.bytes c.in_ok-write_record.ensures.synced _ c.write_selector.ensures.spared

pub returns-clause-committed : goal.returns-clause-committed
returns-clause-committed g c = committed _ _ c.requires.one_of_two _ c.requires.framed c.if-bytes-gt-SLOT_LEN.false _ c.write_record.ensures.spared
    c.in_ok-write_record.ensures.bytes c.in_ok-write_record.ensures.synced _ c.write_selector.ensures.spared
    c.in_ok-write_selector.ensures.synced (λ told. c.in_ok-write_selector.ensures.selector (subst IsTrue (sym c.write_record.ensures.spared.any_moment.told) told))
