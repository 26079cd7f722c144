use Rattle.std.proofs.Common.{◌≡◌, ◌∷◌, ◌++◌, [], ◌∙◌, sym, map}
use Rattle.std.proofs.lemmas.Result.{err_from_is_err_and}
use Rattle.std.proofs.lemmas.List.{map_push}
use Rattle.sm_fields.specs.Reading.{read}
use Rattle.sm_fields.proofs.InTurn.{goes_on, ends_somehow, is_done}
use Rattle.sm_root.specs.Answer.{bad_byte}
use Rattle.sm_root.specs.Condition.{map_of}
use Rattle.sm_root.specs.ByTable.{after_maps, snapshot_by_table, snapshots_by_table}
use Rattle.sm_root.proofs.OneSnapshot.{after_maps-push, fresh_fails, rest_fails, snapshot_is}
use Rattle.sm_root.proofs.snapshots.read_snapshots.Goals as goal

pub returns-in_err-ident : goal.returns-in_err-ident
returns-in_err-ident c =
    let p = err_from_is_err_and c.from_residual.result c.from_residual.ensures.1 in
    let inv = c.loop.invariant in
    let byte = bad_byte c.in_err-ident.field-0.0 in
    let failed = fresh_fails c.args.table.now c.args.logical c.loop.snapshots.items c.loop.reader byte (c.in_err-ident.ensures.reads c.loop.snapshots.items inv.knows) in
    rw (p.1, p.2) (ends_somehow (snapshot_by_table c.args.table.now c.args.logical) c.loop.snapshots.items c.args.count c.loop.counter byte c.loop.reader (read (snapshots_by_table c.args.table.now c.args.logical c.args.count) c.args.reader.now) c.loop-test.true failed inv.so_far)

pub returns-in_err-snapshot : goal.returns-in_err-snapshot
returns-in_err-snapshot c =
    let p = err_from_is_err_and c.from_residual-in_err-snapshot.result c.from_residual-in_err-snapshot.ensures.1 in
    let inv = c.loop.invariant in
    let byte = bad_byte c.in_err-snapshot.field-0.0 in
    let first = c.in_ok-ident.ensures.reads c.loop.snapshots.items inv.knows in
    let failed = rest_fails c.args.table.now c.loop.table c.args.logical c.loop.snapshots.items c.in_ok-ident.ident c.loop.reader c.read_fresh.new.reader byte inv.after first c.in_err-snapshot.ensures.reads in
    rw (p.1, p.2) (ends_somehow (snapshot_by_table c.args.table.now c.args.logical) c.loop.snapshots.items c.args.count c.loop.counter byte c.loop.reader (read (snapshots_by_table c.args.table.now c.args.logical c.args.count) c.args.reader.now) c.loop-test.true failed inv.so_far)

pub loop-preserved : goal.loop-preserved
loop-preserved c =
    let inv = c.loop.invariant in
    let items = c.loop.snapshots.items in
    let s = c.in_ok-snapshot.snapshot in
    let first = c.in_ok-ident.ensures.reads items inv.knows in
    let one = snapshot_is c.args.table.now c.loop.table c.args.logical items c.in_ok-ident.ident s c.loop.reader c.read_fresh.new.reader c.read_rest.new.reader inv.after first c.in_ok-snapshot.ensures.reads in
    let after : c.read_rest.new.table ≡ after_maps c.args.table.now (map map_of (items ++ s ∷ [])) =
    c.in_ok-snapshot.ensures.after ∙ rw inv.after (sym (rw (map_push map_of items s) (after_maps-push c.args.table.now (map map_of items) s.map))) in
    rw c.in_ok-push.ensures.items (record {
      so_far = goes_on (snapshot_by_table c.args.table.now c.args.logical) items c.args.count c.loop.counter c.loop.reader c.read_rest.new.reader s (read (snapshots_by_table c.args.table.now c.args.logical c.args.count) c.args.reader.now) c.loop-test.true one inv.so_far;
      after = after;
      knows = c.in_ok-ident.ensures.knows items inv.knows s c.in_ok-snapshot.ensures.ident;
    })

pub returns : goal.returns
returns c =
    rw c.from_vec.ensures (is_done (snapshot_by_table c.args.table.now c.args.logical) c.loop.snapshots.items c.args.count c.loop.counter c.loop.reader (read (snapshots_by_table c.args.table.now c.args.logical c.args.count) c.args.reader.now) c.loop-test.false c.loop.invariant.so_far)
