use Rattle.std.proofs.Common.{length, [], sym, subst, append-nil}
use Rattle.std.specs.List.{flat_map}
use Rattle.sm_shape.specs.Marks.{AtOnePlace, IsTableOf, one_map}
use Rattle.sm_fit.proofs.TableLemmas.{taken}
use Rattle.sm_fit.proofs.tables.mark_snapshots.Goals as goal

pub returns : goal.returns
returns c =
    let most = length c.args.table.now in
    let maps = flat_map one_map c.args.snapshots.now in
    subst (IsTableOf most c.take_snapshots.new.table) (append-nil maps)
    (taken most c.args.table.now c.take_snapshots.new.table maps [] c.take_snapshots.result (c.take_snapshots.ensures most) c.requires.empty (subst (AtOnePlace most) (sym (append-nil maps)) c.requires.fits))
