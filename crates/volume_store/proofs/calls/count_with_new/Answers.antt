use Rattle.std.proofs.Common.{not, arith}
use Rattle.sm_defs.specs.Words.{has_ident}
use Rattle.sm_root.specs.declared.root.RootSnapshot.{RootSnapshot}
use Rattle.volume_store.proofs.Sound.{length_filter_le}
use Rattle.volume_store.proofs.calls.count_with_new.Goals as goal

pub overflow_add-result : goal.overflow_add-result
overflow_add-result c = record {
  fits = omega (arith, c.count_staying-count.ensures, length_filter_le (λ (s : RootSnapshot). not (has_ident c.args.drops.now s.ident)) c.args.snapshots.now);
}
