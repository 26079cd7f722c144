use Rattle.std.proofs.Common.{ap}
use Rattle.sm_root.specs.declared.root.Root.{Root}
use Rattle.sm_node.proofs.ReadEvents.{active_line_at, snapshot_line_for}
use Rattle.sm_node.proofs.imaging.image_line.Goals as goal

pub returns-in-None : goal.returns-in-None
returns-in-None c = λ n v e differ. active_line_at c.args.number v c.args.place _ c.in-None.is

pub returns-in_ok-copy_label-in-Some : goal.returns-in_ok-copy_label-in-Some
returns-in_ok-copy_label-in-Some c = λ n v e differ.
    let r = c.index-as_slice-place.result in
    snapshot_line_for c.args.number v c.args.place c.in-Some.place c.args.root.now.snapshots c.as_slice.result.now r c.in_ok-copy-in-Some.field-0 c.in_ok-copy_label-in-Some.field-0 _ c.in-Some.is differ c.as_slice.ensures (ap (λ (x : Root). x.snapshots) e)
    c.index-as_slice-place.is c.requires c.in_ok-copy-in-Some.ensures c.in_ok-copy_label-in-Some.ensures
