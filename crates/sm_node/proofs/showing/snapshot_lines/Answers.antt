use Rattle.std.proofs.Common.{ap, ◌∙◌}
use Rattle.sm_root.specs.declared.root.Root.{Root}
use Rattle.sm_volume.specs.Seen.{root_of}
use Rattle.sm_node.specs.Seats.{Seated}
use Rattle.sm_node.proofs.ShowingLemmas.{ok_kept}
use Rattle.sm_node.proofs.showing.snapshot_lines.Goals as goal

pub returns : goal.returns
returns g c =
    let volume = ap (λ (x : Seated _). x.volume) c.seat.view_is in
    let root = c.root.ensures ∙ ap (λ v. root_of v.number v.volume) volume in
    ok_kept c.args.number c.args.seat.now.volume.volume.snapshots _ c.listed_lines.result (c.as_slice.ensures ∙ ap (λ (r : Root). r.snapshots) root) c.listed_lines.ensures
