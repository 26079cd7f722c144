use Rattle.std.proofs.Common.{◌≡◌, ◌+◌, ◌++◌, ◌∷◌, [], take, sym, ap, subst, ◌∙◌}
use Rattle.std.proofs.lemmas.List.{take_more}
use Rattle.sm_graph.specs.Links.{Link, IsIncoming}
use Rattle.sm_graph.proofs.Lowest.{incoming-passed, incoming-lower}
use Rattle.sm_graph.proofs.graph.lowest_to.Goals as goal
use Rattle.sm_graph.proofs.graph.lowest_to.Goals.{then-link-volume, else-link-volume}

pub loop-link-preserved : goal.loop-link-preserved
loop-link-preserved c =
    let before = take c.loop-link.link-index c.args.links.now in
    let here = c.link-item.result in
    let one : take (c.loop-link.link-index + 1) c.args.links.now ≡ before ++ here ∷ [] =
    take_more c.args.links.now c.loop-link.link-index here c.loop-link-test.true ∙ ap (λ l. before ++ l ∷ []) (sym c.link-item.is) in
    let ends = ap (λ (l : Link). l.to) c.link.view_is in
    let number = ap (λ (l : Link). l.number) c.link.view_is in
    subst (λ ls. IsIncoming ls c.args.volume.0 c.if-link-volume.lowest) (sym one)
    (elim c.if-link-volume.branch [
      | then-link-volume w ↦ subst (IsIncoming (before ++ here ∷ []) c.args.volume.0) (sym w.lowest-is)
          (incoming-lower before here c.args.volume.0 c.loop-link.lowest c.link.inside.relation w.lower.result (sym ends ∙ w.if-link-volume.true) (sym number) c.loop-link.invariant w.lower.ensures)
      | else-link-volume w ↦ subst (IsIncoming (before ++ here ∷ []) c.args.volume.0) (sym w.lowest-is)
          (incoming-passed before here c.args.volume.0 c.loop-link.lowest (λ e. w.if-link-volume.false (ends ∙ e)) c.loop-link.invariant)
    ])
