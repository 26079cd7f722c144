use Rattle.std.proofs.Common.{◌==◌, List, map, sym, ap, subst, ◌∙◌}
use Rattle.std.specs.List.{list_any}
use Rattle.sm_base.specs.declared.numbers.VolNo.{VolNo}
use Rattle.sm_defs.specs.Words.{KeysDiffer}
use Rattle.sm_defs.specs.Edges.{upstream}
use Rattle.sm_graph.specs.Links.{volume}
use Rattle.sm_graph.proofs.Numbered.{any-numbered, numbered-differ}
use Rattle.sm_graph.proofs.graph.Graph.upstream.Goals as goal

pub returns-clause-exactly : goal.returns-clause-exactly
returns-clause-exactly c = λ u.
    let listed = c.in_ok-volumes.ensures ∙ ap (map volume) c.as_slice.ensures.keys in
    ap (λ (vs : List VolNo). list_any (λ v. v.0 == u) vs) listed ∙ (any-numbered _ u ∙ (c.in_ok-upstream.ensures.exactly u ∙ ap (λ es. upstream es u c.args.volume.0) (c.deref.ensures.value ∙ c.in_ok-edges.ensures)))

pub returns-clause-once : goal.returns-clause-once
returns-clause-once c =
    let listed = c.in_ok-volumes.ensures ∙ ap (map volume) c.as_slice.ensures.keys in
    let P : List VolNo → Type 0 = λ vs. KeysDiffer (λ (v : VolNo). v.0) vs in
    subst P (sym listed) (numbered-differ _ c.in_ok-upstream.ensures.once)
