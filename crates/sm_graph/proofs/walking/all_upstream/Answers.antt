use Rattle.std.proofs.Common.{inl, inr, sym, ◌∙◌, arith}
use Rattle.sm_graph.proofs.Searching.{upstream-found}
use Rattle.sm_graph.proofs.walking.all_upstream.Goals as goal
use Rattle.sm_graph.proofs.walking.all_upstream.Goals.{else-loop-at-test, then-loop-at-test+in-None}

pub returns : goal.returns
returns c = record {
  exactly = λ u. upstream-found c.args.edges.now c.args.to c.loop-at.at u c.loop-at.found.keys c.loop-at.invariant.0 c.loop-at.invariant.1
      (elim c.loop-at-test.branch [ else-loop-at-test w ↦ inr (omega arith) | then-loop-at-test+in-None w ↦ inl (sym w.get_index.ensures.key ∙ (sym w.copied.ensures ∙ w.in-None.is)) ]);
  once = c.loop-at.invariant.1;
}
