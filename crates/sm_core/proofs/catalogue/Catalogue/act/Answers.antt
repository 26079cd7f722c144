use Rattle.std.proofs.Common.{ℕ, ◌<◌, List, [], ◌∷◌, ◌++◌, length, sym, ap, ◌∙◌, subst}
use Rattle.sm_base.specs.declared.limits.TheConstants.{MOST_ENTRIES}
use Rattle.std.proofs.lemmas.Result.{IfOk-weaker, IfOk-at_ok, IfErr-at_err, on_err_weaker}
use Rattle.sm_model.specs.declared.reply.Entry.{Entry}
use Rattle.sm_history.specs.Log.{Log}
use Rattle.sm_history.specs.Acts.{entry}
use Rattle.sm_node.specs.Parts.{AllTold}
use Rattle.sm_core.specs.Kept.{Kept}
use Rattle.sm_core.specs.Falling.{world_now}
use Rattle.sm_core.specs.Doing.{Leads, GoesAcross, IsSaid}
use Rattle.sm_core.specs.Written.{WritesOnly}
use Rattle.sm_core.proofs.Entries.{same_kept}
use Rattle.sm_core.proofs.catalogue.Catalogue.act.Goals as goal

pub returns-clause-one : goal.returns-clause-one
returns-clause-one g c =
    let state = g.D.Disk.state in
    let e = c.args.event in
    let old = c.self.view_is in
    let new = c.reply_to-replies.new in
    IfOk-weaker c.keep.result _ _ (λ reply h.
    let does = IfOk-at_ok _ h.1 c.reply_to-replies.ensures.ok in
    let twice = IfOk-at_ok _ h.1 c.reply_to-replies.ensures.twice in
    record {
      kept = h.0;
      tells = twice;
      room = subst (λ (k : Kept _). length k.history < MOST_ENTRIES) old
          (subst (λ (es : List Entry). length es < MOST_ENTRIES) c.reserve.ensures.entries
          (subst (λ (n : ℕ). length c.reserve.new.self.entries < n) (c.reserve.ensures.limit ∙ c.self.invariant.limit) c.keep.ensures.room.below));
      grown = h.2 ∙ ap (λ (es : List Entry). es ++ entry c.args.actor c.args.line e h.0 ∷ []) (c.reserve.ensures.entries ∙ ap (λ (k : Kept _). k.history) old);
      sides = ap (λ (k : Kept _). k.sides) old;
      leads = λ told. subst (λ (k : Kept _). Leads k.world (entry c.args.actor c.args.line e h.0) (world_now new.down new.node)) old
          (does.leads (subst (λ (k : Kept _). AllTold state k.node.seats) (sym old) told) c.args.line);
      across = subst (λ (k : Kept _). GoesAcross state k.world e k.node new.node) old does.across;
      blocks = subst (λ (k : Kept _). WritesOnly state k.world e k.node new.node) old does.blocks;
      said = subst (λ (k : Kept _). IsSaid state k.world c.args.actor e h.0 k.node new.node (world_now new.down new.node)) old does.said;
    }) c.keep.ensures.kept

pub returns-clause-same : goal.returns-clause-same
returns-clause-same g c =
    let before = c.self.inside in
    let new = c.reply_to-replies.new in
    on_err_weaker c.keep.result (λ h.
    same_kept before.down new.down before.node new.node before.history.entries c.keep.new.history.entries before.sides.items
    (IfErr-at_err _ h.1 c.reply_to-replies.ensures.same_down) (IfErr-at_err _ h.1 c.reply_to-replies.ensures.same_node)
    (ap (λ (l : Log). l.entries) h.2 ∙ c.reserve.ensures.entries)
    ∙ c.self.view_is) c.keep.ensures.starved
