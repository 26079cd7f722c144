use Rattle.std.proofs.Common.{◌≡◌, ◌<◌, ◌-◌, ◌+◌, ℕ, length, drop, refl, subst, ◌∙◌, arith}
use Rattle.std.proofs.Math.ListN.{length-set}
use Rattle.sm_policy.specs.Marks.{kept_marks}
use Rattle.sm_policy.proofs.MarkLemmas.{marks-step, kept_marks-retained}
use Rattle.sm_policy.proofs.policy.Policy.fold.Goals as goal

pub loop-at-preserved : goal.loop-at-preserved
loop-at-preserved c =
    let next : c.loop-at.at ≡ (c.loop-at.at - 1) + 1 = omega arith in
    let less : c.loop-at.at - 1 < length c.args.labels.now = omega arith in (
      marks-step c.args.self.now.rules c.args.labels.now c.args.needed.now c.loop-at.kept.items c.deref.result.now (c.loop-at.at - 1) c.loop-at.at c.count_kept-newer.result c.index-labels-at.result _ c.stays.result
          c.deref.ensures.value next c.loop-at.invariant.0 c.loop-at.invariant.1 c.requires less c.index-labels-at.is refl c.count_kept-newer.ensures.count c.stays.ensures,
      length-set c.loop-at.kept.items (c.loop-at.at - 1) c.stays.result ∙ c.loop-at.invariant.1,
    )

pub returns-clause-retained : goal.returns-clause-retained
returns-clause-retained c =
    let first : c.loop-at.at ≡ 0 = omega arith in
    kept_marks-retained c.args.self.now c.args.labels.now c.args.needed.now c.loop-at.kept.items
    (subst (λ (i : ℕ). drop i c.loop-at.kept.items ≡ kept_marks c.args.self.now.rules (drop i c.args.labels.now) (drop i c.args.needed.now)) first c.loop-at.invariant.0)
