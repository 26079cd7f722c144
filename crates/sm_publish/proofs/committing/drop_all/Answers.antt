use Rattle.std.proofs.Common.{ℕ, length, None, sym, ap, subst, ◌∙◌, arith}
use Rattle.sm_base.specs.declared.numbers.VolNo.{VolNo}
use Rattle.sm_transfer.specs.declared.fault.StepFault.{StepFault}
use Rattle.volume_store.specs.declared.faults.VolumeFault.{VolumeFault}
use Rattle.volume_store.specs.Refusals.{Refuses}
use Rattle.sm_root.specs.declared.root.Root.{Root}
use Rattle.std.specs.Prelude.{Result, Option}
use Rattle.sm_publish.specs.Committing.{answered}
use Rattle.sm_publish.specs.Dropping.{Drops}
use Rattle.sm_publish.proofs.GoingLemmas.{differ_kept, few_gone, none_go, some_go, not_refused}
use Rattle.sm_publish.proofs.committing.drop_all.Goals as goal

pub overflow_cast-count : goal.overflow_cast-count
overflow_cast-count g c =
    let few = few_gone c.requires.there.0 c.args.volume.now.volume.snapshots c.args.drops.now c.requires.there.1 in
    let most = c.told.ensures.good.few in
    omega (arith, few, most)

pub returns-then-count-eq0 : goal.returns-then-count-eq0
returns-then-count-eq0 g c = λ test is.
    none_go g.D.Disk.state test c.args.volume.now c.args.drops.now (differ_kept c.args.volume.now.volume.snapshots c.told.ensures.good.idents_differ) is c.if-count-eq0.true

pub answered-requires : goal.answered-requires
answered-requires g c =
    subst (λ (o : Option VolumeFault). Refuses o c.remove-done.result) (not_refused c.requires.there.0 c.args.volume.now.volume c.args.drops.now c.requires.there.1) c.remove-done.ensures.refused

pub returns : goal.returns
returns g c = λ test is.
    let old = c.args.volume.now in
    let number = ap (λ (r : Root). r.number) c.root.ensures in
    subst (λ (r : Result ℕ StepFault). Drops g.D.Disk.state test None r old c.remove-done.new.self)
    (sym (c.answered.ensures ∙ ap (λ (n : VolNo). answered n (length c.args.drops.now) c.remove-done.result) number))
    (some_go g.D.Disk.state test old c.args.drops.now (differ_kept old.volume.snapshots c.told.ensures.good.idents_differ) is c.remove-done.new.self c.remove-done.result c.if-count-eq0.false c.remove-done.ensures.refused c.remove-done.ensures.commits)
