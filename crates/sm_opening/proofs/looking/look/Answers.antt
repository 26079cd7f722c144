use Rattle.std.proofs.Common.{◌≡◌, ℕ, List, Err, subst}
use Rattle.sm_opening.specs.Looked.{IsDamageOf, AnswersDamage}
use Rattle.sm_opening.specs.OnDisk.{Disks, Damage, IsWholeDamage}
use Rattle.sm_opening.specs.Whole.{world_on, IsSoundOn}
use Rattle.sm_opening.proofs.WholeLooks.{not_counted, unread, wrong, right, spelled}
use Rattle.sm_opening.proofs.looking.look.Goals as goal

pub returns-in-Err-clause-looks : goal.returns-in-Err-clause-looks
returns-in-Err-clause-looks g c = unread g.D.Disk.state c.args.disks.now c.read_records.new.disks c.in-Err.fault c.in-Err.ensures.looks c.in-Err.ensures.whole

pub returns-in-Ok-judge_records-clause-looks : goal.returns-in-Ok-judge_records-clause-looks
returns-in-Ok-judge_records-clause-looks g c =
    right g.D.Disk.state c.args.disks.now c.read_records.new.disks _ c.in-Ok.records c.in-Ok.ensures.looks c.in-Ok.ensures.read c.in-Ok-lengths_of.lengths.items c.in-Ok-lengths_of.ensures
    (subst (λ (l : List ℕ). IsSoundOn l c.in-Ok.records) c.deref.ensures.value c.in-Ok-judge_records.ensures.judged) _
    (subst (λ (l : List ℕ). (y : Disks) → y.sizes ≡ l → (f : Damage) → IsWholeDamage y c.in-Ok.records.catalog.value (world_on y c.in-Ok.records) f → ⊥) c.deref.ensures.value c.in-Ok-judge_records.ensures.exact)

pub returns-in-Ok-judge_records-clause-world : goal.returns-in-Ok-judge_records-clause-world
returns-in-Ok-judge_records-clause-world g c =
    spelled g.D.Disk.state c.args.disks.now c.read_records.new.disks _ c.in-Ok.records c.in-Ok.ensures.looks c.in-Ok.ensures.read c.in-Ok-lengths_of.lengths.items c.in-Ok-lengths_of.ensures
    (subst (λ (l : List ℕ). IsSoundOn l c.in-Ok.records) c.deref.ensures.value c.in-Ok-judge_records.ensures.judged)

pub returns-in-Err-judge_records-clause-looks : goal.returns-in-Err-judge_records-clause-looks
returns-in-Err-judge_records-clause-looks g c =
    wrong g.D.Disk.state c.args.disks.now c.read_records.new.disks _ c.in-Ok.records c.in-Ok.ensures.looks c.in-Ok.ensures.read c.in-Err-judge_records.fault c.in-Ok-lengths_of.lengths.items c.in-Ok-lengths_of.ensures
    (subst (λ (l : List ℕ). (y : Disks) → y.sizes ≡ l → IsDamageOf (IsWholeDamage y c.in-Ok.records.catalog.value (world_on y c.in-Ok.records)) c.in-Err-judge_records.fault) c.deref.ensures.value c.in-Err-judge_records.ensures.faults)
    (subst (λ (l : List ℕ). (y : Disks) → y.sizes ≡ l → (f : Damage) → IsWholeDamage y c.in-Ok.records.catalog.value (world_on y c.in-Ok.records) f → AnswersDamage {A = Unit {0}} f (Err c.in-Err-judge_records.fault)) c.deref.ensures.value c.in-Err-judge_records.ensures.exact)
    (not_counted g.D.Disk.state c.args.disks.now c.read_records.new.disks c.in-Err-judge_records.fault c.in-Err-judge_records.ensures.free)
