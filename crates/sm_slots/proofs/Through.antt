-- A commit, a restart and an opening.
use Rattle.std.proofs.Common.{◌≡◌, ℕ, ◌-◌, ◌<◌, ◌≤◌, List, length, IsTrue, ◌↔◌, Result, Ok, Err, OnOk, refl, sym, ◌∙◌, ap, subst, arith}
use Rattle.sm_disk.specs.Image.{Image}
use Rattle.sm_disk.specs.Disk.{DiskState, GoesOn, Steps, IsCounted}
use Rattle.sm_slots.specs.declared.faults.SlotFault.{SlotFault}
use Rattle.sm_slots.specs.declared.faults.SlotFault.TheVariants.{DiskFault, TooLarge}
use Rattle.sm_slots.specs.Stored.{slot_of, slot_len}
use Rattle.sm_slots.specs.Slots.{IsBefore, IsAfter, IsBeforeOrAfter, IsCommitted}
use Rattle.sm_slots.proofs.Settled.{before_tells, after_tells}

-- s is the disk before the commit, b after it, and e after the restart and the opening
module _ (s b e : DiskState) (n : ℕ) (bytes : List ℕ) (goes : GoesOn s b (IsBeforeOrAfter s n bytes)) (images : (c : Image) → b.may_leave c → IsBeforeOrAfter s n bytes c)
    (restarts : Steps b e) (image : IsTrue b.told → b.may_leave e.seen) where
  -- the number of the slot is the one from before exactly where the old record is selected
  pub names_before : (m : ℕ) → (IsTrue e.told → m ≡ slot_of e.seen) → IsTrue s.told → m ≡ n ↔ IsBefore s n e.seen
  names_before m is told =
      let told_b : IsTrue b.told = subst IsTrue (sym goes.told) told in
      let selected : m ≡ slot_of e.seen = is (subst IsTrue (sym restarts.told) told_b) in
      let either : IsBeforeOrAfter s n bytes e.seen = images e.seen (image told_b) in
      (λ same. before_tells s n bytes e.seen either (sym selected ∙ same), λ old. selected ∙ old.selects.slot)

  -- where the disk did not fail, the new record is selected
  pub shows_new : {T : Type 0} (r : Result T SlotFault) (m : ℕ) → OnOk r (IsCommitted s b m bytes) → OnOk r (m ≡ 1 - n) → (r ≡ Err TooLarge → slot_len < length bytes) → (r ≡ Err DiskFault → IsCounted s b)
      → length bytes ≤ slot_len → (IsCounted s e → ⊥) → IsTrue s.told → IsAfter s n bytes e.seen
  shows_new (Ok v) m committed other long failed fits sound told =
      let left = image (subst IsTrue (sym goes.told) told) in
      let same : slot_of e.seen ≡ slot_of b.seen = ap slot_of (committed.synced e.seen left) in
      after_tells s n bytes e.seen (images e.seen left) (same ∙ (committed.selects told).slot ∙ other)
  shows_new (Err TooLarge) m committed other long failed fits sound told = absurd (let longer = long refl in omega arith)
  shows_new (Err DiskFault) m committed other long failed fits sound told = absurd (sound (let counted = failed refl in let later = restarts.faults in omega arith))
