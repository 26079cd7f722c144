-- How the slots stay settled, and what follows for what a restart leaves.
use Rattle.std.proofs.Common.{◌≡◌, inl, ⊎_elim, ℕ, ◌-◌, ◌%◌, ◌<◌, ◌≤◌, List, IsTrue, refl, sym, ◌∙◌, ap, subst, arith}
use Rattle.sm_disk.specs.Image.{Image, SameAt}
use Rattle.sm_disk.specs.Disk.{DiskState, GoesOn, Steps, IsSynced, Wrote}
use Rattle.sm_disk.specs.Spared.{Spares}
use Rattle.sm_disk.proofs.Calls.{image_told}
use Rattle.sm_disk.proofs.Moments.{at_end}
use Rattle.sm_disk.proofs.SparedLemmas.{like_itself, spares_goes, spares_write}
use Rattle.sm_slots.specs.Stored.{stored_at, stored, slot_start, slot_of, slots_end}
use Rattle.sm_slots.specs.Slots.{AtSlots, BehindSlots, Selects, SelectsOne, IsSettled, IsCommitted, IsBefore, IsAfter, IsBeforeOrAfter}
use Rattle.sm_slots.proofs.Spelled.{stored_at-same}

-- two images that agree at the slots select the same slot, which spells the same
pub selects_spared : (c d : Image) → SameAt AtSlots c d → Selects d (slot_of c) (stored c)
selects_spared c d same =
    let slot : slot_of d ≡ slot_of c = ap (λ (b : ℕ). b % 2) (same 0 (omega arith)) in record {
      slot = slot;
      stored = ap (λ (n : ℕ). stored_at d (slot_start n)) slot
          ∙ stored_at-same c d (slot_start (slot_of c)) (λ place from below. same place (let small : slot_of c < 2 = omega arith in omega arith));
    }

-- what two select that follow one another
selects_then : (c d : Image) (n : ℕ) (s : _) → Selects c n s → Selects d (slot_of c) (stored c) → Selects d n s
selects_then c d n s p q = record { slot = q.slot ∙ p.slot; stored = q.stored ∙ p.stored }

-- after a sync or a restart each image selects what a read selects
pub one_synced : (s : DiskState) → IsSynced s → SelectsOne s
one_synced s synced c may = subst (λ (x : Image). Selects x (slot_of s.seen) (stored s.seen)) (sym (synced c may)) (record { slot = refl; stored = refl })

-- a write behind the slots spares them
pub spares_slots : (s w : DiskState) (at n : ℕ) → slots_end ≤ at → Steps s w → Wrote s at n w → Spares AtSlots s w
spares_slots s w at n far step wrote = spares_write AtSlots s w at n (λ place is. inl (omega arith)) step wrote

-- calls that spare the slots leave them settled
pub settled_spared : (s w : DiskState) (number : ℕ) → IsSettled s number → Spares AtSlots s w → IsSettled w number
settled_spared s w number settled spared =
    let seen = selects_spared s.seen w.seen spared.seen in record {
      selected = λ told. settled.selected (subst IsTrue spared.any_moment.told told) ∙ sym seen.slot;
      images = λ c may.
          let from = spared.images c may in
          let old = selects_then from.0 c _ _ (settled.images from.0 from.1) (selects_spared from.0 c from.2) in
          record { slot = old.slot ∙ sym seen.slot; stored = old.stored ∙ sym seen.stored };
    }

-- and each image meanwhile selects what was selected
pub settled_goes : (s w : DiskState) (number : ℕ) → IsSettled s number → Spares AtSlots s w → GoesOn s w (λ c. Selects c number (stored s.seen))
settled_goes s w number settled spared = spares_goes AtSlots s w (λ c. Selects c number (stored s.seen)) spared
    (λ c d may same.
    let old = selects_then d c _ _ (settled.images d may) (selects_spared d c same) in
    record { slot = old.slot ∙ sym (settled.selected (image_told s d may)); stored = old.stored })

-- at the start of a commit each image selects the old record
pub settled_before : (s : DiskState) (number : ℕ) → IsSettled s number → (c : Image) → s.may_leave c → IsBefore s number c
settled_before s number settled c may =
    let is = settled.images c may in record {
      selects = record { slot = is.slot ∙ sym (settled.selected (image_told s c may)); stored = is.stored };
      behind = like_itself BehindSlots s c may;
    }

-- what a restart at the end of a commit may leave
pub commit_leaves : (s e : DiskState) (number : ℕ) (bytes : List ℕ) → IsSettled s number → GoesOn s e (IsBeforeOrAfter s number bytes) → (c : Image) → e.may_leave c → IsBeforeOrAfter s number bytes c
commit_leaves s e number bytes settled goes = at_end s e (IsBeforeOrAfter s number bytes) goes (λ c may. inl (settled_before s number settled c may))

-- it is the old record's exactly where the number is the one from before
pub before_tells : (s : DiskState) (number : ℕ) (bytes : List ℕ) (c : Image) → IsBeforeOrAfter s number bytes c → slot_of c ≡ number → IsBefore s number c
before_tells s number bytes c either is = ⊎_elim (λ old. old) (λ new. absurd (let other = new.selects.slot in omega arith)) either

-- and the new one's exactly where it is the other
pub after_tells : (s : DiskState) (number : ℕ) (bytes : List ℕ) (c : Image) → IsBeforeOrAfter s number bytes c → slot_of c ≡ 1 - number → IsAfter s number bytes c
after_tells s number bytes c either is = ⊎_elim (λ old. absurd (let same = old.selects.slot in omega arith)) (λ new. new) either

-- a committed record is settled
pub settled_committed : (s e : DiskState) (number : ℕ) (bytes : List ℕ) → IsCommitted s e number bytes → e.told ≡ s.told → IsSettled e number
settled_committed s e number bytes committed told = record {
  selected = λ t. sym (committed.selects (subst IsTrue told t)).slot;
  images = one_synced e committed.synced;
}
