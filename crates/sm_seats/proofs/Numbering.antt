-- From seats to the numbers of their disks.
use Rattle.std.proofs.Common.{inl, inr, ⊎_elim, ℕ, length, sym, subst}
use Rattle.sm_disk.specs.Image.{Image}
use Rattle.sm_disk.specs.Disk.{DiskState}
use Rattle.sm_seats.specs.Seats.{World, Shown}
use Rattle.sm_seats.specs.Numbers.{ShownByNumber, KeepsNumbers, SeatsAreNumbered}

renumbered : (count : ℕ) (old_number new_number : ℕ → ℕ) (before : World) → KeepsNumbers count old_number new_number before → (images : ℕ → Image)
    → Shown count before (λ seat. images (new_number seat)) → ShownByNumber count old_number before images
renumbered count old_number new_number before keeps images shown = λ seat lt. ⊎_elim
    (λ same. subst (λ (n : ℕ). before seat (images n)) (sym same) (shown seat lt))
    (λ nothing. nothing (images (old_number seat)))
    (keeps seat lt)

pub seats_are_numbered : {D W : Type 0} (state : D → DiskState) (shows : W → World) → SeatsAreNumbered state shows
seats_are_numbered state shows = λ commits before after olds news old_number new_number keeps whole images left. ⊎_elim
    (λ old. inl (renumbered (length olds) old_number new_number (shows before) keeps images old))
    (λ new. inr new)
    (whole.images (λ seat. images (new_number seat)) left)
