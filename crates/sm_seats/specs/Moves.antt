-- The two ways in which an event moves the disks of a node.
use Rattle.std.specs.Prelude.{◌≡◌, ◌≢◌, ◌⊎◌, ℕ, suc, ◌<◌, List, [], ◌∷◌, ◌++◌, length, Some, slice_get}
use Rattle.sm_disk.specs.Image.{Image}
use Rattle.sm_disk.specs.Disk.{DiskState, GoesOn}
use Rattle.sm_seats.specs.Seats.{World, GoesWhole}

-- each image that a restart now may leave of a seat's disk shows that seat's part of the world
abbrev pub ShowsNow : {D : Type 0} → (D → DiskState) → World → List D → Type 0
ShowsNow state world disks = (seat : ℕ) (x : _) → slice_get disks seat ≡ Some x → (c : Image) → (state x).may_leave c → world seat c

-- One seat changes: its disk shows the world before or after meanwhile, and the others' parts of both worlds are alike.
pub record OneChanges {D : Type 0} (state : D → DiskState) (changes : ℕ) (before after : World) (olds news : List D) : Type 0 where
  pub old : D
  pub new : D
  pub was : slice_get olds changes ≡ Some old
  pub is : slice_get news changes ≡ Some new
  pub kept : (seat : ℕ) → seat ≢ changes → slice_get news seat ≡ slice_get olds seat
  pub as_long : length news ≡ length olds
  pub start : ShowsNow state before olds
  pub goes : GoesOn (state old) (state new) (λ c. before changes c ⊎ after changes c)
  pub rest : (seat : ℕ) → seat ≢ changes → (c : Image) → before seat c → after seat c

-- A seat is formatted behind the others and seat 0 commits. Of the world before the new seat shows nothing, so that
-- whatever is written there asks for nothing.
pub record OneIsAdded {D : Type 0} (state : D → DiskState) (before after : World) (root later_root : D) (volumes : List D) (blank formatted : D) : Type 0 where
  pub start : ShowsNow state before (root ∷ volumes)
  pub nobody : (c : Image) → before (suc (length volumes)) c
  pub formats : GoesOn (state blank) (state formatted) (before (suc (length volumes)))
  pub commits : GoesOn (state root) (state later_root) (λ c. before 0 c ⊎ after 0 c)
  pub rest : (seat : ℕ) → seat ≢ 0 → seat < suc (length volumes) → (c : Image) → before seat c → after seat c
  pub made : (c : Image) → (state formatted).may_leave c → after (suc (length volumes)) c

module _ {D W : Type 0} (state : D → DiskState) (shows : W → World) where
  abbrev pub OneChangesWhole : Type 0
  OneChangesWhole = (changes : ℕ) (before after : W) (olds news : List D) → OneChanges state changes (shows before) (shows after) olds news → GoesWhole state changes (shows before) (shows after) olds news

  abbrev pub OneIsAddedWhole : Type 0
  OneIsAddedWhole = (before after : W) (root later_root : D) (volumes : List D) (blank formatted : D) → OneIsAdded state (shows before) (shows after) root later_root volumes blank formatted
      → GoesWhole state 0 (shows before) (shows after) (root ∷ (volumes ++ blank ∷ [])) (later_root ∷ (volumes ++ formatted ∷ []))

  -- where no disk is asked for anything, nothing changes, whichever seat would have committed
  abbrev pub NothingChanges : Type 0
  NothingChanges = (commits : ℕ) (before after : W) (disks : List D) → ShowsNow state (shows before) disks → GoesWhole state commits (shows before) (shows after) disks disks
