-- What the disks of a node show together through an event, of which one commits.
-- A world is a predicate for each seat: what an image of that seat's disk is to show. Seat 0 is the catalogue's, and seat
-- i + 1 that of volume i, so no clause needs to know that disks differ, and a seat that shows nothing asks for nothing.
use Rattle.std.specs.Prelude.{◌≡◌, ◌≢◌, ◌⊎◌, ℕ, ◌<◌, ◌≤◌, List, length, Some, slice_get}
use Rattle.sm_disk.specs.Image.{Image}
use Rattle.sm_disk.specs.Disk.{DiskState, GoesOn}

-- what an image of each seat's disk is to show
abbrev pub World : Type 1
World = ℕ → Image → Type 0

-- each image shows its seat's part of the world
abbrev pub Shown : ℕ → World → (ℕ → Image) → Type 0
Shown count world images = (seat : ℕ) → seat < count → world seat (images seat)

module _ {D : Type 0} (state : D → DiskState) where
  -- at each seat of both lists
  abbrev pub AtSeats : List D → List D → (ℕ → DiskState → DiskState → Type 0) → Type 0
  AtSeats olds news P = (seat : ℕ) (x y : D) → slice_get olds seat ≡ Some x → slice_get news seat ≡ Some y → P seat (state x) (state y)

  -- each image is from some moment since the event began
  abbrev pub SinceStart : List D → List D → (ℕ → Image) → Type 0
  SinceStart olds news images = AtSeats olds news (λ seat s e. e.left_since s.moment (images seat))

  -- each image but that of the seat that commits is from the event's end
  abbrev pub AtEndBut : ℕ → List D → List D → (ℕ → Image) → Type 0
  AtEndBut commits olds news images = AtSeats olds news (λ seat s e. seat ≢ commits → e.may_leave (images seat))

  -- each image is one that a restart now may leave
  abbrev pub Left : List D → (ℕ → Image) → Type 0
  Left disks images = (seat : ℕ) (x : D) → slice_get disks seat ≡ Some x → (state x).may_leave (images seat)

  -- The crash clause of an event: from whatever moments since it began the images are, they show the world before, or the
  -- image of the seat that commits shows its part of the world after, and then all do where the others' are from the end.
  pub record GoesWhole (commits : ℕ) (before after : World) (olds news : List D) : Type 0 where
    pub images : (images : ℕ → Image) → SinceStart olds news images
        → Shown (length olds) before images
        ⊎ (after commits (images commits) × (AtEndBut commits olds news images → Shown (length olds) after images))
    -- each disk stays at its seat
    pub as_long : length news ≡ length olds
    -- moments do not fall
    pub later : AtSeats olds news (λ seat s e. s.moment ≤ e.moment)
    -- a disk tells its content afterwards exactly where it did before
    pub told : AtSeats olds news (λ seat s e. e.told ≡ s.told)
    -- counts of failures do not fall
    pub counted : AtSeats olds news (λ seat s e. s.faults ≤ e.faults)

  -- What an event owes for that: at the start each image shows the world before; the disks that do not commit go on with
  -- it, and at the end show the world after; the one that commits shows the world before or after.
  pub record OneCommits (commits : ℕ) (before after : World) (olds news : List D) : Type 0 where
    pub is_seat : commits < length olds
    pub as_long : length news ≡ length olds
    pub start : AtSeats olds news (λ seat s e. (c : Image) → s.may_leave c → before seat c)
    pub others : AtSeats olds news (λ seat s e. seat ≢ commits → GoesOn s e (before seat))
    pub one : AtSeats olds news (λ seat s e. seat ≡ commits → GoesOn s e (λ c. before seat c ⊎ after seat c))
    pub ends : AtSeats olds news (λ seat s e. seat ≢ commits → (c : Image) → e.may_leave c → after seat c)

-- Worlds of any type W, of which `shows` says what each seat's disk is to show.
module _ {D W : Type 0} (state : D → DiskState) (shows : W → World) where
  -- every event that owes that has the crash clause
  abbrev pub DisksGoTogether : Type 0
  DisksGoTogether = (commits : ℕ) (before after : W) (olds news : List D) → OneCommits state commits (shows before) (shows after) olds news → GoesWhole state commits (shows before) (shows after) olds news

  -- at its end an event has left the world before or the one after
  abbrev pub EndsInOne : Type 0
  EndsInOne = (commits : ℕ) (before after : W) (olds news : List D) → GoesWhole state commits (shows before) (shows after) olds news
      → (images : ℕ → Image) → Left state news images → Shown (length news) (shows before) images ⊎ Shown (length news) (shows after) images
