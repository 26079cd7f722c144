-- The crash clause by the numbers of the disks.
use Rattle.std.specs.Prelude.{◌≡◌, ◌⊎◌, ℕ, ◌<◌, List, length}
use Rattle.sm_disk.specs.Image.{Image}
use Rattle.sm_disk.specs.Disk.{DiskState}
use Rattle.sm_seats.specs.Seats.{World, Shown, SinceStart, AtEndBut, GoesWhole}

-- the images, one for each number of a disk, show the world whose seats lie on the disks of these numbers
abbrev pub ShownByNumber : ℕ → (ℕ → ℕ) → World → (ℕ → Image) → Type 0
ShownByNumber count number world images = Shown count world (λ seat. images (number seat))

-- each seat keeps its disk's number, or shows nothing of the world before
abbrev pub KeepsNumbers : ℕ → (ℕ → ℕ) → (ℕ → ℕ) → World → Type 0
KeepsNumbers count old_number new_number before = (seat : ℕ) → seat < count → (old_number seat ≡ new_number seat) ⊎ ((c : Image) → before seat c)

-- No clause asks that two seats have two disks: an event's images by the numbers of the disks show the world before, or
-- the one after where the committing disk's does and the others' are from the end.
abbrev pub SeatsAreNumbered : {D W : Type 0} → (D → DiskState) → (W → World) → Type 0
SeatsAreNumbered state shows = (commits : ℕ) (before after : _) (olds news : List _) (old_number new_number : ℕ → ℕ)
    → KeepsNumbers (length olds) old_number new_number (shows before) → GoesWhole state commits (shows before) (shows after) olds news
    → (images : ℕ → Image) → SinceStart state olds news (λ seat. images (new_number seat))
    → ShownByNumber (length olds) old_number (shows before) images
    ⊎ (shows after commits (images (new_number commits)) × (AtEndBut state commits olds news (λ seat. images (new_number seat)) → ShownByNumber (length olds) new_number (shows after) images))
