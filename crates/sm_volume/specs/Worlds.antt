-- A disk's part of what the disks of a node show together: its volume, and blocks that landed below a checkpoint.
use Rattle.std.specs.Prelude.{◌≡◌, ◌⊎◌, ◌-◌, ℕ, ◌≤◌, List}
use Rattle.sm_base.specs.declared.numbers.VolNo.{VolNo}
use Rattle.sm_defs.specs.Image.{Block}
use Rattle.sm_defs.specs.Volume.{Volume}
use Rattle.sm_defs.specs.Words.{Among}
use Rattle.sm_disk.specs.Image.{Image}
use Rattle.sm_disk.specs.Disk.{DiskState, GoesOn}
use Rattle.sm_volume.specs.Shown.{Shows, Selects, HoldsAll, KeepsBlocks, NoBlock}

pub record Part : Type 0 where
  pub number : VolNo
  pub volume : Volume
  pub landed : List Block

abbrev pub ShowsPart : Part → Image → Type 0
ShowsPart p c = Shows p.number p.volume c × HoldsAll p.landed c

-- and the state of this number is the selected one
abbrev pub SelectsPart : ℕ → Part → Image → Type 0
SelectsPart selected p c = Selects selected p.number p.volume c × HoldsAll p.landed c

-- The blocks that landed are none of those that a call changes.
abbrev pub AreApart : List Block → (ℕ → Type 0) → Type 0
AreApart landed changes = (b : Block) → Among landed b → (1 ≤ b.tag) × (changes b.tag → ⊥)

-- what landed is on each image that a restart now may leave
abbrev pub HaveLanded : List Block → DiskState → Type 0
HaveLanded landed s = (c : Image) → s.may_leave c → HoldsAll landed c

module _ {D : Type 0} (state : D → DiskState) where
  -- How one disk goes on through a call that changes at most one block, which has not landed.
  abbrev pub PartGoesOn : Type 0
  PartGoesOn = (p : Part) (n : ℕ) (x y : D) → AreApart p.landed (λ k. k ≡ n) → KeepsBlocks (λ k. k ≡ n) (state x) (state y) → HaveLanded p.landed (state x)
      → GoesOn (state x) (state y) (Shows p.number p.volume) → GoesOn (state x) (state y) (ShowsPart p)

  -- and with which of its two states is selected
  abbrev pub PartStaysSelected : Type 0
  PartStaysSelected = (selected : ℕ) (p : Part) (n : ℕ) (x y : D) → AreApart p.landed (λ k. k ≡ n) → KeepsBlocks (λ k. k ≡ n) (state x) (state y) → HaveLanded p.landed (state x)
      → GoesOn (state x) (state y) (Selects selected p.number p.volume) → GoesOn (state x) (state y) (SelectsPart selected p)

  -- How it goes on through a call that commits, after which no other block counts as landed.
  abbrev pub PartIsCommitted : Type 0
  PartIsCommitted = (p q : Part) (x y : D) → AreApart p.landed NoBlock → ((b : Block) → Among q.landed b → Among p.landed b) → KeepsBlocks NoBlock (state x) (state y) → HaveLanded p.landed (state x)
      → GoesOn (state x) (state y) (λ c. Shows p.number p.volume c ⊎ Shows q.number q.volume c) → GoesOn (state x) (state y) (λ c. ShowsPart p c ⊎ ShowsPart q c)

  -- and with which of its two states is selected, which tells the side that a restart finds
  abbrev pub PartIsSelected : Type 0
  PartIsSelected = (selected : ℕ) (p q : Part) (x y : D) → AreApart p.landed NoBlock → ((b : Block) → Among q.landed b → Among p.landed b) → KeepsBlocks NoBlock (state x) (state y) → HaveLanded p.landed (state x)
      → GoesOn (state x) (state y) (λ c. Selects selected p.number p.volume c ⊎ Selects (1 - selected) q.number q.volume c)
      → GoesOn (state x) (state y) (λ c. SelectsPart selected p c ⊎ SelectsPart (1 - selected) q c)
