-- The calls as plain assignments to the volume of the definitions.
use Rattle.std.specs.Prelude.{◌≡◌, ℕ, ◌≤◌, Bool, true, false, IsTrue, List, [], ◌∷◌}
use Rattle.sm_defs.specs.Image.{Block, stands}
use Rattle.sm_defs.specs.Volume.{Volume, tags_of, has}
use Rattle.sm_disk.specs.Image as disk
use Rattle.sm_disk.specs.Disk.{DiskState}
use Rattle.volume_store.specs.Held.{block_at}
use Rattle.sm_volume.specs.Seen.{image_of}
use Rattle.sm_volume.specs.Mounted.{Mounted, opened, bare}
use Rattle.sm_volume.specs.Shown.{SameBlocks, NoBlock}
use Rattle.sm_volume.specs.Assigned.{CanAdopt, snapped, adopted, snapshot_of, IsReverted}
use Rattle.sm_defs.specs.Operations.{IsLeastFree, written, settled, removed, writable}
use Rattle.laws_volume.specs.declared.call.Call as the_call
use Rattle.laws_volume.specs.declared.call.Call.TheVariants as calls

-- a volume, and what its disk reads at each physical block
pub record Plain : Type 0 where
  pub volume : Volume
  pub reads : disk.Image

abbrev pub plain : {D : Type 0} → (D → DiskState) → Mounted D → Plain
plain state v = record { volume = v.volume; reads = (state v.disk).seen }

-- these bytes are at the number, and every other block reads as before
pub record IsPut (told : Bool) (n : ℕ) (bytes : List ℕ) (old new : disk.Image) : Type 0 where
  pub here : IsTrue told → block_at new n ≡ bytes
  pub others : SameBlocks (λ k. k ≡ n) old new

-- What the call assigns. On a disk that does not tell its content nothing is said of bytes.
unfoldable pub Assigns : Bool → the_call.Call → Plain → Plain → Type 0
Assigns told (calls.Write at block) old new =
    (b : Block) × IsLeastFree old.volume b.tag × (IsTrue told → b.bytes ≡ block.0)
    × (IsTrue told → block_at new.reads b.tag ≡ b.bytes)
    × (new.volume ≡ written old.volume at b) × SameBlocks (λ k. k ≡ b.tag) old.reads new.reads
Assigns told calls.ConsistencyPoint old new = (new.volume ≡ settled old.volume) × SameBlocks NoBlock old.reads new.reads
Assigns told (calls.Snapshot head) old new = (new.volume ≡ snapped old.volume head) × SameBlocks NoBlock old.reads new.reads
Assigns told (calls.Remove drops) old new = (new.volume ≡ removed old.volume drops.items) × SameBlocks NoBlock old.reads new.reads
Assigns told calls.MakeWritable old new = (new.volume ≡ writable old.volume) × SameBlocks NoBlock old.reads new.reads
Assigns told (calls.Revert ident drop_newer family) old new = IsReverted old.volume ident drop_newer family new.volume × SameBlocks NoBlock old.reads new.reads
Assigns told (calls.Land number block) old new = (new.volume ≡ old.volume) × IsPut told number block.0 old.reads new.reads
Assigns told (calls.Adopt head map family drops) old new =
    (new.volume ≡ adopted old.volume (snapshot_of head (image_of old.reads map.items)) family drops.items) × SameBlocks NoBlock old.reads new.reads
Assigns told calls.Sync old new = new ≡ old
Assigns told (calls.Fetch number) old new = new ≡ old
Assigns told (calls.Read view at) old new = new ≡ old
Assigns told calls.Restart old new = (bare new.volume ≡ bare (opened old.volume)) × (IsTrue told → new.volume ≡ opened old.volume)

-- one call after another
abbrev pub AssignsAll : Bool → List the_call.Call → Plain → Plain → Type 0
AssignsAll told [] old new = new ≡ old
AssignsAll told (c ∷ cs) old new = (mid : Plain) × Assigns told c old mid × AssignsAll told cs mid new

-- what a call asks of the volume beside that it is up: a block lands at a free number and is fetched at a used one, and a map
-- that is taken over fits
abbrev pub IsReady : the_call.Call → Volume → Type 0
IsReady (calls.Land number block) v = (1 ≤ number) × (number ≤ v.physical) × (stands number (tags_of v) ≡ false)
IsReady (calls.Adopt head map family drops) v = (has v.snapshots head.ident ≡ false) × CanAdopt v map.items drops.items
IsReady (calls.Fetch number) v = (1 ≤ number) × (stands number (tags_of v) ≡ true)
IsReady _ v = Unit {0}

-- each call finds what it asks for, whatever the calls before it make
abbrev pub AreReady : Bool → List the_call.Call → Plain → Type 0
AreReady told [] old = Unit {0}
AreReady told (c ∷ cs) old = IsReady c old.volume × ((mid : Plain) → Assigns told c old mid → AreReady told cs mid)

-- calls of which each may come in any state
abbrev pub AskNothing : List the_call.Call → Type 0
AskNothing [] = Unit {0}
AskNothing (c ∷ cs) = ((v : Volume) → IsReady c v) × AskNothing cs
