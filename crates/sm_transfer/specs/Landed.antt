-- Landed blocks lie on the images of their destinations' disks.
use Rattle.std.specs.Prelude.{◌≡◌, ℕ, false, List, ◌∷◌, Some, slice_get}
use Rattle.sm_base.specs.declared.numbers.Ident.{Ident}
use Rattle.sm_defs.specs.Relationship.{Relationship, Transfer}
use Rattle.sm_defs.specs.Volume.{Snapshot, has}
use Rattle.sm_defs.specs.World.{Up}
use Rattle.sm_disk.specs.Image as disk
use Rattle.sm_model.specs.Running.{Running, running_in}
use Rattle.sm_model.specs.Steps.{snapshot_of}
use Rattle.sm_transfer.specs.Beginning.{MayBegin, IsLegPlan}
use Rattle.sm_transfer.specs.Defined.{IsOf}
use Rattle.sm_transfer.specs.Landing.{HasLanded, LegHasLanded}
use Rattle.sm_transfer.specs.Sending.{Sending}

-- of a transfer whose destination lacks its first leg, each index that landed has the leg's bytes there
abbrev pub Landed : Running → disk.Image → Type 0
Landed x c = (i : Ident) (later : List Ident) (leg : Snapshot) → x.transfer.legs ≡ i ∷ later → has x.destination.snapshots i ≡ false → snapshot_of x.source.snapshots (Some i) ≡ Some leg →
    LegHasLanded x leg x.transfer.landed c

-- of every transfer to the volume at a place, on an image of that volume's disk
abbrev pub LandedAt : Up → ℕ → disk.Image → Type 0
LandedAt w i c = (k : ℕ) (r : Relationship) (t : Transfer) → slice_get w.relations k ≡ Some r → r.transfer ≡ Some t → r.destination ≡ i → Landed (running_in w r t) c

-- what landed by a leg's plan is what landed of the transfer
abbrev pub WhatLandedHasLanded : Type 0
WhatLandedHasLanded = (x : Running) (leg : Snapshot) (t : Sending) (c : disk.Image) → MayBegin x leg → IsLegPlan x leg t.plan → IsOf t x.transfer → HasLanded t.plan t.landed x.source c → Landed x c
