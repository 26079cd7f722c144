-- What a client's snapshot asks of the world.
use Rattle.std.specs.Prelude.{◌≡◌, ℕ, false, Some, slice_get}
use Rattle.sm_defs.specs.Volume.{Volume, has}
use Rattle.sm_defs.specs.World.{Up}
use Rattle.sm_model.specs.OfVolumes.{client_ident}

-- the identity that a client's next snapshot of a volume gets is on none of the volume's snapshots
abbrev pub IdentsAreNew : Up → Type 0
IdentsAreNew w = (at : ℕ) (v : Volume) → slice_get w.volumes at ≡ Some v → has v.snapshots (client_ident at v) ≡ false
