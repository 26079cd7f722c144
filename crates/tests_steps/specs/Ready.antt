-- Two volumes between which a transfer's blocks may be shipped.
use Rattle.std.specs.Prelude.{◌≡◌, ℕ, ◌<◌, true, false, length}
use Rattle.sm_defs.specs.Image.{stands}
use Rattle.sm_select.specs.Planned.{Planned}
use Rattle.sm_volume.specs.Mounted.{Mounted}
use Rattle.sm_transfer.specs.Sending.{Sending}
use Rattle.sm_transfer.specs.Shipping.{IsShippable}

-- both are up, and each index of the plan that has not landed may be shipped
pub record IsReady {D : Type 0} (plan : Planned) (s d : Mounted D) : Type 0 where
  pub fits : (t : Sending) (index : ℕ) → t.plan ≡ plan → index < length t.plan.pairs → stands index t.landed ≡ false → IsShippable t index s.volume d.volume
  pub source_up : s.up ≡ true
  pub destination_up : d.up ≡ true
