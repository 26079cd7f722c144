-- The laws of sound worlds and of their transfers are not empty.
use Rattle.std.specs.Prelude.{◌≡◌, ℕ}
use Rattle.sm_base.specs.declared.numbers.PolicyKind.{PolicyKind}
use Rattle.sm_base.specs.declared.numbers.TransferKind.{TransferKind}
use Rattle.sm_defs.specs.World.{Up}
use Rattle.sm_model.specs.Running.{Running, IsRunning}
use Rattle.sm_model.specs.Sound.{SoundUp}

-- in some sound world a transfer of the kind runs, of a mirror or of a vault
abbrev pub TransfersRun : Type 0
TransfersRun =
    (policy : PolicyKind) (kind : TransferKind) → (w : Up) × (k : ℕ) × (x : Running) × SoundUp w × IsRunning w k x × (x.policy.kind ≡ policy) × (x.transfer.kind ≡ kind)
