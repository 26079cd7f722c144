-- A running transfer of a sound world has a step that can be done.
use Rattle.std.proofs.Common.{◌≡◌, ℕ, Some, refl}
use Rattle.sm_defs.specs.World.{Up}
use Rattle.sm_model.specs.Sound.{SoundUp}
use Rattle.sm_model.specs.Running.{Running, IsRunning}
use Rattle.sm_model.specs.Steps.{Effect, cost}
use Rattle.sm_model.specs.Due.{StepKind, revert, finish, settle, prepare, prune, publish, checkpoint, ship, kind_due, IsEffect, revert_effect, finish_effect, settle_effect, prepare_effect, prune_effect, publish_effect, checkpoint_effect, ship_effect}
use Rattle.laws_cases.proofs.Steps.DueCases.{IsDue, due_ship, kind_is_due}
use Rattle.laws_idle.proofs.HasStep.{has_step}
use Rattle.laws_cases.proofs.Steps.Shipping.{may_ship_first}
use Rattle.laws_idle.proofs.Idling.{in_window}
use Rattle.sm_defs.specs.Progress.{landed_prefix}

has_effect : (w : Up) (k : ℕ) (x : Running) (kind : StepKind) → SoundUp w → IsRunning w k x → IsDue x kind → (e : Effect) × IsEffect w k x kind e
has_effect w k x (revert base) s r d = (revert_effect w k x base, refl)
has_effect w k x (finish base) s r d = (finish_effect w k x base, refl)
has_effect w k x (settle i later) s r d = (settle_effect w k x i later, refl)
has_effect w k x (prepare i) s r d = (prepare_effect w k x i, refl)
has_effect w k x prune s r d = (prune_effect w k x, refl)
has_effect w k x (publish leg) s r d = (publish_effect w k x leg, refl)
has_effect w k x checkpoint s r d = (checkpoint_effect w k x, refl)
has_effect w k x (ship leg) s r (due_ship other h b c f) =
    let m = may_ship_first x (cost x leg) (in_window w k x s r) c f in (ship_effect w k x leg (landed_prefix x.transfer.landed), (landed_prefix x.transfer.landed, m.0, refl))

pub running_have_steps : (w : Up) (k : ℕ) (x : Running) → SoundUp w → IsRunning w k x → (kind : StepKind) × (kind_due x ≡ Some kind) × (e : Effect) × IsEffect w k x kind e
running_have_steps w k x s r =
    let (kind, f) = has_step w k x s (λ q t m e. (s.transfers_stand q t m e).ends) r in
    let (e, i) = has_effect w k x kind s r (kind_is_due x kind f) in (kind, f, e, i)
