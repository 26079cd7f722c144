-- Which due step this program takes for an actor.
use Rattle.std.specs.Prelude.{ℕ, suc, ◌+◌, ◌%◌, List, [], ◌∷◌, length, slice_get, Option, Some, None, cond}
use Rattle.std.specs.List.{filter, find}
use Rattle.sm_base.specs.declared.limits.TheConstants.{WINDOW}
use Rattle.sm_defs.specs.Volume.{Snapshot, numbers}
use Rattle.sm_defs.specs.Relationship.{Relationship, Transfer}
use Rattle.sm_defs.specs.Words.{Found}
use Rattle.sm_defs.specs.Edges.{runs}
use Rattle.sm_defs.specs.World.{Up}
use Rattle.sm_model.specs.Running.{Running, running_in}
use Rattle.sm_model.specs.Steps.{Effect, cost, may_ship}
use Rattle.sm_model.specs.Due.{StepKind, revert, finish, settle, prepare, prune, publish, checkpoint, ship, kind_due, revert_effect, finish_effect, settle_effect, prepare_effect, prune_effect, publish_effect, checkpoint_effect, ship_effect, tidy_due, tidy_effect}

abbrev pub with_running : ℕ → Relationship → List (Found Relationship) → List (Found Relationship)
with_running k r later = cond (runs r) (record { at = k; item = r } ∷ later) later

-- those of the relationships from the k-th on that have a running transfer
abbrev pub running_from : ℕ → List Relationship → List (Found Relationship)
running_from k [] = []
running_from k (r ∷ rs) = with_running k r (running_from (suc k) rs)

abbrev pub running : Up → List (Found Relationship)
running w = running_from 0 w.relations

-- place a mod n of n
abbrev pub taken : {X : Type 0} → ℕ → List X → Option X
taken a [] = None
taken a (x ∷ xs) = slice_get (x ∷ xs) (a % length (x ∷ xs))

-- the indexes that may be shipped, ascending
abbrev pub shippable : Running → ℕ → List ℕ
shippable x cost = filter (may_ship x cost) (numbers 0 (x.transfer.checkpoint + WINDOW))

abbrev pub shipped : Up → ℕ → Running → Snapshot → Option ℕ → Option Effect
shipped w k x leg None = None
shipped w k x leg (Some index) = Some (ship_effect w k x leg index)

abbrev pub effect_for : Up → ℕ → ℕ → Running → Option StepKind → Option Effect
effect_for w a k x None = None
effect_for w a k x (Some (revert base)) = Some (revert_effect w k x base)
effect_for w a k x (Some (finish base)) = Some (finish_effect w k x base)
effect_for w a k x (Some (settle i later)) = Some (settle_effect w k x i later)
effect_for w a k x (Some (prepare i)) = Some (prepare_effect w k x i)
effect_for w a k x (Some prune) = Some (prune_effect w k x)
effect_for w a k x (Some (publish leg)) = Some (publish_effect w k x leg)
effect_for w a k x (Some checkpoint) = Some (checkpoint_effect w k x)
effect_for w a k x (Some (ship leg)) = shipped w k x leg (taken a (shippable x (cost x leg)))

abbrev pub chosen_with : Up → ℕ → ℕ → Running → Option Effect
chosen_with w a k x = effect_for w a k x (kind_due x)

abbrev pub tidied : Up → Option ℕ → Option Effect
tidied w None = None
tidied w (Some i) = Some (tidy_effect w i)

abbrev pub chosen_for : Up → ℕ → Relationship → ℕ → Option Effect
chosen_for w a r k = chosen_of r.transfer
  where
    chosen_of : Option Transfer → Option Effect
    chosen_of None = None
    chosen_of (Some t) = chosen_with w a k (running_in w r t)

-- Place a mod m of the m relationships whose transfer runs; without any, the lowest volume that is due to be tidied.
abbrev pub chosen_of : Up → ℕ → Option (Found Relationship) → Option Effect
chosen_of w a (Some f) = chosen_for w a f.item f.at
chosen_of w a None = tidied w (find (tidy_due w) (numbers 0 (length w.volumes)))

-- the step for an actor, or none where nothing is due
abbrev pub chosen : Up → ℕ → Option Effect
chosen w a = chosen_of w a (taken a (running w))
