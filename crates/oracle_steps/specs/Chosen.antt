-- What this program's choice makes of plain values.
use Rattle.std.specs.Prelude.{◌≡◌, ℕ, Option, None, Some}
use Rattle.sm_defs.specs.Words.{Found}
use Rattle.sm_defs.specs.Relationship.{Relationship}
use Rattle.sm_defs.specs.World.{Up}
use Rattle.sm_model.specs.declared.reply.Reply.{Reply}
use Rattle.sm_model.specs.Steps.{Effect}
use Rattle.oracle_steps.specs.declared.change.PlainChange.{PlainChange}
use Rattle.oracle_steps.specs.declared.change.PlainFound.{PlainFound}
use Rattle.oracle_steps.specs.declared.change.PlainChoice.{PlainChoice}
use Rattle.oracle_steps.specs.Changes.{IsChange}

-- a relationship and its place
abbrev pub found_at : PlainFound → Found Relationship
found_at f = record { at = f.at; item = f.relation.now }

-- there is a change where there is an effect
abbrev pub AreChange : Up → ℕ → Option PlainChange → Option Effect → Type 0
AreChange w k None None = Unit {0}
AreChange w k (Some change) (Some effect) = IsChange w k change effect
AreChange w k None (Some effect) = ⊥
AreChange w k (Some change) None = ⊥

-- the change with the place of the relationship whose transfer it is a step of
abbrev pub IsChosen : Up → Option PlainChoice → Option Effect → Type 0
IsChosen w None None = Unit {0}
IsChosen w (Some choice) (Some effect) = IsChange w choice.at choice.change effect
IsChosen w None (Some effect) = ⊥
IsChosen w (Some choice) None = ⊥

-- the effect was done, or none was there and the world stays
abbrev pub IsStepped : Up → Option Effect → Option Reply → Up → Type 0
IsStepped w None None new = new ≡ w
IsStepped w (Some effect) (Some reply) new = (reply ≡ effect.reply) × (new ≡ effect.world)
IsStepped w None (Some reply) new = ⊥
IsStepped w (Some effect) None new = ⊥
