-- A world that is up or down, and what was done in it.
use Rattle.std.specs.Prelude.{ℕ}
use Rattle.sm_model.specs.declared.event.Event.{Event}
use Rattle.sm_model.specs.declared.reply.Reply.{Reply}
use Rattle.sm_defs.specs.World.{Up}

-- an event that took effect, with the actor that made it, its reply and the worlds around it
pub record Deed : Type 0 where
  pub actor : ℕ
  pub event : Event
  pub old : Up
  pub reply : Reply
  pub new : Up

-- The node is up; or it is down since the disk of this number failed in a deed, and a restart finds the
-- world before that deed or the one after it.
pub data World : Type 0 where
  up : Up → World
  down : ℕ → Deed → World
