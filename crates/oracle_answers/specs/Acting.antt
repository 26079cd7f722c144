-- What the plain machine makes of an event.
use Rattle.std.specs.Prelude.{◌≡◌, ℕ, Option, Some, None}
use Rattle.sm_model.specs.declared.event.Event.{Event}
use Rattle.sm_model.specs.declared.event.Event.TheVariants as events
use Rattle.sm_model.specs.declared.reply.Reply.{Reply}
use Rattle.sm_model.specs.declared.reply.Reply.TheVariants as replies
use Rattle.sm_defs.specs.World.{Up}
use Rattle.sm_model.specs.Answers.{Answer}
use Rattle.sm_model.specs.Answer.{answer}
use Rattle.sm_model.specs.Choice.{chosen}
use Rattle.sm_model.specs.Opened.{opened}
use Rattle.sm_model.specs.Steps.{Effect}
use Rattle.oracle_volumes.specs.Answering.{IsAnswered}

-- the event has an answer, and this is it
abbrev pub IsReached : Up → Option Answer → Reply → Up → Type 0
IsReached old None reply new = ⊥
IsReached old (Some answer) reply new = IsAnswered old answer reply new

-- the effect was done; without one nothing is due
abbrev pub IsWorked : Up → Option Effect → Reply → Up → Type 0
IsWorked old None reply new = (reply ≡ replies.Idle) × (new ≡ old)
IsWorked old (Some effect) reply new = (reply ≡ effect.reply) × (new ≡ effect.world)

-- A worker's step is the one that this program chooses, a restart opens the world, and every other event has its
-- answer.
unfoldable pub IsActed : Up → ℕ → Event → Reply → Up → Type 0
IsActed old actor (events.Work shown) reply new = IsWorked old (chosen old actor) reply new
IsActed old actor events.Restart reply new = (reply ≡ replies.Done) × (new ≡ opened old)
IsActed old actor event reply new = IsReached old (answer old event) reply new

-- a worker's step or a restart
unfoldable pub IsUnanswered : Event → Type 0
IsUnanswered (events.Work shown) = Unit {0}
IsUnanswered events.Restart = Unit {0}
IsUnanswered event = ⊥
