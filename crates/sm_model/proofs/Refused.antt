-- What is refused is quiet.
use Rattle.std.proofs.Common.{Bool}
use Rattle.sm_defs.specs.World.{Up}
use Rattle.sm_model.specs.declared.event.Event.{Event}
use Rattle.sm_model.specs.declared.event.Event.TheVariants as events
use Rattle.sm_model.specs.declared.reply.Reply.{Reply}
use Rattle.sm_model.specs.Answer.{answer}
use Rattle.sm_model.specs.LegalRun.{IsRefused, IsQuiet}

-- the world alone answers no worker's step
no_step_refused : (w : Up) (shown : Bool) (reply : Reply) → ¬ IsRefused (answer w (events.Work shown)) reply
unfolding answer
no_step_refused w shown reply h = h

-- where it is refused it is quiet
pub refused_quiet : (w : Up) (e : Event) (reply : Reply) → IsRefused (answer w e) reply → IsQuiet w e reply
unfolding IsQuiet
refused_quiet w (events.Work shown) reply h = absurd (no_step_refused w shown reply h)
refused_quiet w e reply h = h
