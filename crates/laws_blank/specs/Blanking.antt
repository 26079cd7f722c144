-- What an event asks, and is answered, where the blocks of a world are read as zeros.
use Rattle.std.specs.Result.{result_map_both}
use Rattle.sm_base.specs.declared.refusal.Refusal.{Refusal}
use Rattle.sm_model.specs.declared.event.Event.{Event}
use Rattle.sm_model.specs.declared.event.Event.TheVariants as events
use Rattle.sm_model.specs.Answers.{Answer, Reached}
use Rattle.sm_shape.specs.Blanked.{blanked}

-- no answer of the event tells the bytes of a block, or their digest. Of a worker's step and of a restart the world
-- alone has no answer.
unfoldable pub ShowsNoBytes : Event → Type 0
ShowsNoBytes (events.Read path name block) = ⊥
ShowsNoBytes (events.Digest volume place) = ⊥
ShowsNoBytes e = Unit {0}

-- a write gives zeros
unfoldable pub blanked_event : Event → Event
blanked_event (events.Write path block fill) = events.Write path block 0
blanked_event e = e

abbrev pub blanked_reached : Reached → Reached
blanked_reached r = record { reply = r.reply; world = blanked r.world }

-- the same reply or refusal
abbrev pub blanked_answer : Answer → Answer
blanked_answer a = result_map_both blanked_reached (λ (refusal : Refusal). refusal) a
