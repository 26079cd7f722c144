-- The deed that an event would have been.
use Rattle.std.specs.Prelude.{ℕ, List, Option, Some, None, Ok, Err, Box}
use Rattle.std.specs.Global.{Global}
use denote.RawPtr.{null_ptr}
use Rattle.sm_base.specs.declared.numbers.Block.{Block as StoredBlock}
use Rattle.sm_defs.specs.World.{Up}
use Rattle.sm_model.specs.declared.event.Event.{Event}
use Rattle.sm_model.specs.declared.reply.Reply.{Reply}
use Rattle.sm_model.specs.declared.reply.Reply.TheVariants as replies
use Rattle.sm_model.specs.Answers.{Answer, Told, Reached, told, bytes}
use Rattle.sm_model.specs.Answer.{answer}
use Rattle.sm_model.specs.World.{Deed}
use Rattle.sm_model.specs.LegalRun.{restart_deed}
use Rattle.sm_node.specs.Acts.{reached_of}

-- the bytes of a block in a box, wherever that lies
abbrev pub boxed : List ℕ → Box StoredBlock Global
boxed bs = record { ptr = null_ptr; alloc = record { memory = record { seal = tt } }; value = record { 0 = bs } }

-- a reply that tells this
abbrev pub reply_of : Told → Reply
reply_of (told reply) = reply
reply_of (bytes bs) = replies.Bytes (boxed bs)

abbrev pub deed_to : Up → ℕ → Event → Reached → Deed
deed_to w actor event reached = record { actor = actor; event = event; old = w; reply = reply_of reached.reply; new = reached.world }

-- a refusal would have done nothing, and a restart would have left the world
unfoldable pub deed_by : Up → ℕ → Event → Option Answer → Deed
deed_by w actor event None = restart_deed w
deed_by w actor event (Some (Err refusal)) = restart_deed w
deed_by w actor event (Some (Ok reached)) = deed_to w actor event reached

abbrev pub deed_of : Up → ℕ → Event → Deed
deed_of w actor event = deed_by w actor event (answer w event)

-- the world that an event reaches, or the old one
abbrev pub next_of : Up → Option Answer → Up
next_of w None = w
next_of w (Some a) = reached_of w a
