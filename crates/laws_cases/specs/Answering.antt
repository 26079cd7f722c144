-- What refusals, tables, the report and restarts leave.
use Rattle.std.specs.Prelude.{◌≡◌, List, [], Some, Ok}
use Rattle.sm_base.specs.declared.numbers.Side.{Side}
use Rattle.sm_base.specs.declared.refusal.Refusal.{Refusal}
use Rattle.sm_base.specs.declared.refusal.Refusal.TheVariants as refusals
use Rattle.sm_model.specs.declared.event.Event.{Event}
use Rattle.sm_model.specs.declared.event.Event.TheVariants as events
use Rattle.sm_model.specs.declared.reply.Entry.{Entry}
use Rattle.sm_model.specs.declared.reply.Reply.{Reply}
use Rattle.sm_model.specs.declared.reply.Reply.TheVariants as replies
use Rattle.sm_defs.specs.World.{Up}
use Rattle.sm_model.specs.World.{World, Deed}
use Rattle.sm_model.specs.Answers.{Reached, Tells}
use Rattle.sm_model.specs.Answer.{answer}
use Rattle.sm_model.specs.Steps.{Effect}
use Rattle.sm_model.specs.Due.{IsStep}
use Rattle.sm_model.specs.LegalRun.{IsDeed, Fits}
use Rattle.sm_model.specs.Opened.{opened}

-- a second restart finds the world that the first one left
abbrev pub OpeningAgainChangesNothing : Type 0
OpeningAgainChangesNothing = (w : Up) → opened (opened w) ≡ opened w

-- the event asks for a table, a block or a line of the report
unfoldable pub OnlyShows : Event → Type 0
OnlyShows events.ShowVolumes = Unit {0}
OnlyShows (events.ShowSnaps path) = Unit {0}
OnlyShows events.ShowPolicies = Unit {0}
OnlyShows events.ShowRelations = Unit {0}
OnlyShows (events.Read path name block) = Unit {0}
OnlyShows events.Head = Unit {0}
OnlyShows (events.VolumeLine volume) = Unit {0}
OnlyShows (events.Digest volume place) = Unit {0}
OnlyShows (events.RelationLine relation) = Unit {0}
OnlyShows _ = ⊥

abbrev pub ShowingLeavesTheWorld : Type 0
ShowingLeavesTheWorld = (e : Event) (d : Deed) → OnlyShows e → IsDeed e d → d.new ≡ d.old

abbrev pub OkIsNoRefusal : Type 0
OkIsNoRefusal = (w : Up) (e : Event) (reached : Reached) (reply : Reply) (r : Refusal) →
    answer w e ≡ Some (Ok reached) → Tells reached.reply reply → ¬ (reply ≡ replies.Refused r)

abbrev pub StepsAreNoRefusals : Type 0
StepsAreNoRefusals = (w : Up) (e : Effect) (r : Refusal) → IsStep w e → ¬ (e.reply ≡ replies.Refused r)

-- what took effect was not refused
abbrev pub DeedsAreNoRefusals : Type 0
DeedsAreNoRefusals = (e : Event) (d : Deed) (r : Refusal) → IsDeed e d → ¬ (d.reply ≡ replies.Refused r)

-- a device failed
unfoldable pub IsFault : Refusal → Type 0
IsFault (refusals.DiskFault disk count) = Unit {0}
IsFault _ = ⊥

-- an entry that answers a refusal, but for a device's failure, leaves the world, does nothing, and takes no side
abbrev pub RefusalsLeaveTheWorld : Type 0
RefusalsLeaveTheWorld = (old new : World) (e : Entry) (sides left : List Side) (deeds : List Deed) (r : Refusal) →
    Fits old e sides deeds new left → e.reply ≡ replies.Refused r → ¬ (IsFault r) → (new ≡ old) × (deeds ≡ []) × (left ≡ sides)
