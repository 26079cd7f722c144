-- What a history was asked for, and what the report asks for.
use Rattle.std.specs.Prelude.{ℕ, suc, List, [], ◌∷◌, ◌++◌, length, map, Some, None}
use Rattle.sm_model.specs.declared.event.Event.{Event}
use Rattle.sm_model.specs.declared.event.Event.TheVariants as events
use Rattle.sm_model.specs.declared.reply.Entry.{Entry}
use Rattle.sm_defs.specs.Volume.{Volume, numbers}
use Rattle.sm_defs.specs.World.{Up}
use Rattle.sm_defs.specs.Relationship.{Relationship}
use Rattle.sm_model.specs.Answers.{volno, relno}

-- who asked for what, and for which line of the script
pub record Asked : Type 0 where
  pub actor : ℕ
  pub line : ℕ
  pub event : Event

abbrev pub asked_of : Entry → Asked
asked_of e = record { actor = e.actor; line = e.line; event = e.event }

-- the script's actor asks for an event
abbrev pub asking : ℕ → Event → Asked
asking line event = record { actor = 0; line = line; event = event }

-- the active image, then each snapshot, oldest first
abbrev pub digest_events : ℕ → ℕ → List Event
digest_events i count = events.Digest (volno i) None ∷ map (λ k. events.Digest (volno i) (Some k)) (numbers 0 count)

abbrev pub events_of_volume : ℕ → Volume → List Event
events_of_volume i v = events.VolumeLine (volno i) ∷ digest_events i (length v.snapshots)

-- the volumes from the i-th on
abbrev pub events_of_volumes : ℕ → List Volume → List Event
events_of_volumes i [] = []
events_of_volumes i (v ∷ vs) = events_of_volume i v ++ events_of_volumes (suc i) vs

abbrev pub event_of_relation : Relationship → Event
event_of_relation r = events.RelationLine (relno r.number)

-- the report of a world
abbrev pub report_events : Up → List Event
report_events w = events.Head ∷ (events_of_volumes 0 w.volumes ++ map event_of_relation w.relations)
