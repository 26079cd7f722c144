-- Which events have no answer of their own.
use Rattle.std.proofs.Common.{◌≡◌, ℕ, Option, Some, None}
use Rattle.sm_model.specs.declared.event.Event.{Event}
use Rattle.sm_model.specs.declared.event.Event.TheVariants as events
use Rattle.sm_defs.specs.World.{Up}
use Rattle.sm_model.specs.declared.reply.Reply.{Reply}
use Rattle.sm_model.specs.Answers.{Answer}
use Rattle.sm_model.specs.Answer.{answer}
use Rattle.oracle_volumes.specs.Answering.{IsReplied}
use Rattle.oracle_answers.specs.Acting.{IsUnanswered, IsReached, IsActed}

-- without an answer of its own an event is a step or a restart
pub unanswered : (w : Up) (e : Event) → answer w e ≡ None → IsUnanswered e
unfolding answer IsUnanswered
unanswered w (events.CreateVolume path disk kind logical physical) e = absurd (cc)
unanswered w events.ShowVolumes e = absurd (cc)
unanswered w (events.Write path block fill) e = absurd (cc)
unanswered w (events.Snap path name label) e = absurd (cc)
unanswered w (events.Unsnap path name) e = absurd (cc)
unanswered w (events.ShowSnaps path) e = absurd (cc)
unanswered w (events.CreatePolicy name kind) e = absurd (cc)
unanswered w (events.AddRule name label keep preserve) e = absurd (cc)
unanswered w events.ShowPolicies e = absurd (cc)
unanswered w (events.Relate source destination policy) e = absurd (cc)
unanswered w (events.Initialize destination) e = absurd (cc)
unanswered w (events.Update destination) e = absurd (cc)
unanswered w (events.Quiesce destination) e = absurd (cc)
unanswered w (events.Resume destination) e = absurd (cc)
unanswered w (events.Abort destination hard) e = absurd (cc)
unanswered w (events.Break destination) e = absurd (cc)
unanswered w (events.Resync destination) e = absurd (cc)
unanswered w (events.Delete destination) e = absurd (cc)
unanswered w (events.Release source destination) e = absurd (cc)
unanswered w events.ShowRelations e = absurd (cc)
unanswered w (events.Clock time) e = absurd (cc)
unanswered w (events.Cp path) e = absurd (cc)
unanswered w (events.Read path name block) e = absurd (cc)
unanswered w events.Head e = absurd (cc)
unanswered w (events.VolumeLine volume) e = absurd (cc)
unanswered w (events.Digest volume place) e = absurd (cc)
unanswered w (events.RelationLine relation) e = absurd (cc)
unanswered w (events.Work shown) e = tt
unanswered w events.Restart e = tt

reached : (w : Up) (o : Option Answer) (reply : Reply) (new : Up) → IsReplied w o (Some reply) new → IsReached w o reply new
reached w None reply new h = absurd (cc)
reached w (Some a) reply new h = h

-- an event that has an answer did what that says
pub replied : (w : Up) (actor : ℕ) (e : Event) (reply : Reply) (new : Up) → IsReplied w (answer w e) (Some reply) new → IsActed w actor e reply new
unfolding answer IsActed
replied w actor (events.Work shown) reply new h = absurd (cc)
replied w actor events.Restart reply new h = absurd (cc)
replied w actor e reply new h = reached w (answer w e) reply new h

-- without an answer nothing changed
pub unchanged : (w new : Up) (o : Option Answer) → IsReplied w o None new → new ≡ w
unchanged w new None h = h.1
unchanged w new (Some a) h = absurd h
