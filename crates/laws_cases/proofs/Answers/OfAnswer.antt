-- What each answer that is no refusal is: one case for each way to change the world.
use Rattle.std.proofs.Common.{ℕ, List, true, false, Option, Some, None, Ok, refl}
use Rattle.sm_model.specs.declared.event.Event.{Event}
use Rattle.sm_model.specs.declared.event.Event.TheVariants as events
use Rattle.sm_model.specs.declared.reply.Reply.TheVariants as replies
use Rattle.sm_model.specs.declared.reply.Line.{Line}
use Rattle.sm_defs.specs.World.{Up}
use Rattle.sm_model.specs.Answers.{Answer, Reached, told}
use Rattle.sm_model.specs.Origin.{made_by}
use Rattle.sm_model.specs.OfReport as reports
use Rattle.sm_model.specs.Answer.{answer}
use Rattle.laws_cases.proofs.Answers.Walk.{OfOk, with_found}
use Rattle.laws_cases.proofs.Answers.Changes.{Is}
use Rattle.laws_cases.proofs.Answers.Plainly.{by_told, same}
use Rattle.laws_cases.proofs.Answers.OfVolumeEvents.{create_volume, write, snap, unsnap, cp, read, create_policy, add_rule, set_clock}
use Rattle.laws_cases.proofs.Answers.OfRelationEvents.{relate, set_quiesced, break_off, delete, release, initialize, update, abort, resync}

table : (w : Up) (ev : Event) (ls : List Line) → OfOk (Is w ev) (Ok (record { reply = told (replies.Table ls); world = w }))
unfolding made_by
table w ev ls = by_told w w ev _ (record { makes_none = refl; accepted = λ r e. cc }) (same w ev)

line : (w : Up) (ev : Event) (l : Line) → OfOk (Is w ev) (Ok (record { reply = told (replies.Line l); world = w }))
unfolding made_by
line w ev l = by_told w w ev _ (record { makes_none = refl; accepted = λ r e. cc }) (same w ev)

show_snapshots : (w : Up) (ev : Event) (path : List ℕ) → OfOk (Is w ev) (reports.show_snapshots w path)
show_snapshots w ev path = with_found _ _ _ _ (λ v _. table w ev _)

unfoldable pub OfAnswer : (Reached → Type 0) → Option Answer → Type 0
OfAnswer P None = Unit {0}
OfAnswer P (Some a) = OfOk P a

pub of_answer : (w : Up) (e : Event) → OfAnswer (Is w e) (answer w e)
unfolding answer OfAnswer
of_answer w (events.CreateVolume path disk kind logical physical) = create_volume w _ path disk kind logical physical
of_answer w events.ShowVolumes = table w _ _
of_answer w (events.Write path block fill) = write w _ path block fill
of_answer w (events.Snap path name label) = snap w _ path name label refl
of_answer w (events.Unsnap path name) = unsnap w _ path name refl
of_answer w (events.ShowSnaps path) = show_snapshots w _ path
of_answer w (events.CreatePolicy name kind) = create_policy w _ name kind
of_answer w (events.AddRule name label keep preserve) = add_rule w _ name label keep preserve
of_answer w events.ShowPolicies = table w _ _
of_answer w (events.Relate source destination policy) = relate w _ source destination policy
of_answer w (events.Initialize destination) = initialize w _ destination
of_answer w (events.Update destination) = update w _ destination
of_answer w (events.Quiesce destination) = set_quiesced w _ destination true
of_answer w (events.Resume destination) = set_quiesced w _ destination false
of_answer w (events.Abort destination hard) = abort w _ destination hard
of_answer w (events.Break destination) = break_off w _ destination
of_answer w (events.Resync destination) = resync w _ destination
of_answer w (events.Delete destination) = delete w _ destination
of_answer w (events.Release source destination) = release w _ source destination
of_answer w events.ShowRelations = table w _ _
of_answer w (events.Clock time) = set_clock w _ time
of_answer w (events.Cp path) = cp w _ path
of_answer w (events.Read path name block) = read w _ path name block
of_answer w (events.Work shown) = tt
of_answer w events.Restart = tt
of_answer w events.Head = line w _ _
of_answer w (events.VolumeLine volume) = line w _ _
of_answer w (events.Digest volume place) = line w _ _
of_answer w (events.RelationLine relation) = line w _ _
