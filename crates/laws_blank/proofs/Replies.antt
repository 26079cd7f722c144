-- An event that shows no bytes is answered by a reply, and one that does leaves the world.
use Rattle.std.proofs.Common.{◌≡◌, ◌⊎◌, ℕ, Option, Some, None, Ok, refl, inl, inr}
use Rattle.sm_base.specs.declared.numbers.TransferKind.{TransferKind}
use Rattle.sm_model.specs.declared.event.Event.{Event}
use Rattle.sm_model.specs.declared.event.Event.TheVariants as events
use Rattle.sm_model.specs.declared.reply.Reply.{Reply}
use Rattle.sm_defs.specs.Relationship.{Relationship, Transfer}
use Rattle.sm_defs.specs.World.{Up}
use Rattle.sm_model.specs.Answers.{Reached, told}
use Rattle.sm_model.specs.Answer.{answer}
use Rattle.sm_model.specs.OfTransfers.{resume_or_start}
use Rattle.laws_cases.proofs.Answers.Walk.{OfOk, with_ok, with_held, whether_so, now}
use Rattle.laws_cases.proofs.Answers.OfAnswer.{OfAnswer}
use Rattle.laws_cases.proofs.Answers.Deeds.{from_answer}
use Rattle.laws_blank.specs.Blanking.{ShowsNoBytes}

abbrev IsReply : Reached → Type 0
IsReply r = (reply : Reply) × (r.reply ≡ told reply)

module _ (w : Up) where
  replies : (reply : Reply) (u : Up) → OfOk IsReply (Ok (record { reply = told reply; world = u }))
  replies reply u = now IsReply _ (reply, refl)

  resumes_or_starts : (k : ℕ) (r : Relationship) (kind : TransferKind) (o : Option Transfer) → OfOk IsReply (resume_or_start w k r kind o)
  unfolding resume_or_start
  resumes_or_starts k r kind (Some t) = replies _ _
  resumes_or_starts k r kind None = with_held _ _ _ (λ _. whether_so _ _ _ _ (λ _. replies _ _) (λ _. with_held _ _ _ (λ _. replies _ _)))

  of_answer : (e : Event) → ShowsNoBytes e → OfAnswer IsReply (answer w e)
  unfolding answer OfAnswer ShowsNoBytes
  of_answer (events.CreateVolume path disk kind logical physical) silent =
      with_held _ _ _ (λ _. with_held _ _ _ (λ _. with_ok _ _ _ (λ l _. with_held _ _ _ (λ _. with_held _ _ _ (λ _. with_held _ _ _ (λ _. replies _ _))))))
  of_answer events.ShowVolumes silent = replies _ _
  of_answer (events.Write path block fill) silent = with_ok _ _ _ (λ v _. with_held _ _ _ (λ _. with_held _ _ _ (λ _. with_held _ _ _ (λ _. replies _ _))))
  of_answer (events.Snap path name label) silent = with_ok _ _ _ (λ v _. with_held _ _ _ (λ _. with_held _ _ _ (λ _. with_held _ _ _ (λ _. replies _ _))))
  of_answer (events.Unsnap path name) silent = with_ok _ _ _ (λ v _. with_ok _ _ _ (λ s _. with_held _ _ _ (λ _. with_held _ _ _ (λ _. replies _ _))))
  of_answer (events.ShowSnaps path) silent = with_ok _ _ _ (λ v _. replies _ _)
  of_answer (events.CreatePolicy name kind) silent = with_held _ _ _ (λ _. with_held _ _ _ (λ _. replies _ _))
  of_answer (events.AddRule name label keep preserve) silent = with_ok _ _ _ (λ p _. with_held _ _ _ (λ _. with_held _ _ _ (λ _. with_held _ _ _ (λ _. with_held _ _ _ (λ _. replies _ _)))))
  of_answer events.ShowPolicies silent = replies _ _
  of_answer (events.Relate source destination policy) silent =
      with_ok _ _ _ (λ s _. with_ok _ _ _ (λ d _. with_ok _ _ _ (λ p _. with_held _ _ _ (λ _. with_held _ _ _ (λ _. with_held _ _ _ (λ _. with_held _ _ _ (λ _. replies _ _)))))))
  of_answer (events.Initialize destination) silent = with_ok _ _ _ (λ t _. with_held _ _ _ (λ _. resumes_or_starts _ _ _ _))
  of_answer (events.Update destination) silent = with_ok _ _ _ (λ t _. with_held _ _ _ (λ _. resumes_or_starts _ _ _ _))
  of_answer (events.Quiesce destination) silent = with_ok _ _ _ (λ t _. replies _ _)
  of_answer (events.Resume destination) silent = with_ok _ _ _ (λ t _. replies _ _)
  of_answer (events.Abort destination hard) silent = with_ok _ _ _ (λ d _. with_ok _ _ _ (λ t _. with_held _ _ _ (λ _. whether_so _ _ _ _ (λ _. replies _ _) (λ _. replies _ _))))
  of_answer (events.Break destination) silent = with_ok _ _ _ (λ t _. with_held _ _ _ (λ _. replies _ _))
  of_answer (events.Resync destination) silent = with_ok _ _ _ (λ d _. with_held _ _ _ (λ _. with_ok _ _ _ (λ c _. with_held _ _ _ (λ _. with_held _ _ _ (λ _. with_held _ _ _ (λ _. replies _ _))))))
  of_answer (events.Delete destination) silent = with_ok _ _ _ (λ t _. with_held _ _ _ (λ _. replies _ _))
  of_answer (events.Release source destination) silent = with_ok _ _ _ (λ s _. with_ok _ _ _ (λ d _. with_ok _ _ _ (λ r _. with_held _ _ _ (λ _. replies _ _))))
  of_answer events.ShowRelations silent = replies _ _
  of_answer (events.Clock time) silent = with_held _ _ _ (λ _. replies _ _)
  of_answer (events.Cp path) silent = with_ok _ _ _ (λ v _. with_held _ _ _ (λ _. replies _ _))
  of_answer (events.Read path name block) silent = absurd silent
  of_answer (events.Work shown) silent = tt
  of_answer events.Restart silent = tt
  of_answer events.Head silent = replies _ _
  of_answer (events.VolumeLine volume) silent = replies _ _
  of_answer (events.Digest volume place) silent = absurd silent
  of_answer (events.RelationLine relation) silent = replies _ _

pub is_reply : (w : Up) (e : Event) (r : Reached) → ShowsNoBytes e → answer w e ≡ Some (Ok r) → (reply : Reply) × (r.reply ≡ told reply)
is_reply w e r silent says = from_answer IsReply (answer w e) r (of_answer w e silent) says

abbrev Leaves : Up → Reached → Type 0
Leaves w r = r.world ≡ w

-- it shows no bytes, or leaves the world
pub silent_or_same : (w : Up) (e : Event) (r : Reached) → answer w e ≡ Some (Ok r) → ShowsNoBytes e ⊎ (r.world ≡ w)
unfolding answer OfAnswer ShowsNoBytes
silent_or_same w (events.Read path name block) r says = inr (from_answer (Leaves w) _ r (with_ok _ _ _ (λ v _. with_ok _ _ _ (λ i _. with_held _ _ _ (λ _. now (Leaves w) _ refl)))) says)
silent_or_same w (events.Digest volume place) r says = inr (from_answer (Leaves w) _ r (now (Leaves w) _ refl) says)
silent_or_same w e r says = inl tt
