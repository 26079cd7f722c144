-- What takes effect is an answer or a step, and is told as no refusal.
use Rattle.std.proofs.Common.{◌≡◌, ◌⊎◌, ℕ, Bool, Option, Some, None, Ok, Err, sym, subst, inl, inr}
use Rattle.sm_base.specs.declared.refusal.Refusal.{Refusal}
use Rattle.sm_model.specs.declared.event.Event.{Event}
use Rattle.sm_model.specs.declared.event.Event.TheVariants as events
use Rattle.sm_model.specs.declared.reply.Reply.{Reply}
use Rattle.sm_model.specs.declared.reply.Reply.TheVariants as replies
use Rattle.sm_defs.specs.World.{Up}
use Rattle.sm_model.specs.World.{Deed}
use Rattle.sm_model.specs.Answers.{Answer, Reached, Told, Tells}
use Rattle.sm_model.specs.Answer.{answer}
use Rattle.sm_model.specs.Running.{Running}
use Rattle.sm_model.specs.Steps.{Effect}
use Rattle.sm_model.specs.Due.{StepKind, revert, finish, settle, prepare, prune, publish, checkpoint, ship, IsEffect, IsStep, by_transfer, by_tidy}
use Rattle.sm_model.specs.LegalRun.{IsDone, IsStepDeed, IsDeed}
use Rattle.laws_cases.proofs.Answers.Walk.{OfOk, going, from_ok}
use Rattle.laws_cases.proofs.Answers.Changes.{Is, IsAnswer, plain, snaps}
use Rattle.laws_cases.proofs.Answers.OfAnswer.{OfAnswer, of_answer}

-- the world alone answers no worker's step
no_step_done : (w : Up) (shown : Bool) (d : Deed) → ¬ IsDone (answer w (events.Work shown)) d
unfolding answer
no_step_done w shown d h = h

-- what is answered is a deed
pub done_deed : (e : Event) (d : Deed) → IsDone (answer d.old e) d → IsDeed e d
unfolding IsDeed
done_deed (events.Work shown) d h = absurd (no_step_done d.old shown d h)
done_deed e d h = h

-- an answer that is no refusal
pub record IsAnswered (e : Event) (d : Deed) : Type 0 where
  pub tells : Told
  pub reply : Tells tells d.reply
  pub is : IsAnswer d.old e tells d.new

-- of an answer without a refusal
pub from_answer : (P : Reached → Type 0) (o : Option Answer) (reached : Reached) → OfAnswer P o → o ≡ Some (Ok reached) → P reached
unfolding OfAnswer
from_answer P None reached h e = absurd (cc)
from_answer P (Some a) reached h e = from_ok P a reached h (same a reached e)
  where
    same : (a : Answer) (x : Reached) → ◌≡◌ {A = Option Answer} (Some a) (Some (Ok x)) → a ≡ Ok x
    same a x e = cc

pub of_done : (e : Event) (o : Option Answer) (d : Deed) → OfAnswer (Is d.old e) o → IsDone o d → IsAnswered e d
unfolding OfAnswer OfOk
of_done e None d h i = absurd i
of_done e (Some (Ok x)) d h (t, f) = record { tells = x.reply; reply = t; is = subst (IsAnswer d.old e x.reply) (sym f) h }
of_done e (Some (Err r)) d h i = absurd i

pub deed_cases : (e : Event) (d : Deed) → IsDeed e d → IsStepDeed d ⊎ IsAnswered e d
unfolding IsDeed
deed_cases (events.Work shown) d i = inl i
deed_cases e d i = inr (of_done e (answer d.old e) d (of_answer d.old e) i)

-- ---- no refusal

abbrev pub NoRefusal : Reply → Type 0
NoRefusal reply = (r : Refusal) → ¬ (reply ≡ replies.Refused r)

answer_accepted : (w u : Up) (ev : Event) (t : Told) → IsAnswer w ev t u → (reply : Reply) → Tells t reply → NoRefusal reply
answer_accepted w u ev t (plain p c) reply e = (p reply e).accepted
answer_accepted w u ev t (snaps v a p is path name label so) reply e = λ r f. cc

pub ok_is_no_refusal : (w : Up) (e : Event) (reached : Reached) (reply : Reply) (r : Refusal) →
    answer w e ≡ Some (Ok reached) → Tells reached.reply reply → ¬ (reply ≡ replies.Refused r)
ok_is_no_refusal w e reached reply r i t = answer_accepted w reached.world e reached.reply (from_answer (Is w e) (answer w e) reached (of_answer w e) i) reply t r

abbrev Accepted : Effect → Type 0
Accepted e = NoRefusal e.reply

of_effect : (w : Up) (k : ℕ) (x : Running) (kind : StepKind) (e : Effect) → IsEffect w k x kind e → Accepted e
of_effect w k x (revert base) e i = subst Accepted (sym i) (going Accepted w k x _ _ (λ _ r f. cc) (λ _ r f. cc))
of_effect w k x (finish base) e i = subst Accepted (sym i) (λ r f. cc)
of_effect w k x (settle j later) e i = subst Accepted (sym i) (λ r f. cc)
of_effect w k x (prepare j) e i = subst Accepted (sym i) (going Accepted w k x _ _ (λ _ r f. cc) (λ _ r f. cc))
of_effect w k x prune e i = subst Accepted (sym i) (going Accepted w k x _ _ (λ _ r f. cc) (λ _ r f. cc))
of_effect w k x (publish leg) e i = subst Accepted (sym i) (going Accepted w k x _ _ (λ _ r f. cc) (λ _ r f. cc))
of_effect w k x checkpoint e i = subst Accepted (sym i) (λ r f. cc)
of_effect w k x (ship leg) e (n, m, i) = subst Accepted (sym i) (going Accepted w k x _ _ (λ _ r f. cc) (λ _ r f. cc))

of_step : (w : Up) (e : Effect) → IsStep w e → Accepted e
of_step w e (by_transfer k x kind r d i) = of_effect w k x kind e i
of_step w e (by_tidy n d i) = subst Accepted (sym i) (λ r f. cc)

pub steps_are_no_refusals : (w : Up) (e : Effect) (r : Refusal) → IsStep w e → ¬ (e.reply ≡ replies.Refused r)
steps_are_no_refusals w e r s = of_step w e s r

pub deeds_are_no_refusals : (e : Event) (d : Deed) (r : Refusal) → IsDeed e d → ¬ (d.reply ≡ replies.Refused r)
deeds_are_no_refusals e d r i = go (deed_cases e d i)
  where
    go : IsStepDeed d ⊎ IsAnswered e d → ¬ (d.reply ≡ replies.Refused r)
    go (inl s) = steps_are_no_refusals d.old _ r s
    go (inr a) = answer_accepted d.old d.new e a.tells a.is d.reply a.reply r

pub done_gives : (P : Up → Type 0) (o : Option Answer) (d : Deed) → OfAnswer (λ r. P r.world) o → IsDone o d → P d.new
unfolding OfAnswer OfOk
done_gives P None d h i = absurd i
done_gives P (Some (Ok x)) d h (t, e) = subst P (sym e) h
done_gives P (Some (Err r)) d h i = absurd i
