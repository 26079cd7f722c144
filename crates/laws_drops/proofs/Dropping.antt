-- A deed drops exactly what the rules name for it.
use Rattle.std.proofs.Common.{◌↔◌, ℕ}
use Rattle.sm_base.specs.declared.numbers.Ident.{Ident}
use Rattle.sm_model.specs.declared.event.Event.{Event}
use Rattle.sm_model.specs.declared.event.Event.TheVariants as events
use Rattle.sm_model.specs.World.{Deed}
use Rattle.sm_model.specs.Answer.{answer}
use Rattle.sm_model.specs.Drops.{Drops, NamedFor}
use Rattle.sm_model.specs.LegalRun.{IsDone, IsDeed}
use Rattle.sm_model.specs.Sound.{SoundUp}
use Rattle.laws_cases.proofs.Answers.OfAnswer.{of_answer}
use Rattle.laws_cases.proofs.Answers.Deeds.{of_done}
use Rattle.laws_cases.proofs.Needed.Leaving.{none_lost}
use Rattle.laws_drops.specs.Dropping.{IsWork}
use Rattle.laws_drops.proofs.DropsOfEvents.{IsUnsnap, answer_keeps_all, unsnap_exact}
use Rattle.laws_drops.proofs.DropsOfSteps.{step_exact}

-- an event whose answer drops nothing
none_named : (d : Deed) (e : Event) (v : ℕ) (i : Ident) → ¬ (IsUnsnap e) → IsDone (answer d.old e) d → ¬ (Drops d v i)
none_named d e v i n h = let a = of_done e (answer d.old e) d (of_answer d.old e) h in none_lost d.old d.new (answer_keeps_all d.old d.new e a.tells n a.is) v i

of_event : (d : Deed) (e : Event) (v : ℕ) (i : Ident) → (IsWork e → SoundUp d.old) → IsDeed e d → Drops d v i ↔ NamedFor d e v i
unfolding IsDeed NamedFor IsUnsnap IsWork
of_event d (events.Work shown) v i s h = step_exact d.old (record { reply = d.reply; world = d.new }) (s tt) h v i
of_event d (events.Unsnap path name) v i s h = unsnap_exact d path name v i h
of_event d e v i s h = (λ l. none_named d e v i (λ u. u) h l, λ m. absurd m)

pub drops_are_named : (d : Deed) (v : ℕ) (i : Ident) → SoundUp d.old → IsDeed d.event d → Drops d v i ↔ NamedFor d d.event v i
drops_are_named d v i s h = of_event d d.event v i (λ _. s) h

pub answers_drop_named : (d : Deed) (v : ℕ) (i : Ident) → ¬ (IsWork d.event) → IsDeed d.event d → Drops d v i ↔ NamedFor d d.event v i
answers_drop_named d v i n h = of_event d d.event v i (λ k. absurd (n k)) h
