-- What only shows leaves the world.
use Rattle.std.proofs.Common.{◌≡◌, ℕ, List, Option, Some, None, Ok, Err, refl, ◌∙◌}
use Rattle.sm_model.specs.declared.event.Event.{Event}
use Rattle.sm_model.specs.declared.event.Event.TheVariants as events
use Rattle.sm_defs.specs.World.{Up}
use Rattle.sm_model.specs.World.{Deed}
use Rattle.sm_model.specs.Answers.{Answer, Reached}
use Rattle.sm_model.specs.OfVolumes as volumes
use Rattle.sm_model.specs.OfReport as reports
use Rattle.sm_model.specs.Answer.{answer}
use Rattle.sm_model.specs.LegalRun.{IsDone, IsDeed}
use Rattle.laws_cases.specs.Answering.{OnlyShows}
use Rattle.laws_cases.proofs.Answers.Walk.{OfOk, past, with_found, with_ok, now}
use Rattle.laws_cases.proofs.Answers.OfAnswer.{OfAnswer}

abbrev Leaves : Up → Reached → Type 0
Leaves w d = d.world ≡ w

read : (w : Up) (path : List ℕ) (name : Option (List ℕ)) (block : ℕ) → OfOk (Leaves w) (volumes.read w path name block)
read w path name block = with_found _ _ _ _ (λ v _. with_ok _ _ _ (λ i _. past _ _ _ _ (λ _. now (Leaves w) _ refl)))

show_snapshots : (w : Up) (path : List ℕ) → OfOk (Leaves w) (reports.show_snapshots w path)
show_snapshots w path = with_found _ _ _ _ (λ v _. now (Leaves w) _ refl)

of_answer : (w : Up) (e : Event) → OnlyShows e → OfAnswer (Leaves w) (answer w e)
unfolding answer OfAnswer OnlyShows
of_answer w events.ShowVolumes o = now (Leaves w) _ refl
of_answer w (events.ShowSnaps path) o = show_snapshots w path
of_answer w events.ShowPolicies o = now (Leaves w) _ refl
of_answer w events.ShowRelations o = now (Leaves w) _ refl
of_answer w (events.Read path name block) o = read w path name block
of_answer w events.Head o = now (Leaves w) _ refl
of_answer w (events.VolumeLine volume) o = now (Leaves w) _ refl
of_answer w (events.Digest volume place) o = now (Leaves w) _ refl
of_answer w (events.RelationLine relation) o = now (Leaves w) _ refl
of_answer w e o = absurd o

of_done : (o : Option Answer) (d : Deed) → OfAnswer (Leaves d.old) o → IsDone o d → d.new ≡ d.old
unfolding OfAnswer OfOk
of_done None d h i = absurd i
of_done (Some (Ok x)) d h (t, e) = e ∙ h
of_done (Some (Err r)) d h i = absurd i

pub showing_leaves : (e : Event) (d : Deed) → OnlyShows e → IsDeed e d → d.new ≡ d.old
unfolding IsDeed OnlyShows
showing_leaves (events.Work shown) d o i = absurd o
showing_leaves e d o i = of_done (answer d.old e) d (of_answer d.old e o) i
