-- A deed drops exactly what the rules name for it.
use Rattle.std.specs.Prelude.{◌↔◌, ℕ}
use Rattle.sm_base.specs.declared.numbers.Ident.{Ident}
use Rattle.sm_model.specs.declared.event.Event.{Event}
use Rattle.sm_model.specs.declared.event.Event.TheVariants as events
use Rattle.sm_model.specs.World.{Deed}
use Rattle.sm_model.specs.LegalRun.{IsDeed}
use Rattle.sm_model.specs.Drops.{Drops, NamedFor}
use Rattle.sm_model.specs.Sound.{SoundUp}

abbrev pub DropsAreNamed : Type 0
DropsAreNamed = (d : Deed) (v : ℕ) (i : Ident) → SoundUp d.old → IsDeed d.event d → Drops d v i ↔ NamedFor d d.event v i

unfoldable pub IsWork : Event → Type 0
IsWork (events.Work shown) = Unit {0}
IsWork _ = ⊥

-- what is no step does so in every world, sound or not
abbrev pub AnswersDropWhatIsNamed : Type 0
AnswersDropWhatIsNamed = (d : Deed) (v : ℕ) (i : Ident) → ¬ (IsWork d.event) → IsDeed d.event d → Drops d v i ↔ NamedFor d d.event v i
