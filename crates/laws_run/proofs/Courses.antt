-- Courses of events from a sound world, each answered, or done as this program chooses it for the script's actor.
use Rattle.std.proofs.Common.{◌≡◌, Bool, List, [], ◌∷◌, Option, Some, None, Ok, Err, refl, sym, subst}
use Rattle.std.specs.List.{AllByRecursion}
use Rattle.sm_defs.specs.World.{Up}
use Rattle.sm_model.specs.declared.event.Event.{Event}
use Rattle.sm_model.specs.declared.event.Event.TheVariants as events
use Rattle.sm_model.specs.declared.reply.Reply.{Reply}
use Rattle.sm_model.specs.Answers.{Answer, Told, told, bytes}
use Rattle.sm_model.specs.Answer.{answer}
use Rattle.sm_model.specs.Steps.{Effect}
use Rattle.sm_model.specs.Choice.{chosen}
use Rattle.sm_model.specs.InRange.{IsGiven}
use Rattle.sm_model.specs.World.{Deed}
use Rattle.sm_model.specs.LegalRun.{IsDone, IsDeed}
use Rattle.sm_model.specs.Sound.{SoundUp}
use Rattle.laws_idle.proofs.Choosing.{chosen_is_due}
use Rattle.laws_sound.proofs.Soundly.{deeds_keep_sound}

abbrev pub reached_by : Up → Up → Told → Up
reached_by w u (told reply) = u
reached_by w u (bytes bs) = w

abbrev pub answered : Up → Option Answer → Up
answered w (Some (Ok r)) = reached_by w r.world r.reply
answered w (Some (Err refusal)) = w
answered w None = w

abbrev pub stepped : Up → Option Effect → Up
stepped w (Some e) = e.world
stepped w None = w

abbrev pub one : Up → Event → Up
one w (events.Work shown) = stepped w (chosen w 0)
one w e = answered w (answer w e)

abbrev pub course : Up → List Event → Up
course w [] = w
course w (e ∷ es) = course (one w e) es

deed : Up → Event → Reply → Up → Deed
deed w e reply u = record { actor = 0; event = e; old = w; reply = reply; new = u }

reached_sound : (w u : Up) (e : Event) (t : Told) → answer w e ≡ Some (Ok (record { reply = t; world = u })) → ((d : Deed) → IsDone (answer d.old e) d → IsDeed e d) → SoundUp w → IsGiven e → SoundUp (reached_by w u t)
unfolding deed
reached_sound w u e (told reply) a i s g = deeds_keep_sound e (deed w e reply u) s g (i (deed w e reply u) (subst (λ x. IsDone x (deed w e reply u)) (sym a) (refl, refl)))
reached_sound w u e (bytes bs) a i s g = s

answered_sound : (w : Up) (e : Event) (a : Option Answer) → answer w e ≡ a → ((d : Deed) → IsDone (answer d.old e) d → IsDeed e d) → SoundUp w → IsGiven e → SoundUp (answered w a)
answered_sound w e (Some (Ok r)) f i s g = reached_sound w r.world e r.reply f i s g
answered_sound w e (Some (Err refusal)) f i s g = s
answered_sound w e None f i s g = s

stepped_sound : (w : Up) (shown : Bool) (o : Option Effect) → chosen w 0 ≡ o → SoundUp w → SoundUp (stepped w o)
unfolding deed IsDeed IsGiven
stepped_sound w shown (Some e) c s = deeds_keep_sound (events.Work shown) (deed w (events.Work shown) e.reply e.world) s tt (chosen_is_due w 0 e c)
stepped_sound w shown None c s = s

one_sound : (w : Up) (e : Event) → SoundUp w → IsGiven e → SoundUp (one w e)
unfolding IsDeed
one_sound w (events.Work shown) s g = stepped_sound w shown (chosen w 0) refl s
one_sound w e s g = answered_sound w e (answer w e) refl (λ d i. i) s g

pub course_sound : (w : Up) (es : List Event) → AllByRecursion IsGiven es → SoundUp w → SoundUp (course w es)
course_sound w [] g s = s
course_sound w (e ∷ es) g s = course_sound (one w e) es g.1 (one_sound w e s g.0)
