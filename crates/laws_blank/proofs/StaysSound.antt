-- What is answered, and a restart, leave a world sound but for the bytes of its blocks.
use Rattle.std.proofs.Common.{◌≡◌, Bool, List, Option, Some, option_map, Ok, refl, sym, ap, subst, ◌∙◌, inl, inr, arith}
use mathlib.Core.List.{map-map}
use Rattle.sm_model.specs.declared.event.Event.{Event}
use Rattle.sm_model.specs.declared.event.Event.TheVariants as events
use Rattle.sm_defs.specs.Operations as operations
use Rattle.sm_defs.specs.Volume.{Volume}
use Rattle.sm_defs.specs.World.{Up}
use Rattle.sm_model.specs.World.{Deed}
use Rattle.sm_model.specs.Answers.{Answer, Reached, Told, Tells}
use Rattle.sm_model.specs.Answer.{answer}
use Rattle.sm_model.specs.InRange.{IsGiven}
use Rattle.sm_model.specs.LegalRun.{IsDone, IsDeed}
use Rattle.sm_model.specs.Opened.{opened}
use Rattle.sm_model.specs.Sound.{SoundUp}
use Rattle.sm_shape.specs.Blanked.{zeroed_volume, blanked}
use Rattle.laws_cases.proofs.Answers.Deeds.{done_deed}
use Rattle.laws_sound.proofs.Soundly.{deeds_keep_sound, restarts_keep_sound}
use Rattle.laws_blank.specs.Blanking.{ShowsNoBytes, blanked_event, blanked_answer}
use Rattle.laws_blank.proofs.Commuting.{commutes}
use Rattle.laws_blank.proofs.Replies.{is_reply, silent_or_same}

-- ---- an answer

-- a script may write zeros too
given_blanked : (e : Event) → IsGiven e → IsGiven (blanked_event e)
unfolding IsGiven blanked_event
given_blanked (events.Write path block fill) g = record { path_given = g.path_given; block_given = g.block_given; byte = omega arith }
given_blanked e g = g

silent_stays : (w : Up) (e : Event) (r : Reached) → ShowsNoBytes e → IsGiven e → SoundUp (blanked w) → answer w e ≡ Some (Ok r) → SoundUp (blanked r.world)
silent_stays w e r silent given sound says =
    let t = is_reply w e r silent says in
    let d : Deed = record { actor = 0; event = blanked_event e; old = blanked w; reply = t.0; new = blanked r.world } in
    let tells : Tells r.reply t.0 = subst (λ (x : Told). Tells x t.0) (sym t.1) refl in
    let done : IsDone (answer (blanked w) (blanked_event e)) d = subst (λ (o : Option Answer). IsDone o d) (sym (commutes w e silent ∙ ap (option_map blanked_answer) says)) (tells, refl) in
    deeds_keep_sound (blanked_event e) d sound (given_blanked e given) (done_deed (blanked_event e) d done)

pub blanked_stays_sound : (w : Up) (e : Event) (r : Reached) → IsGiven e → SoundUp (blanked w) → answer w e ≡ Some (Ok r) → SoundUp (blanked r.world)
blanked_stays_sound w e r given sound says = elim (silent_or_same w e r says) [
  | inl silent ↦ silent_stays w e r silent given sound says
  | inr same ↦ subst (λ (u : Up). SoundUp (blanked u)) (sym same) sound
]

-- ---- a restart

pub opened_blanked : (w : Up) → blanked (opened w) ≡ opened (blanked w)
opened_blanked w =
    ap (λ (vs : List Volume). let u : Up = record (opened w) { volumes = vs } in u)
    (map-map zeroed_volume operations.opened w.volumes ∙ sym (map-map operations.opened zeroed_volume w.volumes))

pub restarts_stay_sound : (w : Up) → SoundUp (blanked w) → SoundUp (blanked (opened w))
restarts_stay_sound w s = subst SoundUp (sym (opened_blanked w)) (restarts_keep_sound (blanked w) s)
