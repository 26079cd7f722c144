-- Numbers stand after each deed and each restart.
use Rattle.sm_model.specs.declared.event.Event.{Event}
use Rattle.sm_defs.specs.World.{Up}
use Rattle.sm_model.specs.World.{Deed}
use Rattle.sm_model.specs.InRange.{IsGiven}
use Rattle.sm_model.specs.LegalRun.{IsDeed}
use Rattle.sm_model.specs.NumbersStand.{NumbersStand}
use Rattle.sm_model.specs.Opened.{opened}
use Rattle.sm_model.specs.Sound.{SoundUp}
use Rattle.sm_defs.specs.Legs.{made_ident}
use Rattle.laws_cases.proofs.Needed.NeedsStay.{deeds_keep, restarts_keep}
use Rattle.laws_copies.proofs.Growing as growing
use Rattle.laws_copies.proofs.Growing.{Grown, deed_grown}
use Rattle.laws_copies.proofs.Spent.{KeepsReserved, reserved_stays}
use Rattle.laws_copies.proofs.Numbered.{numbers_come, numbers_new}
use Rattle.laws_copies.proofs.Brings.{Brings, copies, one_new, deed_brings}
use Rattle.laws_copies.proofs.CopiesStay.{reopened_come}

brought_numbers : {Given : Type 0} (d : Deed) → NumbersStand d.old → Grown d.old d.new → KeepsReserved d.old d.new → Given → Brings d.old Given d.reply d.new → NumbersStand d.new
brought_numbers d k g keeps i (copies h e) = numbers_come d.old d.new k g keeps h
brought_numbers d k g keeps i (one_new f n h e z b) = numbers_new d.old d.new f k g keeps h (b.stands i) b.apart

pub deeds_keep_numbers : (e : Event) (d : Deed) → SoundUp d.old → IsGiven e → IsDeed e d → NumbersStand d.new
deeds_keep_numbers e d s g i = brought_numbers d s.numbers_stand (deed_grown e d i) (reserved_stays d.old d.new s (deeds_keep e d i)) g (deed_brings e d s i)

pub restarts_keep_numbers : (w : Up) → SoundUp w → NumbersStand (opened w)
restarts_keep_numbers w s = numbers_come w (opened w) s.numbers_stand (growing.of_opened w) (λ r t m e z k. restarts_keep w r.source (made_ident r.source t.number) k) (reopened_come w)
