-- Tags fit and copies agree after each answer, each step and each restart.
use Rattle.std.proofs.Common.{refl, ◌≡◌, Some, Ok, subst}
use Rattle.sm_model.specs.declared.event.Event.{Event}
use Rattle.sm_model.specs.declared.reply.Reply.{Reply}
use Rattle.sm_defs.specs.Words.{Among}
use Rattle.sm_defs.specs.World.{Up}
use Rattle.sm_model.specs.World.{Deed}
use Rattle.sm_model.specs.Answers.{Reached, Told}
use Rattle.sm_model.specs.Answer.{answer}
use Rattle.sm_model.specs.Steps.{Effect}
use Rattle.sm_model.specs.Due.{IsStep}
use Rattle.sm_model.specs.LegalRun.{IsDeed}
use Rattle.sm_model.specs.Opened.{opened}
use Rattle.sm_model.specs.TagsFit.{TagsFit}
use Rattle.sm_model.specs.CopiesAgree.{CopiesAgree}
use Rattle.sm_model.specs.Sound.{SoundUp}
use Rattle.laws_cases.proofs.Answers.Changes as answers
use Rattle.laws_cases.proofs.Answers.Changes.{Is, IsAnswer}
use Rattle.laws_cases.proofs.Answers.OfAnswer.{of_answer}
use Rattle.laws_cases.proofs.Answers.Deeds.{from_answer}
use Rattle.laws_copies.proofs.Copies.{AllCome, stays, copies_come, copies_fresh}
use Rattle.laws_copies.proofs.Brings as brings
use Rattle.laws_copies.proofs.Brings.{Brings, copies, one_new, step_brings, deed_brings}
use Rattle.laws_copies.proofs.TagsStay as tags
use Rattle.sm_defs.specs.Operations as operations
use Rattle.sm_defs.proofs.Members.{from_map}

pub answers_keep_tags : (w : Up) (e : Event) (reached : Reached) → SoundUp w → answer w e ≡ Some (Ok reached) → TagsFit reached.world
answers_keep_tags w e reached s i = tags.of_answer w reached.world e reached.reply s (from_answer (Is w e) (answer w e) reached (of_answer w e) i)

pub brought_agree : {Given : Type 0} (w u : Up) (reply : Reply) → CopiesAgree w → Brings w Given reply u → CopiesAgree u
brought_agree w u reply k (copies h e) = copies_come w u h k
brought_agree w u reply k (one_new f n h e z b) = copies_fresh w u f h n.fresh k

answered_agree : (w u : Up) (ev : Event) (t : Told) → SoundUp w → IsAnswer w ev t u → CopiesAgree u
answered_agree w u ev t s (answers.plain p c) = copies_come w u (brings.of_change w u ev c) s.copies_agree
answered_agree w u ev t s (answers.snaps v a p is path name label so) = brought_agree w u _ s.copies_agree (brings.of_answer w u ev _ s (answers.snaps v a p is path name label so) _ refl)

pub answers_keep_copies : (w : Up) (e : Event) (reached : Reached) → SoundUp w → answer w e ≡ Some (Ok reached) → CopiesAgree reached.world
answers_keep_copies w e reached s i = answered_agree w reached.world e reached.reply s (from_answer (Is w e) (answer w e) reached (of_answer w e) i)

pub steps_keep_copies : (w : Up) (e : Effect) → SoundUp w → IsStep w e → CopiesAgree e.world
steps_keep_copies w e s i = brought_agree w e.world e.reply s.copies_agree (step_brings w e s i)

pub deeds_keep_copies : (e : Event) (d : Deed) → SoundUp d.old → IsDeed e d → CopiesAgree d.new
deeds_keep_copies e d s i = brought_agree d.old d.new d.reply s.copies_agree (deed_brings e d s i)

pub reopened_come : (w : Up) → AllCome w (opened w)
reopened_come w v s (m, n) = let (u, k, e) = from_map operations.opened w.volumes v m in stays w u s (k, subst (λ y. Among y.snapshots s) e n)

pub restarts_keep_copies : (w : Up) → CopiesAgree w → CopiesAgree (opened w)
restarts_keep_copies w k = copies_come w (opened w) (reopened_come w) k
