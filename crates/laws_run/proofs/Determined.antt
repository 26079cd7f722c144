-- What was asked determines the text and the last world.
use Rattle.std.proofs.Common.{◌≡◌, ℕ, ◌==◌, if◌then◌else◌, List, [], ◌∷◌, ◌++◌, map, Option, Some, None, Ok, Err, Box, refl, sym, ap, ap₂, subst, ◌∙◌}
use Rattle.std.specs.Global.{Global}
use Rattle.sm_base.specs.declared.numbers.Block.{Block as StoredBlock}
use Rattle.sm_base.specs.declared.numbers.Side.{Side}
use Rattle.sm_base.specs.declared.numbers.Side.TheVariants.{Before, After}
use Rattle.sm_defs.specs.World.{Up}
use Rattle.sm_model.specs.declared.reply.Entry.{Entry}
use Rattle.sm_model.specs.declared.event.Event.{Event}
use Rattle.sm_model.specs.declared.event.Event.TheVariants as events
use Rattle.sm_model.specs.declared.reply.Reply.{Reply}
use Rattle.sm_model.specs.declared.reply.Reply.TheVariants as replies
use Rattle.sm_model.specs.Answers.{Answer, Told, told, bytes, Tells}
use Rattle.sm_model.specs.Answer.{answer}
use Rattle.sm_model.specs.Asked.{Asked, asked_of}
use Rattle.sm_model.specs.World.{World, up, down, Deed}
use Rattle.sm_model.specs.Opened.{opened}
use Rattle.sm_model.specs.LegalRun.{IsDone, IsRefused, IsDeed, IsQuiet, IsRestart, Fits, done, quiet, failed, down_still, restart_up, restart_before, restart_after, restart_failed_up, restart_failed, Run}
use Rattle.sm_report.specs.Text.{reply_text, bytes_text}
use Rattle.sm_report.specs.Transcript.{down_disk, shown_text, line_of_text, entry_text, printed_text, transcript}
use Rattle.laws_run.specs.Histories.{IsDecided, AllDecided, IsFaultless, AllFaultless}

-- ---- what an answer prints, and where it leads

-- a block's text is that of its bytes, whatever box it lies in
block_shown : (e : Event) (block : Box StoredBlock Global) → IsDecided e → shown_text e (replies.Bytes block) ≡ Some (bytes_text block.value.0)
unfolding shown_text reply_text down_disk
block_shown (events.Work shown) block y = absurd y
block_shown e block y = refl

-- what is printed of a reply that tells this
pub told_text : Event → Told → Option (List ℕ)
told_text e (told reply) = shown_text e reply
told_text e (bytes bs) = Some (bytes_text bs)

told_prints : (e : Event) (t : Told) (reply : Reply) → IsDecided e → Tells t reply → shown_text e reply ≡ told_text e t
unfolding told_text
told_prints e (told r) reply y k = ap (shown_text e) k
told_prints e (bytes bs) reply y (block, k, f) = ap (shown_text e) k ∙ (block_shown e block y ∙ ap (λ x. Some (bytes_text x)) f)

pub answer_text : Event → Option Answer → Option (List ℕ)
answer_text e (Some (Ok reached)) = told_text e reached.reply
answer_text e (Some (Err refusal)) = shown_text e (replies.Refused refusal)
answer_text e None = None

-- the world that an answer leads to
pub next : Option Answer → Up → Up
next (Some (Ok reached)) w = reached.world
next (Some (Err refusal)) w = w
next None w = w

done_prints : (e : Event) (a : Option Answer) (d : Deed) → IsDecided e → IsDone a d → shown_text e d.reply ≡ answer_text e a
unfolding answer_text
done_prints e (Some (Ok r)) d y (t, n) = told_prints e r.reply d.reply y t
done_prints e (Some (Err r)) d y h = absurd h
done_prints e None d y h = absurd h

done_leads : (a : Option Answer) (d : Deed) (w : Up) → IsDone a d → up d.new ≡ up (next a w)
unfolding next
done_leads (Some (Ok r)) d w (t, n) = ap up n
done_leads (Some (Err r)) d w h = absurd h
done_leads None d w h = absurd h

refused_prints : (e : Event) (a : Option Answer) (reply : Reply) → IsRefused a reply → shown_text e reply ≡ answer_text e a
unfolding answer_text
refused_prints e (Some (Ok r)) reply h = absurd h
refused_prints e (Some (Err r)) reply k = ap (shown_text e) k
refused_prints e None reply h = absurd h

refused_leads : (a : Option Answer) (reply : Reply) (w : Up) → IsRefused a reply → up w ≡ up (next a w)
unfolding next
refused_leads (Some (Ok r)) reply w h = absurd h
refused_leads (Some (Err r)) reply w h = refl
refused_leads None reply w h = absurd h

-- ---- what an entry prints, where it leads, and which sides it leaves

pub text_after : World → Event → Option (List ℕ)
text_after (up w) events.Restart = shown_text events.Restart replies.Done
text_after (up w) e = answer_text e (answer w e)
text_after (down disk d) e = shown_text e replies.Done

pub world_after : World → Event → List Side → World
world_after (up w) events.Restart sides = up (opened w)
world_after (up w) e sides = up (next (answer w e) w)
world_after (down disk d) events.Restart (Before ∷ sides) = up (opened d.old)
world_after (down disk d) events.Restart (After ∷ sides) = up (opened d.new)
world_after (down disk d) e sides = down disk d

pub sides_after : Event → List Side → List Side
sides_after events.Restart (side ∷ sides) = sides
sides_after e sides = sides

pub record Follows (old : World) (e : Event) (reply : Reply) (sides : List Side) (new : World) (left : List Side) : Type 0 where
  pub prints : shown_text e reply ≡ text_after old e
  pub leads : new ≡ world_after old e sides
  pub leaves : left ≡ sides_after e sides

done_follows : (w : Up) (e : Event) (sides : List Side) (d : Deed) → IsDecided e → IsDone (answer w e) d → Follows (up w) e d.reply sides (up d.new) sides
unfolding answer text_after world_after sides_after
done_follows w events.Restart sides d y h = absurd h
done_follows w e sides d y h = record { prints = done_prints e (answer w e) d y h; leads = done_leads (answer w e) d w h; leaves = refl }

refused_follows : (w : Up) (e : Event) (sides : List Side) (reply : Reply) → IsRefused (answer w e) reply → Follows (up w) e reply sides (up w) sides
unfolding answer text_after world_after sides_after
refused_follows w events.Restart sides reply h = absurd h
refused_follows w e sides reply h = record { prints = refused_prints e (answer w e) reply h; leads = refused_leads (answer w e) reply w h; leaves = refl }

deed_done : (e : Event) (d : Deed) → IsDecided e → IsDeed e d → IsDone (answer d.old e) d
unfolding IsDeed
deed_done (events.Work shown) d y h = absurd y
deed_done e d y h = h

quiet_refused : (w : Up) (e : Event) (reply : Reply) → IsDecided e → IsQuiet w e reply → IsRefused (answer w e) reply
unfolding IsQuiet
quiet_refused w (events.Work shown) reply y h = absurd y
quiet_refused w e reply y h = h

is_restart : (e : Event) → IsRestart e → e ≡ events.Restart
unfolding IsRestart
is_restart events.Restart h = refl
is_restart e h = absurd h

restart_follows : (old : World) (e : Event) (reply : Reply) (side : Side) (sides : List Side) (new : World) → IsRestart e → reply ≡ replies.Done →
    shown_text events.Restart replies.Done ≡ text_after old events.Restart → new ≡ world_after old events.Restart (side ∷ sides) → Follows old e reply (side ∷ sides) new sides
unfolding sides_after
restart_follows old e reply side sides new r k p l =
    let q = is_restart e r in record {
      prints = ap₂ shown_text q k ∙ (p ∙ ap (text_after old) (sym q));
      leads = l ∙ ap (λ x. world_after old x (side ∷ sides)) (sym q);
      leaves = ap (λ x. sides_after x (side ∷ sides)) (sym q);
    }

pub follows : {old new : World} {e : Entry} {sides left : List Side} {ds : List Deed} → Fits old e sides ds new left → IsDecided e.event → IsFaultless e.reply → Follows old e.event e.reply sides new left
unfolding text_after world_after
follows (done {w = w} {e = e} {sides = sides} d o a b c i) y n =
    subst (λ x. Follows (up w) e.event x sides (up d.new) sides) c (done_follows w e.event sides d y (subst (λ x. IsDone (answer x e.event) d) o (deed_done e.event d y i)))
follows (quiet {w = w} {e = e} {sides = sides} i) y n = refused_follows w e.event sides e.reply (quiet_refused w e.event e.reply y i)
follows (failed d disk count o a b i c k) y n = absurd (n.no_fault disk count k)
follows (down_still {disk = disk} m k) y n = absurd (n.is_up disk k)
follows (restart_up {w = w} {e = e} {sides = sides} side r k) y n = restart_follows (up w) e.event e.reply side sides (up (opened w)) r k refl refl
follows (restart_before {disk = disk} {d = d} {e = e} {sides = sides} r k) y n = restart_follows (down disk d) e.event e.reply Before sides (up (opened d.old)) r k refl refl
follows (restart_after {disk = disk} {d = d} {e = e} {sides = sides} r k) y n = restart_follows (down disk d) e.event e.reply After sides (up (opened d.new)) r k refl refl
follows (restart_failed_up disk count r k) y n = absurd (n.no_fault disk count k)
follows (restart_failed disk count r k) y n = absurd (n.no_fault disk count k)

-- ---- runs

pub prints_line : (e : Entry) → entry_text e ≡ line_of_text e.line (shown_text e.event e.reply)
prints_line e = refl

-- actor and text of an entry say what the transcript has of it
pub prints_same : (e f : Entry) → asked_of e ≡ asked_of f → entry_text e ≡ entry_text f → printed_text e ≡ printed_text f
prints_same e f a t = ap₂ (λ (actor : ℕ) (text : List ℕ). if actor == 0 then text else []) (ap (λ x. x.actor) a) t

pub same_head : (x y : Asked) (xs ys : List Asked) → ◌≡◌ {A = List Asked} (x ∷ xs) (y ∷ ys) → x ≡ y
same_head x y xs ys e = cc

pub same_tail : (x y : Asked) (xs ys : List Asked) → ◌≡◌ {A = List Asked} (x ∷ xs) (y ∷ ys) → xs ≡ ys
same_tail x y xs ys e = cc

same_entry : (w : World) (e f : Entry) → asked_of e ≡ asked_of f → shown_text e.event e.reply ≡ text_after w e.event → shown_text f.event f.reply ≡ text_after w f.event → printed_text e ≡ printed_text f
same_entry w e f a p q = prints_same e f a (prints_line e ∙ (ap₂ line_of_text (ap (λ x. x.line) a) (p ∙ (ap (λ x. text_after w x.event) a ∙ sym q)) ∙ sym (prints_line f)))

pub determined : (start new other : World) (es fs : List Entry) (sides : List Side) (ds others : List Deed) → AllDecided es → AllFaultless es → AllFaultless fs →
    Run start es sides ds new → Run start fs sides others other → map asked_of es ≡ map asked_of fs → (transcript es ≡ transcript fs) × (new ≡ other)
determined start new other [] [] sides ds others w m n (a, b, c) (x, y, z) e = (refl, c ∙ sym z)
determined start new other [] (f ∷ fs) sides ds others w m n r s e = absurd (cc)
determined start new other (e ∷ es) [] sides ds others w m n r s h = absurd (cc)
determined start new other (e ∷ es) (f ∷ fs) sides ds others w m n (first, later, left, mid, asked, x, r, q) (first', later', left', mid', asked', y, r', q') h =
    let head = same_head (asked_of e) (asked_of f) (map asked_of es) (map asked_of fs) h in
    let a = follows x w.0 m.0 in let b = follows y (subst (λ k. IsDecided k.event) head w.0) n.0 in
    let worlds : mid' ≡ mid = b.leads ∙ (ap (λ k. world_after start k.event sides) (sym head) ∙ sym a.leads) in
    let lefts : left' ≡ left = b.leaves ∙ (ap (λ k. sides_after k.event sides) (sym head) ∙ sym a.leaves) in
    let rest = determined mid new other es fs left later later' w.1 m.1 n.1 r (subst (λ z. Run z fs left later' other) worlds (subst (λ l. Run mid' fs l later' other) lefts r'))
    (same_tail (asked_of e) (asked_of f) (map asked_of es) (map asked_of fs) h) in
    (ap₂ (λ s t. s ++ t) (same_entry start e f head a.prints b.prints) rest.0, rest.1)
