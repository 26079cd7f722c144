-- What a restart does to a content.
use Rattle.std.proofs.Common.{◌≡◌, ℕ, suc, ◌+◌, ◌≤◌, Bool, true, false, List, [], ◌∷◌, length, get_or, set, take, drop, refl, sym, ◌∙◌, ap, subst, arith}
use Rattle.std.specs.Prelude.{Option, Some, None, reverse, is_none}
use Rattle.std.proofs.lemmas.List.{get_or_default}
use Rattle.sm_disk.specs.Image.{part}
use Rattle.sm_disk.proofs.Parts.{length-part}
use Rattle.sm_memdisk.specs.declared.Image.{Image as Choice}
use Rattle.sm_memdisk.specs.Past.{Deed, Written, Note, now_of}
use Rattle.sm_memdisk.specs.Pages.{Pages, image_of, IsTouched, KeepsPages}
use Rattle.sm_memdisk.specs.Content.{Content, DoesRestart, noted, restarted}
use Rattle.sm_memdisk.specs.Log.{IsUndoable, IsPending, IsReady, IsStore, chosen_image}
use Rattle.sm_memdisk.proofs.Told.{chosen_settled}
use Rattle.sm_memdisk.proofs.Logged.{log_chosen, newest, newest-set}

-- the write that was made ready is pending
pub ready_pending : (size : ℕ) (old new : Pages) (at n : ℕ) (note : Note) → IsReady old at n note → at + n ≤ size → KeepsPages old new → IsPending size new note
ready_pending size old new at n note ready room keeps =
    let bytes = part (image_of old) at n in
    let long : length bytes ≡ n = length-part (image_of old) at n in
    let can : IsUndoable size new (Written at bytes) = (
      omega arith,
      subst (λ (k : ℕ). IsTouched new at k) (sym long) (λ k lt. keeps _ (ready.touched k lt)),
    ) in record {
      no_restart = ready.no_restart;
      undoable = subst (IsUndoable size new) (sym ready.deed) can;
    }

-- the newest call is followed by its first restart
pub restart_follows : (size : ℕ) (old new : Pages) (log : List Note) (first i : ℕ) (r s : Note) (choice : Choice) → IsStore size old log first → length log ≡ suc i
    → get_or log i r ≡ r → r.restart ≡ None → s ≡ record { deed = r.deed; restart = Some choice } → image_of new ≡ chosen_image choice (drop first log) (image_of old)
    → DoesRestart (record { size = size; pages = old; past = reverse log }) choice (record { size = size; pages = new; past = reverse (set log i s) })
restart_follows size old new log first i r s choice store long here none next image =
    let earlier = reverse (take i log) in record {
      size = refl;
      seen = image ∙ log_chosen size old log first store choice (image_of old);
      past =
          newest-set log i s long ∙ ap (λ (n : Note). n ∷ earlier) next
          ∙ ap (λ (o : Option Choice). record { deed = r.deed; restart = noted o choice } ∷ earlier) (sym none)
          ∙ ap (restarted choice) (ap (λ (n : Note). n ∷ earlier) (sym here) ∙ sym (newest log i r long));
    }

stays_step : (size : ℕ) (pages : Pages) (deed : Deed) (restart : Option Choice) (earlier : List Note) (choice : Choice) → is_none restart ≡ false
    → let s : Content = record { size = size; pages = pages; past = record { deed = deed; restart = restart } ∷ earlier } in DoesRestart s choice s
unfolding now_of
stays_step size pages deed None earlier choice is = absurd (let clash : true ≡ false = is in cc)
stays_step size pages deed (Some first) earlier choice is = record { size = refl; seen = sym (chosen_settled choice (image_of pages) (image_of pages)); past = refl }

-- a restart has followed already
pub restart_again : (size : ℕ) (pages : Pages) (log : List Note) (i : ℕ) (r : Note) (choice : Choice) → length log ≡ suc i → get_or log i r ≡ r → is_none r.restart ≡ false
    → let s : Content = record { size = size; pages = pages; past = reverse log } in DoesRestart s choice s
restart_again size pages log i r choice long here is =
    let earlier = reverse (take i log) in
    let whole : reverse log ≡ r ∷ earlier = newest log i r long ∙ ap (λ (n : Note). n ∷ earlier) here in
    subst (λ (past : List Note). let s : Content = record { size = size; pages = pages; past = past } in DoesRestart s choice s) (sym whole)
    (stays_step size pages r.deed r.restart earlier choice is)

-- nothing was recorded yet
pub restart_blank : (size : ℕ) (pages : Pages) (log : List Note) (choice : Choice) → length log ≤ 0 → let s : Content = record { size = size; pages = pages; past = reverse log } in DoesRestart s choice s
unfolding now_of
restart_blank size pages [] choice none = record { size = refl; seen = sym (chosen_settled choice (image_of pages) (image_of pages)); past = refl }
restart_blank size pages (n ∷ log) choice none = absurd (omega arith)

pub open_none : (restart : Option Choice) (is_open : Bool) → is_open ≡ is_none restart → is_open ≡ true → restart ≡ None
open_none None is_open is holds = refl
open_none (Some first) is_open is holds = absurd (let clash : false ≡ true = sym is ∙ holds in cc)

-- r is the newest call as it was read, y as it was lent, and s as it was left
pub restart_lent : (size : ℕ) (old new : Pages) (log : List Note) (first i : ℕ) (r y s : Note) (choice : Choice) → IsStore size old log first → length log ≡ suc i
    → r ≡ get_or log i r → y ≡ get_or log i y → r.restart ≡ None → s ≡ record { deed = y.deed; restart = Some choice } → image_of new ≡ chosen_image choice (drop first log) (image_of old)
    → DoesRestart (record { size = size; pages = old; past = reverse log }) choice (record { size = size; pages = new; past = reverse (set log i s) })
restart_lent size old new log first i r y s choice store long read lent none next image =
    let same : y ≡ r = lent ∙ get_or_default log i y r (omega arith) ∙ sym read in
    restart_follows size old new log first i r s choice store long (sym read) none (next ∙ ap (λ (n : Note). record { deed = n.deed; restart = Some choice }) same) image
