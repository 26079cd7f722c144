-- What a log says of the moments.
use Rattle.std.proofs.Common.{◌≡◌, inl, inr, ℕ, zero, suc, ◌-◌, ◌^◌, ◌<◌, ◌≤◌, Bool, true, false, ◌||◌, cond, List, [], ◌∷◌, ◌++◌, length, get_or, set, take, drop, refl, sym, ◌∙◌, ap, subst, arith, append_assoc, replicate, take-append-drop, length-append, length-set}
use Rattle.std.specs.Prelude.{Option, Some, None, All, reverse}
use Rattle.std.proofs.lemmas.List.{reverse-append, length-replicate, get_or-replicate, take-append-le, drop-append-le, take_all, drop_all, take-set}
use Rattle.std.proofs.lemmas.List.Elements.{All-head, All-tail, All-push, All-weaker, All-nil}
use mathlib.Core.Path.{fun_ext}
use Rattle.sm_disk.specs.Image.{Image, IsOutside}
use Rattle.sm_memdisk.specs.declared.Image.{Image as Choice}
use Rattle.sm_memdisk.specs.declared.Image.TheVariants.{Old, New, Fill}
use Rattle.sm_memdisk.specs.Past.{Deed, Written, Synced, Note, Moment, over, is_within, settled, before, after, after_restart, now_of, chosen}
use Rattle.sm_memdisk.specs.Placed.{over_outside, over_inside, where_is, within_outside, within_inside}
use Rattle.sm_memdisk.specs.Pages.{Pages, KeepsPages}
use Rattle.sm_memdisk.specs.Log.{IsUndoable, IsPending, EndsSettled, undone, fill_one, filled, chosen_image, IsStore}

-- a moment with the range of a write pending too
abbrev with_deed : Deed → Moment → Moment
with_deed (Written at old) m = record { base = m.base; pending = λ place. m.pending place || is_within at (length old) place }
with_deed Synced m = m

-- a moment with the ranges of these writes pending too, the oldest first
abbrev with_writes : List Note → Moment → Moment
with_writes [] m = m
with_writes (n ∷ notes) m = with_writes notes (with_deed n.deed m)

abbrev ArePending : ℕ → Pages → List Note → Type 0
ArePending size pages notes = All (IsPending size pages) notes

one_pending : (size : ℕ) (pages : Pages) (deed : Deed) (restart : Option Choice) (past : List Note) (c : Image) → restart ≡ None → IsUndoable size pages deed
    → now_of (record { deed = deed; restart = restart } ∷ past) c ≡ with_deed deed (now_of past (before deed c))
unfolding now_of
one_pending size pages (Written at old) restart past c none can = ap (λ r. after_restart r c (after (Written at old) c (now_of past (over c at old)))) none
one_pending size pages Synced restart past c none can = absurd can

module _ (size : ℕ) (pages : Pages) where
  pub now_pending : (notes past : List Note) (c : Image) → ArePending size pages notes → now_of (reverse notes ++ past) c ≡ with_writes notes (now_of past (undone notes c))
  now_pending [] past c are = refl
  now_pending (n ∷ notes) past c are =
      let head = All-head (IsPending size pages) n notes are in
      ap (λ (l : List Note). now_of (l ++ past) c) (reverse-append (n ∷ []) notes) ∙ ap (λ (l : List Note). now_of l c) (append_assoc (reverse notes) (n ∷ []) past)
      ∙ now_pending notes (n ∷ past) c (All-tail (IsPending size pages) n notes are)
      ∙ ap (with_writes notes) (one_pending size pages n.deed n.restart past (undone notes c) head.no_restart head.undoable)

base_with : (notes : List Note) (m : Moment) → (with_writes notes m).base ≡ m.base
base_with [] m = refl
base_with (n ∷ notes) m = base_with notes (with_deed n.deed m) ∙ one n.deed m
  where
    one : (deed : Deed) (l : Moment) → (with_deed deed l).base ≡ l.base
    one (Written at old) l = refl
    one Synced l = refl

or_true : (x y : Bool) → y ≡ true → (x || y) ≡ true
or_true true y is = refl
or_true false y is = is

stays_pending : (notes : List Note) (m : Moment) (place : ℕ) → m.pending place ≡ true → (with_writes notes m).pending place ≡ true
stays_pending [] m place is = is
stays_pending (n ∷ notes) m place is = stays_pending notes (with_deed n.deed m) place (one n.deed m is)
  where
    one : (deed : Deed) (l : Moment) → l.pending place ≡ true → (with_deed deed l).pending place ≡ true
    one (Written at old) l was = rw was
    one Synced l was = was

fill_step : (deed : Deed) (notes : List Note) (m : Moment) (byte : ℕ) (c d : Image) (place : ℕ) → m.pending place ≡ false
    → ((l : Moment) → l.pending place ≡ false → d place ≡ cond ((with_writes notes l).pending place) byte (c place))
    → fill_one deed byte d place ≡ cond ((with_writes notes (with_deed deed m)).pending place) byte (c place)
fill_step Synced notes m byte c d place none rest = rest m none
fill_step (Written at old) notes m byte c d place none rest =
    let n = length old in
    let next = with_deed (Written at old) m in
    elim (where_is at n place) [
      | inl out ↦
          let still : next.pending place ≡ false = let o = within_outside at n place out in rw (none, o) in
          over_outside d at (replicate n byte) place (subst (λ k. IsOutside at k place) (sym (length-replicate n byte)) out) ∙ rest next still
      | inr inside ↦
          let here : next.pending place ≡ true = let o = within_inside at n place inside.0 inside.1 in or_true (m.pending place) (is_within at n place) o in
          over_inside d at (replicate n byte) place inside.0 ∙ get_or-replicate n (place - at) byte _ (let h = inside.1 in let g = inside.0 in omega arith)
          ∙ sym (ap (λ b. cond b byte (c place)) (stays_pending notes next place here))
    ]

filled_pending : (notes : List Note) (m : Moment) (byte : ℕ) (c : Image) (place : ℕ) → m.pending place ≡ false
    → filled notes byte c place ≡ cond ((with_writes notes m).pending place) byte (c place)
filled_pending [] m byte c place none = rw none
filled_pending (n ∷ notes) m byte c place none = fill_step n.deed notes m byte c (filled notes byte c) place none (λ l free. filled_pending notes l byte c place free)

ends_now : (deed : Deed) (restart : Option Choice) (past : List Note) (c : Image) → EndsSettled (record { deed = deed; restart = restart } ∷ past)
    → now_of (record { deed = deed; restart = restart } ∷ past) c ≡ settled c
unfolding now_of
ends_now deed (Some choice) past c ends = refl
ends_now Synced None past c ends = refl
ends_now (Written at old) None past c ends = absurd ends

pub settled_now : (past : List Note) (c : Image) → EndsSettled past → now_of past c ≡ settled c
unfolding now_of
settled_now [] c ends = refl
settled_now (n ∷ past) c ends = ends_now n.deed n.restart past c ends

module _ (size : ℕ) (pages : Pages) (log : List Note) (first : ℕ) (store : IsStore size pages log first) where
  abbrev rest : List Note
  rest = drop first log

  abbrev past : List Note
  past = reverse log

  split : past ≡ reverse rest ++ reverse (take first log)
  split = ap reverse (sym (take-append-drop first log)) ∙ reverse-append (take first log) rest

  pub log_now : (c : Image) → now_of past c ≡ with_writes rest (settled (undone rest c))
  log_now c =
      ap (λ (l : List Note). now_of l c) split ∙ now_pending size pages rest (reverse (take first log)) c store.pending
      ∙ ap (with_writes rest) (settled_now (reverse (take first log)) (undone rest c) store.ends)

  -- what the pending writes become at a restart
  pub log_chosen : (choice : Choice) (c : Image) → chosen_image choice rest c ≡ chosen choice c (now_of past c)
  log_chosen Old c = sym (ap (λ (m : Moment). m.base) (log_now c) ∙ base_with rest (settled (undone rest c)))
  log_chosen New c = refl
  log_chosen (Fill byte) c = fun_ext (λ place.
      filled_pending rest (settled (undone rest c)) byte c place refl ∙ ap (λ (m : Moment). cond (m.pending place) byte (c place)) (sym (log_now c)))

kept_can : (size : ℕ) (old new : Pages) (deed : Deed) → KeepsPages old new → IsUndoable size old deed → IsUndoable size new deed
kept_can size old new (Written at bytes) keeps can = (can.0, λ k lt. keeps _ (can.1 k lt))
kept_can size old new Synced keeps can = can

pub kept_pending : (size : ℕ) (old new : Pages) → KeepsPages old new → (n : Note) → IsPending size old n → IsPending size new n
kept_pending size old new keeps n is = record { no_restart = is.no_restart; undoable = kept_can size old new n.deed keeps is.undoable }

-- the log through a write, a sync and a restart
module _ (size : ℕ) (old new : Pages) (log : List Note) (first : ℕ) (store : IsStore size old log first) where
  pub kept_store : KeepsPages old new → IsStore size new log first
  kept_store keeps = record {
    bounded = store.bounded;
    within = store.within;
    ends = store.ends;
    pending = All-weaker (IsPending size old) (IsPending size new) (kept_pending size old new keeps) (drop first log) store.pending;
  }

  pub store_write : KeepsPages old new → (n : Note) → IsPending size new n → IsStore size new (log ++ n ∷ []) first
  store_write keeps n is =
      let front : take first (log ++ n ∷ []) ≡ take first log = take-append-le first log (n ∷ []) store.within in
      let back : drop first (log ++ n ∷ []) ≡ drop first log ++ n ∷ [] = drop-append-le first log (n ∷ []) store.within in
      let before = kept_store keeps in record {
        bounded = store.bounded;
        within = omega (arith, store.within, length-append log (n ∷ []));
        ends = subst (λ (l : List Note). EndsSettled (reverse l)) (sym front) store.ends;
        pending = subst (All (IsPending size new)) (sym back) (All-push (IsPending size new) (drop first log) n before.pending is);
      }

-- a log whose last call leaves nothing pending
pub ended_store : (size : ℕ) (pages : Pages) (log : List Note) (n : ℕ) → size < 2 ^ 64 → length log ≡ n → EndsSettled (reverse log) → IsStore size pages log n
ended_store size pages log n bounded long ends =
    let all : take n log ≡ log = take_all n log (omega arith) in
    let none : drop n log ≡ [] = drop_all n log (omega arith) in record {
      bounded = bounded;
      within = omega arith;
      ends = subst (λ (l : List Note). EndsSettled (reverse l)) (sym all) ends;
      pending = subst (All (IsPending size pages)) (sym none) (All-nil (IsPending size pages));
    }

-- the newest call of a log
pub newest : (log : List Note) (i : ℕ) (d : Note) → length log ≡ suc i → reverse log ≡ get_or log i d ∷ reverse (take i log)
newest log i d long =
    let one : drop i log ≡ get_or log i d ∷ [] = last_one log i d long in
    ap reverse (sym (take-append-drop i log)) ∙ reverse-append (take i log) (drop i log) ∙ ap (λ (l : List Note). reverse l ++ reverse (take i log)) one
  where
    last_one : (xs : List Note) (k : ℕ) (x : Note) → length xs ≡ suc k → drop k xs ≡ get_or xs k x ∷ []
    last_one [] k x len = absurd (omega arith)
    last_one (y ∷ []) zero x len = refl
    last_one (y ∷ z ∷ xs) zero x len = absurd (omega arith)
    last_one (y ∷ xs) (suc k) x len = last_one xs k x (omega arith)

pub newest-set : (log : List Note) (i : ℕ) (n : Note) → length log ≡ suc i → reverse (set log i n) ≡ n ∷ reverse (take i log)
newest-set log i n long =
    newest (set log i n) i n (length-set log i n ∙ long) ∙ ap (λ (m : Note). m ∷ reverse (take i (set log i n))) (here log i n long)
    ∙ ap (λ (l : List Note). n ∷ reverse l) (take-set log i n)
  where
    here : (xs : List Note) (k : ℕ) (x : Note) → length xs ≡ suc k → get_or (set xs k x) k x ≡ x
    here [] k x len = absurd (omega arith)
    here (y ∷ xs) zero x len = refl
    here (y ∷ []) (suc k) x len = absurd (omega arith)
    here (y ∷ z ∷ xs) (suc k) x len = here (z ∷ xs) k x (omega arith)

undoable_in : (size more : ℕ) (pages : Pages) (deed : Deed) → size ≤ more → IsUndoable size pages deed → IsUndoable more pages deed
undoable_in size more pages (Written at old) le can = (let room = can.0 in omega arith, can.1)
undoable_in size more pages Synced le can = can

-- what is pending on a disk is pending on a longer one
pub pending_in : (size more : ℕ) (pages : Pages) (notes : List Note) → size ≤ more → All (IsPending size pages) notes → All (IsPending more pages) notes
pending_in size more pages notes le are =
    All-weaker (IsPending size pages) (IsPending more pages)
    (λ n is. record { no_restart = is.no_restart; undoable = undoable_in size more pages n.deed le is.undoable }) notes are
