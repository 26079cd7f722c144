-- What the calls do to the state, from what they do to the content.
use Rattle.std.proofs.Common.{◌≡◌, inl, inr, ℕ, ◌≤◌, Bool, true, false, ◌||◌, cond, IsTrue, List, ◌∷◌, length, refl, sym, ◌∙◌, ap, subst, arith}
use Rattle.std.proofs.lemmas.Bool.{cases_Bool}
use Rattle.sm_disk.specs.Image.{Image, part, SameOutside}
use Rattle.sm_disk.specs.Disk.{Steps, IsQuiet, IsSynced, Wrote, MayHoldAny}
use Rattle.sm_memdisk.specs.declared.Image.{Image as Choice}
use Rattle.sm_memdisk.specs.Past.{Note, Moment, over, is_within, settled, now_of, earlier_of, MayLeave, LeftSince, chosen}
use Rattle.sm_memdisk.specs.Placed.{over_outside, within_outside, outside_of, or_left, or_right, pending_or_read}
use Rattle.sm_memdisk.specs.Content.{Content, seen_of, IsSame, DoesWrite, DoesSync, DoesRestart, restarted}
use Rattle.sm_memdisk.specs.State.{meant_by}
use Rattle.sm_memdisk.proofs.Overs.{part-over}
use Rattle.sm_memdisk.proofs.Told.{IsRestarted, write_note, write_base, write_pending, write_earlier, sync_now, sync_earlier, chosen_may, restart_moments, now_synced}

-- the moments are as they were
pub still_steps : (s t : Content) (f g : ℕ) → t.size ≡ s.size → f ≤ g → now_of t.past (seen_of t) ≡ now_of s.past (seen_of s) → earlier_of t.past (seen_of t) ≡ earlier_of s.past (seen_of s) → Steps (meant_by s f) (meant_by t g)
still_steps s t f g size counted now earlier =
    let all : now_of t.past (seen_of t) ∷ earlier_of t.past (seen_of t) ≡ now_of s.past (seen_of s) ∷ earlier_of s.past (seen_of s) =
    ap (λ (m : Moment). m ∷ earlier_of t.past (seen_of t)) now ∙ ap (λ (ms : List Moment). now_of s.past (seen_of s) ∷ ms) earlier in record {
      size = size;
      told = refl;
      faults = counted;
      later = let l = ap (λ (ms : List Moment). length ms) earlier in omega arith;
      keeps = λ k c le left. subst (λ (ms : List Moment). LeftSince ms k c) (sym all) left;
      nothing_else = λ k c le left. inl (subst (λ (ms : List Moment). LeftSince ms k c) all left);
    }

-- nothing but the count has changed
module _ (s t : Content) (f g : ℕ) (same : IsSame s t) (counted : f ≤ g) where
  now_same : now_of t.past (seen_of t) ≡ now_of s.past (seen_of s)
  now_same = ap (λ (l : List Note). now_of l (seen_of t)) same.past ∙ ap (now_of s.past) same.seen

  earlier_same : earlier_of t.past (seen_of t) ≡ earlier_of s.past (seen_of s)
  earlier_same = ap (λ (l : List Note). earlier_of l (seen_of t)) same.past ∙ ap (earlier_of s.past) same.seen

  pub same_quiet : IsQuiet (meant_by s f) (meant_by t g)
  same_quiet = record {
    seen = same.seen;
    no_more = λ c may. subst (λ (m : Moment). MayLeave m c) now_same may;
    no_less = λ c may. subst (λ (m : Moment). MayLeave m c) (sym now_same) may;
  }

  pub same_steps : Steps (meant_by s f) (meant_by t g)
  same_steps = still_steps s t f g same.size counted now_same earlier_same

  pub same_wrote : (at n : ℕ) → Wrote (meant_by s f) at n (meant_by t g)
  same_wrote at n = record {
    seen = λ place out. ap (λ (c : Image). c place) same.seen;
    images = λ c may. (c, subst (λ (m : Moment). MayLeave m c) now_same may, λ place out. refl);
  }

-- a moment more
pub more_steps : (s t : Content) (f g : ℕ) → t.size ≡ s.size → f ≤ g → earlier_of t.past (seen_of t) ≡ now_of s.past (seen_of s) ∷ earlier_of s.past (seen_of s) → Steps (meant_by s f) (meant_by t g)
more_steps s t f g size counted earlier = record {
  size = size;
  told = refl;
  faults = counted;
  later = let l = ap (λ (ms : List Moment). length ms) earlier in omega arith;
  keeps = λ k c le left. inr (subst (λ (ms : List Moment). LeftSince ms k c) (sym earlier) left);
  nothing_else = λ k c le left. elim left [
    | inl now ↦ inr now.1
    | inr before ↦ inl (subst (λ (ms : List Moment). LeftSince ms k c) earlier before)
  ];
}

module _ (s t : Content) (f g at : ℕ) (bytes : List ℕ) (does : DoesWrite s at bytes t) (counted : f ≤ g) where
  abbrev was : Moment
  was = now_of s.past (seen_of s)

  abbrev is : Moment
  is = now_of t.past (seen_of t)

  n : ℕ
  n = length bytes

  now_is : is ≡ now_of (write_note s.past (seen_of s) at bytes ∷ s.past) (over (seen_of s) at bytes)
  now_is = ap (λ (l : List Note). now_of l (seen_of t)) does.past ∙ ap (now_of _) does.seen

  base_is : (place : ℕ) → is.base place ≡ was.base place
  base_is place = ap (λ (m : Moment). m.base place) now_is ∙ ap (λ (c : Image). c place) (write_base s.past (seen_of s) at bytes)

  pending_is : (place : ℕ) → is.pending place ≡ (was.pending place || is_within at (length bytes) place)
  pending_is place = ap (λ (m : Moment). m.pending place) now_is ∙ write_pending s.past (seen_of s) at bytes place

  earlier_is : earlier_of t.past (seen_of t) ≡ was ∷ earlier_of s.past (seen_of s)
  earlier_is = ap (λ (l : List Note). earlier_of l (seen_of t)) does.past ∙ ap (earlier_of _) does.seen ∙ write_earlier s.past (seen_of s) at bytes

  pub write_steps : Steps (meant_by s f) (meant_by t g)
  write_steps = more_steps s t f g does.size counted earlier_is

  pub write_bytes : part (seen_of t) at (length bytes) ≡ bytes
  write_bytes = ap (λ (c : Image). part c at (length bytes)) does.seen ∙ part-over (seen_of s) at bytes

  -- an image before the write that gives this one
  source : Image → Image
  source c place = cond (is_within at (length bytes) place) (was.base place) (c place)

  source_may : (c : Image) → MayLeave is c → MayLeave was (source c)
  unfolding source
  source_may c may place = elim (cases_Bool (is_within at (length bytes) place)) [
    | inl inside ↦ inr (ap (λ b. cond b (was.base place) (c place)) inside)
    | inr out ↦
        let here : source c place ≡ c place = ap (λ b. cond b (was.base place) (c place)) out in
        elim (may place) [
          | inl pending ↦ inl (or_out (was.pending place) _ out (sym (pending_is place) ∙ pending))
          | inr base ↦ inr (here ∙ base ∙ base_is place)
        ]
  ]
    where
      or_out : (x y : Bool) → y ≡ false → IsTrue (x || y) → IsTrue x
      or_out true y none holds = refl
      or_out false y none holds = absurd (let clash : false ≡ true = sym none ∙ holds in cc)

  source_same : (c : Image) → SameOutside at (length bytes) (source c) c
  unfolding source
  source_same c place out = sym (ap (λ b. cond b (was.base place) (c place)) (within_outside at (length bytes) place out))

  pub write_wrote : Wrote (meant_by s f) at (length bytes) (meant_by t g)
  write_wrote = record {
    seen = λ place out. ap (λ (c : Image). c place) does.seen ∙ over_outside (seen_of s) at bytes place out;
    images = λ c may. (source c, source_may c may, source_same c);
  }

  pub write_any : MayHoldAny (meant_by s f) at (length bytes) (meant_by t g)
  write_any c d may same place = elim (cases_Bool (is_within at (length bytes) place)) [
    | inl inside ↦ inl (pending_is place ∙ or_right (was.pending place) _ inside)
    | inr out ↦ elim (may place) [
      | inl pending ↦ inl (pending_is place ∙ or_left (was.pending place) _ pending)
      | inr base ↦ inr (same place (outside_of at (length bytes) place out) ∙ base ∙ sym (base_is place))
    ]
  ]

module _ (s t : Content) (f g : ℕ) (does : DoesSync s t) (counted : f ≤ g) where
  synced_now : now_of t.past (seen_of t) ≡ settled (seen_of t)
  synced_now = ap (λ (l : List Note). now_of l (seen_of t)) does.past ∙ sync_now s.past (seen_of t)

  pub sync_steps : Steps (meant_by s f) (meant_by t g)
  sync_steps = more_steps s t f g does.size counted
      (ap (λ (l : List Note). earlier_of l (seen_of t)) does.past ∙ ap (earlier_of _) does.seen ∙ sync_earlier s.past (seen_of s))

  pub sync_synced : IsSynced (meant_by t g)
  sync_synced = now_synced t.past (seen_of t) synced_now

  pub sync_images : (c : Image) → MayLeave (now_of t.past (seen_of t)) c → MayLeave (now_of s.past (seen_of s)) c
  sync_images c may = subst (MayLeave (now_of s.past (seen_of s))) (sym (sync_synced c may ∙ does.seen)) (pending_or_read s.past (seen_of s))

module _ (s t : Content) (f g : ℕ) (choice : Choice) (does : DoesRestart s choice t) (counted : f ≤ g) where
  abbrev c : Image
  c = seen_of s

  abbrev d : Image
  d = chosen choice c (now_of s.past c)

  moved : IsRestarted (now_of s.past c) (now_of (restarted choice s.past) d) (earlier_of s.past c) (earlier_of (restarted choice s.past) d) c d
  moved = restart_moments choice s.past c

  restarted_now : now_of t.past (seen_of t) ≡ settled (seen_of t)
  restarted_now = ap (λ (l : List Note). now_of l (seen_of t)) does.past ∙ ap (now_of (restarted choice s.past)) does.seen ∙ (let m = moved in m.now_is) ∙ ap settled (sym does.seen)

  restarted_earlier : earlier_of t.past (seen_of t) ≡ earlier_of (restarted choice s.past) d
  restarted_earlier = ap (λ (l : List Note). earlier_of l (seen_of t)) does.past ∙ ap (earlier_of (restarted choice s.past)) does.seen

  pub restart_image : MayLeave (now_of s.past c) (seen_of t)
  restart_image = subst (MayLeave (now_of s.past c)) (sym does.seen) (chosen_may choice s.past c)

  pub restart_synced : IsSynced (meant_by t g)
  restart_synced = now_synced t.past (seen_of t) restarted_now

  pub restart_steps : Steps (meant_by s f) (meant_by t g)
  restart_steps = let m = moved in elim m.past [
    | inl more ↦ more_steps s t f g does.size counted (restarted_earlier ∙ more)
    | inr none ↦
        let now : now_of t.past (seen_of t) ≡ now_of s.past c = restarted_now ∙ ap settled (does.seen ∙ none.2) ∙ sym none.1 in
        still_steps s t f g does.size counted now (restarted_earlier ∙ none.0)
  ]

pub same_from : (s t : Content) → t ≡ s → IsSame s t
same_from s t is = record { size = ap (λ (x : Content). x.size) is; seen = ap seen_of is; past = ap (λ (x : Content). x.past) is }
