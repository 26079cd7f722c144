-- The moments of a disk through its calls.
use Rattle.std.proofs.Common.{◌≡◌, ◌⊎◌, inl, inr, ℕ, ◌-◌, Bool, true, false, ◌||◌, cond, IsTrue, List, [], ◌∷◌, length, refl, sym, ◌∙◌, ap, subst, arith}
use Rattle.std.specs.Prelude.{Option, Some, None}
use Rattle.std.proofs.lemmas.Bool.{cases_Bool}
use mathlib.Core.Path.{fun_ext}
use Rattle.sm_disk.specs.Image.{Image, part}
use Rattle.sm_disk.proofs.Parts.{length-part}
use Rattle.sm_memdisk.specs.declared.Image.{Image as Choice}
use Rattle.sm_memdisk.specs.declared.Image.TheVariants.{Old, New, Fill}
use Rattle.sm_memdisk.specs.Past.{Deed, Written, Synced, Note, Moment, over, is_within, settled, after, now_of, earlier_of, MayLeave, chosen}
use Rattle.sm_memdisk.specs.Placed.{over_outside, over_inside, where_is, within_outside, pending_or_read}
use Rattle.sm_memdisk.specs.Content.{restarted}
use Rattle.sm_memdisk.proofs.Overs.{put_back, any_default}

-- two images that agree where nothing is pending
abbrev Agree : Moment → Image → Image → Type 0
Agree m c d = (place : ℕ) → IsTrue (m.pending place) ⊎ (d place ≡ c place)

-- the same past, from either of them
abbrev SamePast : List Note → Image → Image → Type 0
SamePast past c d = (now_of past d ≡ now_of past c) × (earlier_of past d ≡ earlier_of past c)

same_image : (past : List Note) (c d : Image) → d ≡ c → SamePast past c d
same_image past c d is = (ap (now_of past) is, ap (earlier_of past) is)

never : (c d : Image) → Agree (settled c) c d → d ≡ c
never c d agree = fun_ext (λ place. elim (agree place) [
  | inl pending ↦ absurd (let clash : false ≡ true = pending in cc)
  | inr is ↦ is
])

or_false : (x y : Bool) → y ≡ false → IsTrue (x || y) → IsTrue x
or_false true y none is = refl
or_false false y none is = absurd (let clash : false ≡ true = sym none ∙ is in cc)

-- outside of the range of a write the two agree as before, and inside both have the old bytes
agree_before : (at : ℕ) (old : List ℕ) (m : Moment) (c d : Image) → Agree (after (Written at old) c m) c d → Agree m (over c at old) (over d at old)
agree_before at old m c d agree place = elim (where_is at (length old) place) [
  | inl out ↦ elim (agree place) [
    | inl pending ↦ inl (or_false (m.pending place) _ (within_outside at (length old) place out) pending)
    | inr is ↦ inr (over_outside d at old place out ∙ is ∙ sym (over_outside c at old place out))
  ]
  | inr inside ↦ inr (
      over_inside d at old place inside.0 ∙ any_default old (place - at) (d place) (c place) (let h = inside.1 in let g = inside.0 in omega arith)
      ∙ sym (over_inside c at old place inside.0))
]

-- what is told of the past does not depend on what pending places hold
same_step : (deed : Deed) (restart : Option Choice) (past : List Note) (c d : Image)
    → ((x y : Image) → Agree (now_of past x) x y → SamePast past x y)
    → Agree (now_of (record { deed = deed; restart = restart } ∷ past) c) c d
    → SamePast (record { deed = deed; restart = restart } ∷ past) c d
unfolding now_of earlier_of
same_step deed (Some choice) past c d earlier agree = same_image (record { deed = deed; restart = Some choice } ∷ past) c d (never c d agree)
same_step Synced None past c d earlier agree = same_image (record { deed = Synced; restart = None } ∷ past) c d (never c d agree)
same_step (Written at old) None past c d earlier agree =
    let is = earlier (over c at old) (over d at old) (agree_before at old (now_of past (over c at old)) c d agree) in (
      ap (λ (m : Moment). after (Written at old) c m) is.0,
      ap (λ (m : Moment). m ∷ earlier_of past (over d at old)) is.0 ∙ ap (λ (ms : List Moment). now_of past (over c at old) ∷ ms) is.1,
    )

same_past : (past : List Note) (c d : Image) → Agree (now_of past c) c d → SamePast past c d
unfolding now_of
same_past [] c d agree = same_image [] c d (never c d agree)
same_past (n ∷ past) c d agree = same_step n.deed n.restart past c d (same_past past) agree

-- after a write that was recorded
module _ (past : List Note) (c : Image) (at : ℕ) (bytes : List ℕ) where
  abbrev pub write_note : Note
  write_note = record { deed = Written at (part c at (length bytes)); restart = None }

  abbrev next : Image
  next = over c at bytes

  back : over next at (part c at (length bytes)) ≡ c
  back = put_back c at bytes (part c at (length bytes)) refl

  pub write_base : (now_of (write_note ∷ past) next).base ≡ (now_of past c).base
  unfolding now_of
  write_base = ap (λ (x : Image). (now_of past x).base) back

  pub write_pending : (place : ℕ) → (now_of (write_note ∷ past) next).pending place ≡ ((now_of past c).pending place || is_within at (length bytes) place)
  unfolding now_of
  write_pending place =
      ap (λ (x : Image). (now_of past x).pending place || is_within at (length (part c at (length bytes))) place) back
      ∙ ap (λ (n : ℕ). (now_of past c).pending place || is_within at n place) (length-part c at (length bytes))

  pub write_earlier : earlier_of (write_note ∷ past) next ≡ now_of past c ∷ earlier_of past c
  unfolding earlier_of
  write_earlier = ap (λ (x : Image). now_of past x ∷ earlier_of past x) back

-- after a sync that was recorded
module _ (past : List Note) (c : Image) where
  pub sync_now : now_of (record { deed = Synced; restart = None } ∷ past) c ≡ settled c
  unfolding now_of
  sync_now = refl

  pub sync_earlier : earlier_of (record { deed = Synced; restart = None } ∷ past) c ≡ now_of past c ∷ earlier_of past c
  unfolding earlier_of
  sync_earlier = refl

-- an image that a restart leaves is one of those that it may leave
pub chosen_may : (choice : Choice) (past : List Note) (c : Image) → MayLeave (now_of past c) (chosen choice c (now_of past c))
chosen_may Old past c place = inr refl
chosen_may New past c place = pending_or_read past c place
chosen_may (Fill byte) past c place = elim (cases_Bool ((now_of past c).pending place)) [
  | inl pending ↦ inl pending
  | inr none ↦ elim (pending_or_read past c place) [
    | inl pending ↦ inl pending
    | inr is ↦ inr (ap (λ b. cond b byte (c place)) none ∙ is)
  ]
]

-- it differs from what a read gave in pending places alone
chosen_agree : (choice : Choice) (past : List Note) (c : Image) → Agree (now_of past c) c (chosen choice c (now_of past c))
chosen_agree Old past c place = elim (pending_or_read past c place) [ inl pending ↦ inl pending | inr is ↦ inr (sym is) ]
chosen_agree New past c place = inr refl
chosen_agree (Fill byte) past c place = elim (cases_Bool ((now_of past c).pending place)) [
  | inl pending ↦ inl pending
  | inr none ↦ inr (ap (λ b. cond b byte (c place)) none)
]

-- where nothing is pending a restart leaves what a read gave
pub chosen_settled : (choice : Choice) (c d : Image) → chosen choice d (settled d) ≡ d
chosen_settled Old c d = refl
chosen_settled New c d = refl
chosen_settled (Fill byte) c d = refl

-- what a restart makes of the moments: nothing is pending, and either a moment more stands, or nothing was pending before
pub record IsRestarted (now next : Moment) (earlier later : List Moment) (c d : Image) : Type 0 where
  pub now_is : next ≡ settled d
  pub past : (later ≡ now ∷ earlier) ⊎ ((later ≡ earlier) × (now ≡ settled c) × (d ≡ c))

restart_step : (choice : Choice) (deed : Deed) (restart : Option Choice) (past : List Note) (c : Image)
    → let n : Note = record { deed = deed; restart = restart } in let d = chosen choice c (now_of (n ∷ past) c) in
    IsRestarted (now_of (n ∷ past) c) (now_of (restarted choice (n ∷ past)) d) (earlier_of (n ∷ past) c) (earlier_of (restarted choice (n ∷ past)) d) c d
unfolding now_of earlier_of
restart_step choice deed (Some first) past c =
    let same = chosen_settled choice c c in record {
      now_is = refl;
      past = inr (ap (earlier_of (record { deed = deed; restart = Some first } ∷ past)) same, refl, same);
    }
restart_step choice deed None past c =
    let n : Note = record { deed = deed; restart = None } in
    let d = chosen choice c (now_of (n ∷ past) c) in
    let is = same_past (n ∷ past) c d (chosen_agree choice (n ∷ past) c) in record {
      now_is = refl;
      past = inl (ap (λ (m : Moment). m ∷ earlier_of (n ∷ past) d) is.0 ∙ ap (λ (ms : List Moment). now_of (n ∷ past) c ∷ ms) is.1);
    }

pub restart_moments : (choice : Choice) (past : List Note) (c : Image)
    → let d = chosen choice c (now_of past c) in
    IsRestarted (now_of past c) (now_of (restarted choice past) d) (earlier_of past c) (earlier_of (restarted choice past) d) c d
unfolding now_of earlier_of
restart_moments choice [] c = let same = chosen_settled choice c c in record { now_is = refl; past = inr (refl, refl, same) }
restart_moments choice (n ∷ past) c = restart_step choice n.deed n.restart past c

settled_synced : (c d : Image) → MayLeave (settled c) d → d ≡ c
settled_synced c d may = fun_ext (λ place. elim (may place) [
  | inl pending ↦ absurd (let clash : false ≡ true = pending in cc)
  | inr is ↦ is
])

pub now_synced : (past : List Note) (c : Image) → now_of past c ≡ settled c → (d : Image) → MayLeave (now_of past c) d → d ≡ c
now_synced past c is d may = settled_synced c d (subst (λ (m : Moment). MayLeave m d) is may)

pub blank_synced : (past : List Note) (c : Image) → past ≡ [] → (d : Image) → MayLeave (now_of past c) d → d ≡ c
unfolding now_of
blank_synced past c none = now_synced past c (ap (λ (l : List Note). now_of l c) none)
