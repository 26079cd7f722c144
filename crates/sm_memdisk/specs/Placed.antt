-- Bytes put at a place.
use Rattle.std.proofs.Common.{◌≡◌, ◌⊎◌, inl, inr, ℕ, ◌+◌, ◌-◌, ◌<◌, ◌≤◌, Bool, true, false, IsTrue, List, [], ◌∷◌, length, get_or, refl, sym, ◌∙◌, arith, ◌||◌}
use Rattle.std.specs.Prelude.{Option, Some, None}
use Rattle.std.proofs.lemmas.Bool.{cases_lt, cases_Bool, lt-ltb, le-ltb}
use Rattle.std.proofs.lemmas.List.{get_or_past}
use Rattle.sm_disk.specs.Image.{Image, IsOutside, SameOutside}
use Rattle.sm_memdisk.specs.declared.Image.{Image as Choice}
use Rattle.sm_memdisk.specs.Past.{Deed, Written, Synced, Note, Moment, over, is_within, before, after, after_restart, now_of}

pub over_outside : (c : Image) (at : ℕ) (bytes : List ℕ) → SameOutside at (length bytes) c (over c at bytes)
over_outside c at bytes place (inl before) = let t = lt-ltb place at before in rw t
over_outside c at bytes place (inr behind) = let t = le-ltb place at (omega arith) in let past : length bytes ≤ place - at = omega arith in rw (t, get_or_past)

pub over_inside : (c : Image) (at : ℕ) (bytes : List ℕ) (place : ℕ) → at ≤ place → over c at bytes place ≡ get_or bytes (place - at) (c place)
over_inside c at bytes place from = let t = le-ltb place at from in rw t

-- a place is outside or inside
pub where_is : (at n place : ℕ) → IsOutside at n place ⊎ ((at ≤ place) × (place < at + n))
where_is at n place = elim (cases_lt place at) [
  | inl before ↦ inl (inl before)
  | inr from ↦ elim (cases_lt place (at + n)) [
    | inl below ↦ inr (from, below)
    | inr behind ↦ inl (inr behind)
  ]
]

pub within_outside : (at n place : ℕ) → IsOutside at n place → is_within at n place ≡ false
within_outside at n place (inl before) = let t = lt-ltb place at before in rw t
within_outside at n place (inr behind) = let t = le-ltb place at (omega arith) in let u = le-ltb place (at + n) behind in rw (t, u)

pub within_inside : (at n place : ℕ) → at ≤ place → place < at + n → is_within at n place ≡ true
within_inside at n place from below = let a = le-ltb place at from in let b = lt-ltb place (at + n) below in rw (a, b)

pub outside_of : (at n place : ℕ) → is_within at n place ≡ false → IsOutside at n place
outside_of at n place is = elim (where_is at n place) [
  | inl out ↦ out
  | inr inside ↦ absurd (let e = within_inside at n place inside.0 inside.1 in cc)
]

pub or_left : (x y : Bool) → IsTrue x → IsTrue (x || y)
or_left true y is = refl
or_left false y is = absurd (let h : false ≡ true = is in cc)

pub or_right : (x y : Bool) → IsTrue y → IsTrue (x || y)
or_right true y is = refl
or_right false y is = is

-- a place that is not pending reads as what is on the medium
pending_after : (deed : Deed) (restart : Option Choice) (c : Image) (m : Moment) → ((place : ℕ) → IsTrue (m.pending place) ⊎ (before deed c place ≡ m.base place))
    → (place : ℕ) → let next = after_restart restart c (after deed c m) in IsTrue (next.pending place) ⊎ (c place ≡ next.base place)
pending_after deed (Some choice) c m was place = inr refl
pending_after Synced None c m was place = inr refl
pending_after (Written at old) None c m was place = elim (cases_Bool (is_within at (length old) place)) [
  | inl inside ↦ inl (or_right (m.pending place) _ inside)
  | inr out ↦ elim (was place) [
    | inl pending ↦ inl (or_left (m.pending place) _ pending)
    | inr is ↦ inr (sym (over_outside c at old place (outside_of at (length old) place out)) ∙ is)
  ]
]

pub pending_or_read : (past : List Note) (c : Image) (place : ℕ) → IsTrue ((now_of past c).pending place) ⊎ (c place ≡ (now_of past c).base place)
unfolding now_of
pending_or_read [] c place = inr refl
pending_or_read (n ∷ past) c place = pending_after n.deed n.restart c (now_of past (before n.deed c)) (pending_or_read past (before n.deed c)) place
