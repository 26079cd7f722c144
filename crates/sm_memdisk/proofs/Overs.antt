-- Bytes put at a place.
use Rattle.std.proofs.Common.{◌≡◌, inl, inr, ℕ, zero, suc, ◌+◌, ◌-◌, ◌<◌, ◌≤◌, List, [], ◌∷◌, ◌++◌, length, get_or, set, get_or-set_same, get_or-set_other, take, drop, refl, sym, ◌∙◌, ap, subst, arith, replicate, length-take}
use Rattle.std.proofs.lemmas.Bool.{cases_lt, cases_eq, cases_order}
use Rattle.std.proofs.lemmas.List.{length-replicate, length-append, length-take, length-drop}
use mathlib.Core.Path.{fun_ext}
use borrow.Rule.Slice.PartMut.{put_mid}
use Rattle.sm_disk.specs.Image.{Image, part, IsOutside}
use Rattle.sm_disk.proofs.Parts.{length-part, get_or-part, part_each}
use Rattle.sm_memdisk.specs.Past.{over}
use Rattle.sm_memdisk.specs.Placed.{over_outside, over_inside, where_is}
use Rattle.sm_memdisk.specs.Pages.{page_image}

pub any_default : (xs : List ℕ) (i d e : ℕ) → i < length xs → get_or xs i d ≡ get_or xs i e
any_default [] i d e lt = absurd (omega arith)
any_default (x ∷ xs) zero d e lt = refl
any_default (x ∷ xs) (suc i) d e lt = any_default xs i d e (omega arith)

pub get_or_first : (xs ys : List ℕ) (i d : ℕ) → i < length xs → get_or (xs ++ ys) i d ≡ get_or xs i d
get_or_first [] ys i d lt = absurd (omega arith)
get_or_first (x ∷ xs) ys zero d lt = refl
get_or_first (x ∷ xs) ys (suc i) d lt = get_or_first xs ys i d (omega arith)

pub get_or_second : (xs ys : List ℕ) (i d : ℕ) → length xs ≤ i → get_or (xs ++ ys) i d ≡ get_or ys (i - length xs) d
get_or_second [] ys i d le = let e : i - 0 ≡ i = omega arith in ap (λ (k : ℕ). get_or ys k d) (sym e)
get_or_second (x ∷ xs) ys zero d le = absurd (omega arith)
get_or_second (x ∷ xs) ys (suc i) d le = let e : suc i - suc (length xs) ≡ i - length xs = omega arith in get_or_second xs ys i d (omega arith) ∙ ap (λ (k : ℕ). get_or ys k d) (sym e)

pub over_none : (c : Image) (at : ℕ) → over c at [] ≡ c
over_none c at = fun_ext (λ place. elim (cases_lt place at) [
  | inl before ↦ over_outside c at [] place (inl before)
  | inr from ↦ over_outside c at [] place (inr (omega arith))
])

-- two runs of bytes, one behind the other
pub over_append : (c : Image) (at : ℕ) (xs ys : List ℕ) → over (over c at xs) (at + length xs) ys ≡ over c at (xs ++ ys)
over_append c at xs ys = fun_ext (λ place. elim (cases_lt place at) [
  | inl before ↦ over_outside (over c at xs) (at + length xs) ys place (inl (omega arith)) ∙ over_outside c at xs place (inl before) ∙ sym (over_outside c at (xs ++ ys) place (inl before))
  | inr from ↦ elim (cases_lt place (at + length xs)) [
    | inl below ↦
        over_outside (over c at xs) (at + length xs) ys place (inl below) ∙ over_inside c at xs place from
        ∙ sym (over_inside c at (xs ++ ys) place from ∙ get_or_first xs ys (place - at) (c place) (omega arith))
    | inr above ↦
        let e : place - (at + length xs) ≡ place - at - length xs = omega arith in
        over_inside (over c at xs) (at + length xs) ys place above ∙ ap (λ (d : ℕ). get_or ys (place - (at + length xs)) d) (over_outside c at xs place (inr above))
        ∙ ap (λ (k : ℕ). get_or ys k (c place)) e
        ∙ sym (over_inside c at (xs ++ ys) place from ∙ get_or_second xs ys (place - at) (c place) (omega arith))
  ]
])

take_none : (n : ℕ) → take n (let none : List ℕ = [] in none) ≡ []
take_none zero = refl
take_none (suc n) = refl

take_more : (k n : ℕ) (bytes : List ℕ) → take k bytes ++ take n (drop k bytes) ≡ take (k + n) bytes
take_more zero n bytes = let e : n ≡ 0 + n = omega arith in ap (λ (j : ℕ). take j bytes) e
take_more (suc k) n [] = take_none n ∙ sym (take_none (suc k + n))
take_more (suc k) n (b ∷ bytes) = let e : suc k + n ≡ suc (k + n) = omega arith in ap (λ (l : List ℕ). b ∷ l) (take_more k n bytes) ∙ ap (λ (j : ℕ). take j (b ∷ bytes)) (sym e)

-- the next n bytes of a run
pub over_more : (c : Image) (at k n : ℕ) (bytes : List ℕ) → k ≤ length bytes → over (over c at (take k bytes)) (at + k) (take n (drop k bytes)) ≡ over c at (take (k + n) bytes)
over_more c at k n bytes le =
    let long : length (take k bytes) ≡ k = omega (arith, length-take k bytes) in
    ap (λ (j : ℕ). over (over c at (take k bytes)) (at + j) (take n (drop k bytes))) (sym long)
    ∙ over_append c at (take k bytes) (take n (drop k bytes)) ∙ ap (over c at) (take_more k n bytes)

pub replicate_more : (k n b : ℕ) → replicate k b ++ replicate n b ≡ replicate (k + n) b
replicate_more zero n b = let e : n ≡ 0 + n = omega arith in ap (λ (j : ℕ). replicate j b) e
replicate_more (suc k) n b = let e : suc k + n ≡ suc (k + n) = omega arith in ap (λ (l : List ℕ). b ∷ l) (replicate_more k n b) ∙ ap (λ (j : ℕ). replicate j b) (sym e)

pub fill_more : (c : Image) (at k n b : ℕ) → over (over c at (replicate k b)) (at + k) (replicate n b) ≡ over c at (replicate (k + n) b)
fill_more c at k n b =
    let long : length (replicate k b) ≡ k = length-replicate k b in
    ap (λ (j : ℕ). over (over c at (replicate k b)) (at + j) (replicate n b)) (sym long)
    ∙ over_append c at (replicate k b) (replicate n b) ∙ ap (over c at) (replicate_more k n b)

-- old bytes put back
pub put_back : (c : Image) (at : ℕ) (bytes old : List ℕ) → old ≡ part c at (length bytes) → over (over c at bytes) at old ≡ c
put_back c at bytes old is =
    let n = length bytes in
    let same : length old ≡ n = ap length is ∙ length-part c at n in
    fun_ext (λ place. elim (where_is at n place) [
      | inl out ↦ over_outside (over c at bytes) at old place (subst (λ m. IsOutside at m place) (sym same) out) ∙ over_outside c at bytes place out
      | inr inside ↦
          let k : at + (place - at) ≡ place = omega arith in
          over_inside (over c at bytes) at old place inside.0 ∙ ap (λ (l : List ℕ). get_or l (place - at) (over c at bytes place)) is
          ∙ get_or-part c at n (place - at) _ (omega arith) ∙ ap c k
    ])

-- bytes read back from where they were put
pub part-over : (c : Image) (at : ℕ) (bytes : List ℕ) → part (over c at bytes) at (length bytes) ≡ bytes
part-over c at bytes = sym (part_each (over c at bytes) at bytes (λ j lt.
    let from : at ≤ at + j = omega arith in
    let k : at + j - at ≡ j = omega arith in
    any_default bytes j 0 (c (at + j)) lt ∙ ap (λ (i : ℕ). get_or bytes i (c (at + j))) (sym k) ∙ sym (over_inside c at bytes (at + j) from)))

-- one byte of a page
pub over-set : (bytes : List ℕ) (at byte : ℕ) → at < length bytes → page_image (set bytes at byte) ≡ over (page_image bytes) at (byte ∷ [])
over-set bytes at byte lt = fun_ext (λ place. elim (cases_eq place at) [
  | inl here ↦
      let first : place - at ≡ 0 = omega arith in
      ap (λ (i : ℕ). get_or (set bytes at byte) i 0) here ∙ get_or-set_same bytes at byte 0 lt
      ∙ sym (over_inside (page_image bytes) at (byte ∷ []) place (omega arith) ∙ ap (λ (i : ℕ). get_or (byte ∷ []) i (page_image bytes place)) first)
  | inr ne ↦
      get_or-set_other bytes at place byte 0 ne
      ∙ sym (over_outside (page_image bytes) at (byte ∷ []) place (other_place place at ne))
])
  where
    other_place : (a b : ℕ) → (a ≡ b → ⊥) → IsOutside b 1 a
    other_place a b ne = elim (cases_order a b) [
      | inl same ↦ absurd (ne same)
      | inr (inl less) ↦ inl less
      | inr (inr more) ↦ inr (omega arith)
    ]

-- one more byte of a page
pub set_more : (c : Image) (at k b : ℕ) (bytes : List ℕ) → k < length bytes → get_or bytes k 0 ≡ b → over (over c at (take k bytes)) (at + k) (b ∷ []) ≡ over c at (take (k + 1) bytes)
set_more c at k b bytes lt is = ap (over (over c at (take k bytes)) (at + k)) (sym (one bytes k b lt is)) ∙ over_more c at k 1 bytes (omega arith)
  where
    one : (xs : List ℕ) (i x : ℕ) → i < length xs → get_or xs i 0 ≡ x → take 1 (drop i xs) ≡ x ∷ []
    one [] i x less same = absurd (omega arith)
    one (y ∷ xs) zero x less same = ap (λ (z : ℕ). z ∷ []) same
    one (y ∷ xs) (suc i) x less same = one xs i x (omega arith) same

-- a slice with a part of it written over, as long
pub length-put_mid : (a k : ℕ) (xs ys : List ℕ) → a + k ≤ length xs → length ys ≡ k → length (put_mid a k xs ys) ≡ length xs
length-put_mid a k xs ys fits long =
    simp (length-append, length-take, length-drop) (omega arith)

pub take-replicate : (b k n : ℕ) → k ≤ n → take k (replicate n b) ≡ replicate k b
take-replicate b zero n le = refl
take-replicate b (suc k) zero le = absurd (omega arith)
take-replicate b (suc k) (suc n) le = ap (λ (l : List ℕ). b ∷ l) (take-replicate b k n (omega arith))
