-- Bytes of pages.
use Rattle.std.proofs.Common.{◌≡◌, inl, inr, ℕ, zero, suc, ◌+◌, ◌-◌, ◌/◌, ◌%◌, ◌<◌, ◌≤◌, Bool, true, false, cond, List, [], ◌∷◌, length, get_or, refl, sym, ◌∙◌, ap, arith, Option, Some, None, replicate}
use Rattle.std.proofs.lemmas.Bool.{cases_eq, cases_lt}
use Rattle.std.proofs.lemmas.List.{get_or-replicate}
use Rattle.std.proofs.lemmas.Grind.{common_steps}
use Rattle.std.specs.Prelude.{is_some}
use Rattle.std.specs.Ordering.{nat_cmp}
use Rattle.std.specs.BTreeMap.{is_at}
use mathlib.Core.Path.{fun_ext}
use Rattle.sm_disk.specs.Image.{Image, part}
use Rattle.sm_memdisk.specs.Past.{over}
use Rattle.sm_memdisk.specs.Placed.{over_outside, over_inside}
use Rattle.sm_memdisk.specs.Pages.{Pages, page_image, page_byte, page_of, page_at, image_of}

other_key : (k q : ℕ) → (q ≡ k → ⊥) → is_at (nat_cmp k) q ≡ false
other_key k q ne = grind (arith, common_steps)

same_key : (k : ℕ) → is_at (nat_cmp k) k ≡ true
same_key k = grind (arith, common_steps)

-- bytes put at a place of two images that agree there
over_shift : (c d : Image) (at at' p p' : ℕ) (bytes : List ℕ) → c p ≡ d p' → p + at' ≡ p' + at → over c at bytes p ≡ over d at' bytes p'
over_shift c d at at' p p' bytes same shift = elim (cases_lt p at) [
  | inl before ↦ over_outside c at bytes p (inl before) ∙ same ∙ sym (over_outside d at' bytes p' (inl (omega arith)))
  | inr from ↦
      let k : p - at ≡ p' - at' = omega arith in
      over_inside c at bytes p from ∙ ap (λ (i : ℕ). get_or bytes i (c p)) k ∙ ap (get_or bytes (p' - at')) same
      ∙ sym (over_inside d at' bytes p' (omega arith))
]

part_shift : (c d : Image) (at at' n : ℕ) → ((j : ℕ) → j < n → c (at + j) ≡ d (at' + j)) → part c at n ≡ part d at' n
unfolding part
part_shift c d at at' zero same = refl
part_shift c d at at' (suc n) same =
    let e : at + 0 ≡ at = omega arith in
    let e' : at' + 0 ≡ at' = omega arith in
    let first : c at ≡ d at' = ap c (sym e) ∙ same 0 (omega arith) ∙ ap d e' in
    ap (λ (x : ℕ). x ∷ part c (suc at) n) first
    ∙ ap (λ (l : List ℕ). d at' ∷ l) (part_shift c d (suc at) (suc at') n (λ j lt.
    let f : suc at + j ≡ at + suc j = omega arith in let f' : at' + suc j ≡ suc at' + j = omega arith in
    ap c f ∙ same (suc j) (omega arith) ∙ ap d f'))

-- the byte of a place whose page stands
in_page : (pages : Pages) (number place : ℕ) (page : List ℕ) → place / 4096 ≡ number → page_of pages number ≡ Some page → image_of pages place ≡ page_image page (place % 4096)
unfolding image_of
in_page pages number place page here is = ap (λ (k : ℕ). page_byte (page_of pages k) (place % 4096)) here ∙ ap (λ o. page_byte o (place % 4096)) is

in_none : (pages : Pages) (number place : ℕ) → place / 4096 ≡ number → page_of pages number ≡ None → image_of pages place ≡ 0
unfolding image_of
in_none pages number place here is = ap (λ (k : ℕ). page_byte (page_of pages k) (place % 4096)) here ∙ ap (λ o. page_byte o (place % 4096)) is

in_other : (old new : Pages) (number place : ℕ) (page : List ℕ) → (place / 4096 ≡ number → ⊥) → ((q : ℕ) → page_of new q ≡ cond (is_at (nat_cmp number) q) (Some page) (page_of old q)) → image_of new place ≡ image_of old place
unfolding image_of
in_other old new number place page ne updated = ap (λ o. page_byte o (place % 4096)) (updated (place / 4096) ∙ ap (λ b. cond b (Some page) (page_of old (place / 4096))) (other_key number (place / 4096) ne))

updated_here : (old new : Pages) (number : ℕ) (page : List ℕ) → ((q : ℕ) → page_of new q ≡ cond (is_at (nat_cmp number) q) (Some page) (page_of old q)) → page_of new number ≡ Some page
updated_here old new number page updated = updated number ∙ ap (λ b. cond b (Some page) (page_of old number)) (same_key number)

-- bytes put into one page
pub put_image : (old new : Pages) (place : ℕ) (page page' bytes : List ℕ) → page_at old place ≡ Some page → ((q : ℕ) → page_of new q ≡ cond (is_at (nat_cmp (place / 4096)) q) (Some page') (page_of old q))
    → page_image page' ≡ over (page_image page) (place % 4096) bytes → place % 4096 + length bytes ≤ 4096 → image_of new ≡ over (image_of old) place bytes
put_image old new place page page' bytes stands updated put fits = fun_ext (λ p. elim (cases_eq (p / 4096) (place / 4096)) [
  | inl here ↦
      in_page new (place / 4096) p page' here (updated_here old new (place / 4096) page' updated) ∙ ap (λ (c : Image). c (p % 4096)) put
      ∙ over_shift (page_image page) (image_of old) (place % 4096) place (p % 4096) p bytes (sym (in_page old (place / 4096) p page here stands)) (omega arith)
  | inr ne ↦ in_other old new (place / 4096) p page' ne updated ∙ sym (over_outside (image_of old) place bytes p (elim (cases_lt p place) [ inl before ↦ inl before | inr from ↦ inr (omega arith) ]))
])

-- a page of zeros in the place of a missing one
pub blank_image : (old new : Pages) (number : ℕ) (page : List ℕ) → page_of old number ≡ None → ((q : ℕ) → page_of new q ≡ cond (is_at (nat_cmp number) q) (Some page) (page_of old q)) → page ≡ replicate 4096 0
    → image_of new ≡ image_of old
blank_image old new number page none updated zeros = fun_ext (λ p. elim (cases_eq (p / 4096) number) [
  | inl here ↦
      in_page new number p page here (updated_here old new number page updated) ∙ ap (λ (l : List ℕ). page_image l (p % 4096)) zeros
      ∙ get_or-replicate 4096 (p % 4096) 0 0 (omega arith) ∙ sym (in_none old number p here none)
  | inr ne ↦ in_other old new number p page ne updated
])

-- a part within one page
pub part-page : (pages : Pages) (place n : ℕ) (page : List ℕ) → page_at pages place ≡ Some page → place % 4096 + n ≤ 4096 → part (page_image page) (place % 4096) n ≡ part (image_of pages) place n
part-page pages place n page stands fits = part_shift (page_image page) (image_of pages) (place % 4096) place n (λ j lt.
    let here : (place + j) / 4096 ≡ place / 4096 = omega arith in
    let offset : place % 4096 + j ≡ (place + j) % 4096 = omega arith in
    ap (page_image page) offset ∙ sym (in_page pages (place / 4096) (place + j) page here stands))

zeros_are : (c : Image) (at n : ℕ) → ((j : ℕ) → j < n → c (at + j) ≡ 0) → replicate n 0 ≡ part c at n
unfolding part
zeros_are c at zero each = refl
zeros_are c at (suc n) each =
    let e : at + 0 ≡ at = omega arith in
    ap (λ (x : ℕ). x ∷ replicate n 0) (sym (ap c (sym e) ∙ each 0 (omega arith)))
    ∙ ap (λ (l : List ℕ). c at ∷ l) (zeros_are c (suc at) n (λ j lt. let f : suc at + j ≡ at + suc j = omega arith in ap c f ∙ each (suc j) (omega arith)))

pub part-none : (pages : Pages) (place n : ℕ) → page_at pages place ≡ None → place % 4096 + n ≤ 4096 → replicate n 0 ≡ part (image_of pages) place n
part-none pages place n none fits = zeros_are (image_of pages) place n (λ j lt. let here : (place + j) / 4096 ≡ place / 4096 = omega arith in in_none pages (place / 4096) (place + j) here none)

pub none_there : (found : Option (List ℕ)) (has : Bool) → has ≡ is_some found → has ≡ false → found ≡ None
none_there None has is missing = refl
none_there (Some page) has is missing = absurd (let clash : true ≡ false = sym is ∙ missing in cc)

pub image-none : (place : ℕ) → image_of [] place ≡ 0
unfolding image_of
image-none place = refl
