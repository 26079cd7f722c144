-- Bytes of a page copied at once.
use Rattle.std.proofs.Common.{◌≡◌, inl, inr, ℕ, ◌+◌, ◌-◌, ◌<◌, ◌≤◌, List, ◌++◌, length, get_or, take, drop, sym, ◌∙◌, ap, arith, length-take}
use Rattle.std.proofs.lemmas.Bool.{cases_lt}
use Rattle.std.proofs.lemmas.List.{length-take, length-drop, get_or-take, get_or-drop}
use mathlib.Core.Path.{fun_ext}
use borrow.Rule.Slice.PartMut.{put_mid, post_of}
use Rattle.sm_disk.specs.Image.{part}
use Rattle.sm_disk.proofs.Parts.{part_each}
use Rattle.sm_memdisk.specs.Past.{over}
use Rattle.sm_memdisk.specs.Placed.{over_outside, over_inside}
use Rattle.sm_memdisk.specs.Pages.{page_image}
use Rattle.sm_memdisk.proofs.Overs.{any_default, get_or_first, get_or_second}

-- some bytes of a page
pub part_of_page : (xs : List ℕ) (from n : ℕ) → from + n ≤ length xs → take n (drop from xs) ≡ part (page_image xs) from n
part_of_page xs from n fits =
    let long : length (take n (drop from xs)) ≡ n = omega (arith, length-take n (drop from xs), length-drop from xs) in
    part_each (page_image xs) from (take n (drop from xs)) (λ j less. get_or-take n (drop from xs) j 0 (omega (arith, long, less)) ∙ get_or-drop from xs j 0)
    ∙ ap (part (page_image xs) from) long

-- bytes put over those of a page
pub page_over : (xs ys : List ℕ) (from k : ℕ) → from + k ≤ length xs → length ys ≡ k → page_image (put_mid from k xs ys) ≡ over (page_image xs) from ys
page_over xs ys from k fits long =
    let rest = post_of from k xs in
    let front : length (take from xs) ≡ from = omega (arith, length-take from xs) in
    fun_ext (λ place. elim (cases_lt place from) [
      | inl before ↦
          get_or_first (take from xs) (ys ++ rest) place 0 (omega (arith, front, before)) ∙ get_or-take from xs place 0 before
          ∙ sym (over_outside (page_image xs) from ys place (inl before))
      | inr on ↦
          get_or_second (take from xs) (ys ++ rest) place 0 (omega (arith, front, on)) ∙ ap (λ (n : ℕ). get_or (ys ++ rest) (place - n) 0) front
          ∙ elim (cases_lt (place - from) (length ys)) [
            | inl inside ↦
                get_or_first ys rest (place - from) 0 inside ∙ any_default ys (place - from) 0 (page_image xs place) inside
                ∙ sym (over_inside (page_image xs) from ys place on)
            | inr behind ↦
                let at : from + (k + (place - from - length ys)) ≡ place = omega (arith, long, on, behind) in
                get_or_second ys rest (place - from) 0 behind
                ∙ get_or-drop k (drop from xs) (place - from - length ys) 0 ∙ get_or-drop from xs (k + (place - from - length ys)) 0
                ∙ ap (λ (n : ℕ). get_or xs n 0) at
                ∙ sym (over_outside (page_image xs) from ys place (inr (omega (arith, on, behind))))
          ]
    ])
