-- One row of eight words in a list of whole rows.
use Rattle.std.proofs.Common.{◌≡◌, ℕ, ◌+◌, ◌-◌, ◌%◌, ◌<◌, ◌≤◌, List, length, get_or, map, sym, ◌∙◌, ap, subst, inl, inr, arith}
use Rattle.std.proofs.lemmas.Bool.{cases_lt}
use Rattle.std.proofs.lemmas.List.{get_or-map, length-map}
use Rattle.std.proofs.lemmas.Simd.{length-chunk, get_or-chunk, length-zip2, get_or-zip2, get_or-put_chunk_below, get_or-put_chunk_at, get_or-put_chunk_above}
use Rattle.std.specs.Simd.Lanes.{zip2, chunk, put_chunk}

pub whole_row : (at all : ℕ) → at < all → at % 8 ≡ 0 → all % 8 ≡ 0 → at + 8 ≤ all
whole_row at all less here there = omega arith

pub next_row : (at : ℕ) → at % 8 ≡ 0 → (at + 8) % 8 ≡ 0
next_row at here = omega arith

-- the rows up to this one are f of the two lists, and the others are as they were
module _ (f : ℕ → ℕ → ℕ) (at : ℕ) (start words others row : List ℕ)
    (room : at + 8 ≤ length words) (long : length row ≡ 8)
    (each : (j : ℕ) → j < 8 → get_or row j 0 ≡ f (get_or words (at + j) 0) (get_or others (at + j) 0))
    (done : (k : ℕ) → k < at → get_or words k 0 ≡ f (get_or start k 0) (get_or others k 0))
    (left : (k : ℕ) → at ≤ k → get_or words k 0 ≡ get_or start k 0) where
  at_row : (j : ℕ) → j < 8 → get_or (put_chunk at words row) (at + j) 0 ≡ f (get_or start (at + j) 0) (get_or others (at + j) 0)
  at_row j less =
      let fits : at + length row ≤ length words = omega arith in
      let here : j < length row = omega arith in
      get_or-put_chunk_at at words row j 0 here fits ∙ each j less ∙ ap (λ w. f w (get_or others (at + j) 0)) (left (at + j) (omega arith))

  pub done_more : (k : ℕ) → k < at + 8 → get_or (put_chunk at words row) k 0 ≡ f (get_or start k 0) (get_or others k 0)
  done_more k less = elim (cases_lt k at) [
    | inl below ↦ get_or-put_chunk_below at words row k 0 below ∙ done k below
    | inr from ↦
        let e : at + (k - at) ≡ k = omega arith in
        subst (λ n. get_or (put_chunk at words row) n 0 ≡ f (get_or start n 0) (get_or others n 0)) e (at_row (k - at) (omega arith))
  ]

  pub left_more : (k : ℕ) → at + 8 ≤ k → get_or (put_chunk at words row) k 0 ≡ get_or start k 0
  left_more k from =
      get_or-put_chunk_above at words row k 0 (omega arith) ∙ left k (omega arith)

-- a row that was computed lane by lane
module _ (f : ℕ → ℕ → ℕ) (at : ℕ) (words others : List ℕ) (room : at + 8 ≤ length words) (same : length others ≡ length words) where
  pub length_joined : length (zip2 f (chunk at 8 words) (chunk at 8 others)) ≡ 8
  length_joined =
      length-zip2 f (chunk at 8 words) (chunk at 8 others) (length-chunk at 8 words room ∙ sym (length-chunk at 8 others (omega arith))) ∙ length-chunk at 8 words room

  pub each_joined : (j : ℕ) → j < 8 → get_or (zip2 f (chunk at 8 words) (chunk at 8 others)) j 0 ≡ f (get_or words (at + j) 0) (get_or others (at + j) 0)
  each_joined j less =
      let x : j < length (chunk at 8 words) = rw (length-chunk at 8 words room) less in
      let y : j < length (chunk at 8 others) = rw (length-chunk at 8 others (omega arith)) less in
      get_or-zip2 f (chunk at 8 words) (chunk at 8 others) j 0 0 0 x y
      ∙ ap (λ w. f w (get_or (chunk at 8 others) j 0)) (get_or-chunk at 8 words j 0 less)
      ∙ ap (λ w. f (get_or words (at + j) 0) w) (get_or-chunk at 8 others j 0 less)

  module _ (g : ℕ → ℕ) where
    pub length_mapped : length (zip2 f (chunk at 8 words) (map g (chunk at 8 others))) ≡ 8
    length_mapped =
        length-zip2 f (chunk at 8 words) (map g (chunk at 8 others))
        (length-chunk at 8 words room ∙ sym (length-map (chunk at 8 others) g ∙ length-chunk at 8 others (omega arith)))
        ∙ length-chunk at 8 words room

    pub each_mapped : (j : ℕ) → j < 8 → get_or (zip2 f (chunk at 8 words) (map g (chunk at 8 others))) j 0 ≡ f (get_or words (at + j) 0) (g (get_or others (at + j) 0))
    each_mapped j less =
        let x : j < length (chunk at 8 words) = rw (length-chunk at 8 words room) less in
        let z : j < length (chunk at 8 others) = rw (length-chunk at 8 others (omega arith)) less in
        let y : j < length (map g (chunk at 8 others)) = rw (length-map (chunk at 8 others) g) z in
        get_or-zip2 f (chunk at 8 words) (map g (chunk at 8 others)) j 0 0 0 x y
        ∙ ap (λ w. f w (get_or (map g (chunk at 8 others)) j 0)) (get_or-chunk at 8 words j 0 less)
        ∙ ap (λ w. f (get_or words (at + j) 0) w) (get_or-map g (chunk at 8 others) j 0 0 z ∙ ap g (get_or-chunk at 8 others j 0 less))
