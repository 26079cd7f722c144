-- Parts of an image.
use Rattle.std.proofs.Common.{◌≡◌, ◌⊎◌, inl, inr, ℕ, zero, suc, ◌+◌, ◌-◌, ◌<◌, ◌≤◌, List, [], ◌∷◌, ◌++◌, length, get_or, take, drop, refl, sym, ◌∙◌, ap, arith}
use Rattle.sm_disk.specs.Image.{Image, part, SameAt, SameOutside, SameWithin}

pub length-part : (c : Image) (at n : ℕ) → length (part c at n) ≡ n
unfolding part
length-part c at zero = refl
length-part c at (suc n) = ap suc (length-part c (suc at) n)

cons_same : (a b : ℕ) (xs ys : List ℕ) → a ≡ b → xs ≡ ys → a ∷ xs ≡ b ∷ ys
cons_same a b xs ys p q = ap (λ (x : ℕ). x ∷ xs) p ∙ ap (λ (l : List ℕ). b ∷ l) q

pub part-same : (c d : Image) (at n : ℕ) → SameWithin at n c d → part d at n ≡ part c at n
unfolding part
part-same c d at zero same = refl
part-same c d at (suc n) same =
    cons_same (d at) (c at) (part d (suc at) n) (part c (suc at) n) (same at (omega arith) (omega arith))
    (part-same c d (suc at) n (λ place from below. same place (omega arith) (omega arith)))

pub take-part : (c : Image) (at n k : ℕ) → k ≤ n → take k (part c at n) ≡ part c at k
unfolding part
take-part c at n zero le = refl
take-part c at zero (suc k) le = absurd (omega arith)
take-part c at (suc n) (suc k) le = ap (λ (l : List ℕ). c at ∷ l) (take-part c (suc at) n k (omega arith))

pub drop-part : (c : Image) (at n k m : ℕ) → n ≡ k + m → drop k (part c at n) ≡ part c (at + k) m
unfolding part
drop-part c at n zero m is = let e : n ≡ m = omega arith in let f : at + 0 ≡ at = omega arith in ap (λ (j : ℕ). part c at j) e ∙ ap (λ (j : ℕ). part c j m) (sym f)
drop-part c at zero (suc k) m is = absurd (omega arith)
drop-part c at (suc n) (suc k) m is =
    let e : suc at + k ≡ at + suc k = omega arith in
    drop-part c (suc at) n k m (omega arith) ∙ ap (λ (j : ℕ). part c j m) e

pub part_one : (c : Image) (at : ℕ) → part c at 1 ≡ c at ∷ []
unfolding part
part_one c at = refl

-- two parts in a row
pub part-append : (c : Image) (at n m : ℕ) → part c at (n + m) ≡ part c at n ++ part c (at + n) m
unfolding part
part-append c at zero m =
    let e : 0 + m ≡ m = omega arith in let f : at ≡ at + 0 = omega arith in ap (λ (j : ℕ). part c at j) e ∙ ap (λ (j : ℕ). part c j m) f
part-append c at (suc n) m =
    let e : suc n + m ≡ suc (n + m) = omega arith in
    let f : suc at + n ≡ at + suc n = omega arith in
    ap (λ (j : ℕ). part c at j) e ∙ ap (λ (l : List ℕ). c at ∷ l) (part-append c (suc at) n m ∙ ap (λ (j : ℕ). part c (suc at) n ++ part c j m) f)

-- one byte of a part
pub get_or-part : (c : Image) (at n k d : ℕ) → k < n → get_or (part c at n) k d ≡ c (at + k)
unfolding part
get_or-part c at zero k d lt = absurd (omega arith)
get_or-part c at (suc n) zero d lt = let e : at ≡ at + 0 = omega arith in ap c e
get_or-part c at (suc n) (suc k) d lt = let e : suc at + k ≡ at + suc k = omega arith in get_or-part c (suc at) n k d (omega arith) ∙ ap c e

-- a list is a part where each of its bytes is
pub part_each : (c : Image) (at : ℕ) (xs : List ℕ) → ((j : ℕ) → j < length xs → get_or xs j 0 ≡ c (at + j)) → xs ≡ part c at (length xs)
unfolding part
part_each c at [] each = refl
part_each c at (x ∷ xs) each =
    let e : at + 0 ≡ at = omega arith in
    ap (λ (y : ℕ). y ∷ xs) (each 0 (omega arith) ∙ ap c e)
    ∙ ap (λ (l : List ℕ). c at ∷ l) (part_each c (suc at) xs (λ j lt. let f : at + suc j ≡ suc at + j = omega arith in each (suc j) (omega arith) ∙ ap c f))

-- images with one part agree in it
pub same_part : (c d : Image) (at n : ℕ) → part d at n ≡ part c at n → SameWithin at n c d
same_part c d at n same place from below =
    let k : at + (place - at) ≡ place = omega arith in
    ap d (sym k) ∙ sym (get_or-part d at n (place - at) 0 (omega arith)) ∙ ap (λ (l : List ℕ). get_or l (place - at) 0) same
    ∙ get_or-part c at n (place - at) 0 (omega arith) ∙ ap c k

-- a part outside of a written range stays
pub part-outside : (c d : Image) (at n from m : ℕ) → SameOutside at n c d → (from + m ≤ at) ⊎ (at + n ≤ from) → part d from m ≡ part c from m
part-outside c d at n from m same (inl before) = part-same c d from m (λ place above below. same place (inl (omega arith)))
part-outside c d at n from m same (inr behind) = part-same c d from m (λ place above below. same place (inr (omega arith)))

-- a part at places that are spared stays
pub part-spared : (places : ℕ → Type 0) (c d : Image) (at n : ℕ) → SameAt places c d → ((place : ℕ) → at ≤ place → place < at + n → places place) → part d at n ≡ part c at n
part-spared places c d at n same within = part-same c d at n (λ place from below. same place (within place from below))
