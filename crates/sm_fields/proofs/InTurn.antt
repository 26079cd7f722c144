-- Reading values one behind the other, as a loop does.
use Rattle.std.proofs.Common.{◌≡◌, ℕ, suc, ◌+◌, ◌-◌, ◌<◌, ◌≤◌, List, [], ◌∷◌, ◌++◌, Result, Ok, Err, refl, sym, ap, ◌∙◌, append_assoc, arith}
use Rattle.std.specs.Prelude.{Option, Some, None, IfSome}
use Rattle.std.proofs.lemmas.List.{append-nil}
use Rattle.sm_fields.specs.Format.{Format, in_turn}
use Rattle.sm_fields.specs.Place.{Place}
use Rattle.sm_fields.specs.Reading.{and_then, read}

-- what was read before, and what is still read
abbrev pub with_front : {A : Type 0} → List A → Result (List A × Place) ℕ → Result (List A × Place) ℕ
with_front front r = and_then r (λ x. Ok (front ++ x.0, x.1))

pub starts : {A : Type 0} (r : Result (List A × Place) ℕ) → with_front [] r ≡ r
starts (Ok x) = refl
starts (Err k) = refl

regroup : {A : Type 0} (front : List A) (x : A) (r : Result (List A × Place) ℕ) → with_front front (and_then r (λ y. Ok (x ∷ y.0, y.1))) ≡ with_front (front ++ x ∷ []) r
regroup front x (Ok y) = ap (λ xs. Ok (xs, y.1)) (simp append_assoc)
regroup front x (Err k) = refl

pub goes_on : {A : Type 0} (next : List A → Format A) (front : List A) (count i : ℕ) (here after : Place) (x : A) (total : Result (List A × Place) ℕ) → i < count → read (next front) here ≡ Ok (x, after)
    → with_front front (read (in_turn next front (count - i)) here) ≡ total → with_front (front ++ x ∷ []) (read (in_turn next (front ++ x ∷ []) (count - (i + 1))) after) ≡ total
unfolding in_turn
goes_on next front count i here after x total lt h so_far =
    let k : count - i ≡ suc (count - (i + 1)) = omega arith in
    let one : with_front front (read (in_turn next front (count - i)) here) ≡ with_front (front ++ x ∷ []) (read (in_turn next (front ++ x ∷ []) (count - (i + 1))) after) = rw (k, h) (regroup front x (read (in_turn next (front ++ x ∷ []) (count - (i + 1))) after)) in
    sym one ∙ so_far

pub ends : {A : Type 0} (next : List A → Format A) (front : List A) (count i k : ℕ) (here : Place) (total : Result (List A × Place) ℕ) → i < count → read (next front) here ≡ Err k
    → with_front front (read (in_turn next front (count - i)) here) ≡ total → total ≡ Err k
unfolding in_turn
ends next front count i k here total lt h so_far =
    let left : count - i ≡ suc (count - (i + 1)) = omega arith in
    let one : with_front front (read (in_turn next front (count - i)) here) ≡ Err k = rw (left, h) refl in
    sym so_far ∙ one

pub is_done : {A : Type 0} (next : List A → Format A) (front : List A) (count i : ℕ) (here : Place) (total : Result (List A × Place) ℕ) → count ≤ i
    → with_front front (read (in_turn next front (count - i)) here) ≡ total → total ≡ Ok (front, here)
unfolding in_turn
is_done next front count i here total le so_far =
    let left : count - i ≡ 0 = omega arith in
    let one : with_front front (read (in_turn next front (count - i)) here) ≡ Ok (front, here) = rw left (ap (λ xs. Ok (xs, here)) (append-nil front)) in
    sym so_far ∙ one

-- the same where the error may also be want of memory
pub ends_somehow : {A : Type 0} (next : List A → Format A) (front : List A) (count i : ℕ) (byte : Option ℕ) (here : Place) (total : Result (List A × Place) ℕ) → i < count
    → IfSome byte (λ k. read (next front) here ≡ Err k) → with_front front (read (in_turn next front (count - i)) here) ≡ total → IfSome byte (λ k. total ≡ Err k)
ends_somehow next front count i None here total lt h so_far = tt
ends_somehow next front count i (Some k) here total lt h so_far = ends next front count i k here total lt h so_far
