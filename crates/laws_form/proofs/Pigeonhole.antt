-- Where each number from 1 to n stands in a list, and no other, the list has n different numbers.
use Rattle.std.proofs.Common.{◌≡◌, ℕ, zero, suc, ◌+◌, ◌<◌, ◌≤◌, ◌==◌, ◌||◌, Bool, true, false, cond, List, [], ◌∷◌, ◌++◌, length, refl, sym, ◌∙◌, ap, subst, arith, eq-eqb, eqb-true}
use Rattle.std.proofs.lemmas.Bool.{or_from, or_left, or_right, both_ways, eqb-false}
use Rattle.std.proofs.lemmas.Bool.Decides.{nat_tests}
use Rattle.sm_defs.specs.Image.{stands, distinct}
use Rattle.sm_defs.proofs.Members.{any_left}

-- the list without n
abbrev without : ℕ → List ℕ → List ℕ
without n [] = []
without n (x ∷ xs) = cond (x == n) (without n xs) (x ∷ without n xs)

other_number : (x t n : ℕ) → (t == n) ≡ false → (x == n) ≡ true → (x == t) ≡ false
other_number x t n ne e = grind (arith, nat_tests)

stands_without_by : (t n x : ℕ) (xs : List ℕ) (b : Bool) → (x == n) ≡ b → (t == n) ≡ false → stands t (without n xs) ≡ stands t xs → stands t (without n (x ∷ xs)) ≡ stands t (x ∷ xs)
stands_without_by t n x xs true e ne ih = let d : (x == t) ≡ false = other_number x t n ne e in rw (e, d) ih
stands_without_by t n x xs false e ne ih = rw e (ap (λ b. (x == t) || b) ih)

stands_without : (t n : ℕ) (xs : List ℕ) → (t == n) ≡ false → stands t (without n xs) ≡ stands t xs
stands_without t n [] ne = refl
stands_without t n (x ∷ xs) ne = stands_without_by t n x xs (x == n) refl ne (stands_without t n xs ne)

last_here : (c : Bool) (d w : ℕ) → d ≡ w + cond c 1 0 → cond (false || c) d (1 + d) ≡ w + 1
last_here true d w r = r
last_here false d w r = omega arith

last_other : (c d z : Bool) (m w : ℕ) → m ≡ w + cond c 1 0 → cond (z || d) m (1 + m) ≡ cond (z || d) w (1 + w) + cond (false || c) 1 0
last_other c true true m w r = r
last_other c false true m w r = r
last_other c true false m w r = r
last_other c false false m w r = omega arith

one_less_by : (n x : ℕ) (xs : List ℕ) (b : Bool) → (x == n) ≡ b → 0 < n → distinct xs ≡ distinct (without n xs) + cond (stands n xs) 1 0 → distinct (x ∷ xs) ≡ distinct (without n (x ∷ xs)) + cond (stands n (x ∷ xs)) 1 0
one_less_by n x xs true eb pos ih =
    let same : x ≡ n = eqb-true x n eb in
    let zero_not : (x == 0) ≡ false = grind (arith, nat_tests) in
    let sc : stands x xs ≡ stands n xs = rw same refl in
    rw (eb, zero_not, sc) (last_here (stands n xs) (distinct xs) (distinct (without n xs)) ih)
one_less_by n x xs false eb pos ih =
    let sw : stands x (without n xs) ≡ stands x xs = stands_without x n xs eb in
    rw (eb, sw) (last_other (stands n xs) (stands x xs) (x == 0) (distinct xs) (distinct (without n xs)) ih)

-- a number that is taken away was one of the different ones
one_less : (n : ℕ) (xs : List ℕ) → 0 < n → distinct xs ≡ distinct (without n xs) + cond (stands n xs) 1 0
one_less n [] pos = omega arith
one_less n (x ∷ xs) pos = one_less_by n x xs (x == n) refl pos (one_less n xs pos)

pub at_least : (n : ℕ) (xs : List ℕ) → ((t : ℕ) → 0 < t → t ≤ n → stands t xs ≡ true) → n ≤ distinct xs
at_least zero xs h = omega arith
at_least (suc n) xs h =
    let here : stands (suc n) xs ≡ true = h (suc n) (omega arith) (omega arith) in
    let less = one_less (suc n) xs (omega arith) in
    let less' : distinct xs ≡ distinct (without (suc n) xs) + 1 = rw here at less in
    let below : n ≤ distinct (without (suc n) xs) =
    at_least n (without (suc n) xs) (λ t p q. let ne : (t == suc n) ≡ false = grind (arith, nat_tests) in stands_without t (suc n) xs ne ∙ h t p (omega arith)) in
    omega arith

-- it is away
gone_go : (n x : ℕ) (xs : List ℕ) (b : Bool) → (x == n) ≡ b → stands n (without n xs) ≡ false → stands n (cond b (without n xs) (x ∷ without n xs)) ≡ false
gone_go n x xs true e h = h
gone_go n x xs false e h = or_from (x == n) (stands n (without n xs)) e h

gone : (n : ℕ) (xs : List ℕ) → stands n (without n xs) ≡ false
gone n [] = refl
gone n (x ∷ xs) = gone_go n x xs (x == n) refl (gone n xs)

none_but_zero : (x : ℕ) (xs : List ℕ) → x ≡ 0 → distinct xs ≡ 0 → distinct (x ∷ xs) ≡ 0
none_but_zero x xs e h = let z : (x == 0) ≡ true = eq-eqb x 0 e in rw z h

only_zeros : (xs : List ℕ) → ((t : ℕ) → stands t xs ≡ true → t ≤ 0) → distinct xs ≡ 0
only_zeros [] h = refl
only_zeros (x ∷ xs) h =
    let first : x ≤ 0 = h x (or_left (x == x) (stands x xs) (eq-eqb x x refl)) in
    none_but_zero x xs (omega arith) (only_zeros xs (λ t e. h t (or_right (x == t) (stands t xs) e)))

more_at_most : (c : Bool) (d w n : ℕ) → d ≡ w + cond c 1 0 → w ≤ n → d ≤ suc n
more_at_most true d w n e h = omega arith
more_at_most false d w n e h = omega arith

below_go : (t n : ℕ) (xs : List ℕ) (b : Bool) → (t == suc n) ≡ b → ((t : ℕ) → stands t xs ≡ true → t ≤ suc n) → stands t (without (suc n) xs) ≡ true → t ≤ n
below_go t n xs true e h s = absurd (both_ways (stands (suc n) (without (suc n) xs)) (gone (suc n) xs) (subst (λ x. stands x (without (suc n) xs) ≡ true) (eqb-true t (suc n) e) s))
below_go t n xs false e h s = let k = h t (sym (stands_without t (suc n) xs e) ∙ s) in let ne = eqb-false t (suc n) e in omega arith

pub at_most : (n : ℕ) (xs : List ℕ) → ((t : ℕ) → stands t xs ≡ true → t ≤ n) → distinct xs ≤ n
at_most zero xs h = let e = only_zeros xs h in omega arith
at_most (suc n) xs h =
    more_at_most (stands (suc n) xs) (distinct xs) (distinct (without (suc n) xs)) n (one_less (suc n) xs (omega arith))
    (at_most n (without (suc n) xs) (λ t s. below_go t n xs (t == suc n) refl h s))

-- the different numbers of two lists are no more than those of the one and the other's members
longer_go : (z a b : Bool) (m d l : ℕ) → (a ≡ true → b ≡ true) → m ≤ d + l → cond (z || b) m (1 + m) ≤ cond (z || a) d (1 + d) + l
longer_go true a b m d l h k = k
longer_go false true b m d l h k = let e = h refl in rw e k
longer_go false false true m d l h k = omega arith
longer_go false false false m d l h k = omega arith

few_different : (xs : List ℕ) → distinct xs ≤ length xs
few_different [] = omega arith
few_different (x ∷ xs) = go ((x == 0) || stands x xs) (few_different xs)
  where
    go : (b : Bool) → distinct xs ≤ length xs → cond b (distinct xs) (1 + distinct xs) ≤ suc (length xs)
    go true h = omega arith
    go false h = omega arith

pub distinct_append : (xs ys : List ℕ) → distinct (xs ++ ys) ≤ distinct xs + length ys
distinct_append [] ys = let h = few_different ys in omega (arith, h)
distinct_append (x ∷ xs) ys = longer_go (x == 0) (stands x xs) (stands x (xs ++ ys)) (distinct (xs ++ ys)) (distinct xs) (length ys) (any_left (λ u. u == x) xs ys) (distinct_append xs ys)
