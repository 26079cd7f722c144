-- How many bits are set, by words and by places.
use Rattle.std.proofs.Common.{◌≡◌, ℕ, zero, suc, ◌+◌, ◌*◌, ◌/◌, ◌-◌, ◌%◌, ◌^◌, ◌<◌, ◌≤◌, Bool, false, cond, eqb, List, length, get_or, take, map, sum_by, count_by, count_ones, w64, Fits, refl, sym, ◌∙◌, ap, ap₂, arith, add-one}
use Rattle.std.proofs.lemmas.Bool.Decides.{nat_tests}
use Rattle.std.proofs.lemmas.List.{take_all}
use Rattle.std.proofs.lemmas.List.FromFn.{sum_by-map-range_with_len_more}
use Rattle.std.proofs.lemmas.List.Sums.{sum_by_more}
use Rattle.std.proofs.lemmas.Nat.Bits.{bit_at-suc, bit_at_lowest}
use Rattle.std.proofs.Math.Numerals.{one-add}
use Rattle.std.proofs.Math.Nat.{pow-suc}
use Rattle.std.specs.Int.{bit_at}
use Rattle.std.specs.Int.Count.{ones_step, ones}
use Rattle.std.specs.List.{range_with_len}
use Rattle.sm_bits.specs.Places.{size}
use Rattle.sm_bits.specs.Words.{bit, marks, AreWordsOf}
use Rattle.sm_bits.proofs.BitPlaces.{bit_of_word}

-- how many numbers below n pass
unfoldable pub passing : (ℕ → Bool) → ℕ → ℕ
passing p zero = 0
passing p (suc n) = passing p n + cond (p n) 1 0

pub passing-same : (p q : ℕ → Bool) (n : ℕ) → ((i : ℕ) → i < n → p i ≡ q i) → passing p n ≡ passing q n
unfolding passing
passing-same p q zero same = refl
passing-same p q (suc n) same =
    ap (λ b. passing p n + cond b 1 0) (same n (omega arith)) ∙ ap (λ m. m + cond (q n) 1 0) (passing-same p q n (λ i less. same i (omega arith)))

pub passing-add : (p : ℕ → Bool) (m n : ℕ) → passing p (m + n) ≡ passing p m + passing (λ i. p (m + i)) n
unfolding passing
passing-add p m zero = let e : m + 0 ≡ m = omega arith in ap (passing p) e ∙ omega arith
passing-add p m (suc n) =
    let e : m + suc n ≡ suc (m + n) = omega arith in
    let rest = passing-add p m n in
    ap (passing p) e ∙ omega (arith, rest)

-- none passes from n on
pub passing-past : (p : ℕ → Bool) (n k : ℕ) → ((i : ℕ) → n ≤ i → p i ≡ false) → passing p (n + k) ≡ passing p n
unfolding passing
passing-past p n zero past = let e : n + 0 ≡ n = omega arith in ap (passing p) e
passing-past p n (suc k) past =
    let e : n + suc k ≡ suc (n + k) = omega arith in
    ap (passing p) e ∙ ap (λ b. passing p (n + k) + cond b 1 0) (past (n + k) (omega arith)) ∙ (let rest = passing-past p n k past in omega (arith, rest))

pub passing_map : (p : ℕ → Bool) (n : ℕ) → count_by (λ mark. mark) (map p (range_with_len 0 n)) ≡ passing p n
unfolding passing
passing_map p zero = refl
passing_map p (suc n) =
    ap (λ m. count_by (λ mark. mark) (map p (range_with_len 0 m))) (sym (add-one n))
    ∙ sum_by-map-range_with_len_more (λ mark. cond mark 1 0) p 0 n n (omega arith)
    ∙ ap (λ m. m + cond (p n) 1 0) (passing_map p n)

passing_none : (p : ℕ → Bool) → passing p 0 ≡ 0
unfolding passing
passing_none p = refl

first_bit : (w : ℕ) → passing (λ i. eqb (bit_at w i) 1) 1 ≡ w % 2
unfolding passing
first_bit w = ap (λ n. 0 + cond (eqb n 1) 1 0) (bit_at_lowest w) ∙ (let e : 0 + cond (eqb (w % 2) 1) 1 0 ≡ w % 2 = grind (arith, nat_tests) in e)

-- the bits of one word
pub word_ones : (d w : ℕ) → w < 2 ^ d → passing (λ i. eqb (bit_at w i) 1) d ≡ count_ones w
unfolding ones
word_ones zero w small =
    let e : w ≡ 0 = omega arith in
    passing_none (λ i. eqb (bit_at w i) 1) ∙ sym (ap count_ones e)
word_ones (suc d) w small =
    let n : 1 + d ≡ suc d = omega arith in
    let half : w / 2 < 2 ^ d = (let p : 2 ^ suc d ≡ 2 ^ d * 2 = pow-suc 2 d in omega arith) in
    let first : passing (λ i. eqb (bit_at w i) 1) 1 ≡ w % 2 = first_bit w in
    let rest : passing (λ i. eqb (bit_at w (1 + i)) 1) d ≡ count_ones (w / 2) =
    passing-same (λ i. eqb (bit_at w (1 + i)) 1) (λ i. eqb (bit_at (w / 2) i) 1) d (λ i less. ap (λ m. eqb m 1) (ap (bit_at w) (one-add i) ∙ bit_at-suc w i)) ∙ word_ones d (w / 2) half in
    ap (passing (λ i. eqb (bit_at w i) 1)) (sym n) ∙ passing-add (λ i. eqb (bit_at w i) 1) 1 d ∙ ap₂ (λ x y. x + y) first rest ∙ sym (ones_step w)

-- the bits of all words
pub all_ones : (words : List ℕ) → ((k : ℕ) → Fits w64 (get_or words k 0)) → (k : ℕ) → k ≤ length words → passing (bit words) (64 * k) ≡ sum_by count_ones (take k words)
all_ones words fits zero less = passing_none (bit words)
all_ones words fits (suc k) less =
    let w = get_or words k 0 in
    let more : 64 * suc k ≡ 64 * k + 64 = omega arith in
    let one : suc k ≡ k + 1 = omega arith in
    let here : passing (λ i. bit words (64 * k + i)) 64 ≡ count_ones w =
    passing-same (λ i. bit words (64 * k + i)) (λ i. eqb (bit_at w i) 1) 64 (λ i lt. bit_of_word words k i (64 * k + i) lt refl) ∙ word_ones 64 w (fits k).fits in
    ap (passing (bit words)) more ∙ passing-add (bit words) (64 * k) 64 ∙ ap₂ (λ x y. x + y) (all_ones words fits k (omega arith)) here
    ∙ sym (ap (λ n. sum_by count_ones (take n words)) one ∙ sum_by_more count_ones words k 0 less)

-- how many places are in a set, by its words
pub size_is : (places : ℕ) (words : List ℕ) → ((k : ℕ) → Fits w64 (get_or words k 0)) → AreWordsOf places words → size (marks places words) ≡ sum_by count_ones words
unfolding marks
size_is places words fits are =
    let all = 64 * length words in
    let room : places + (all - places) ≡ all = omega (arith, are.rows) in
    passing_map (bit words) places
    ∙ sym (passing-past (bit words) places (all - places) are.clear)
    ∙ ap (passing (bit words)) room
    ∙ all_ones words fits (length words) (omega arith)
    ∙ ap (sum_by count_ones) (take_all (length words) words (omega arith))
