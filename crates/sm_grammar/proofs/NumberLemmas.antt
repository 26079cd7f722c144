-- Laws on what digits stand for.
use Rattle.std.proofs.Common.{◌≡◌, ℕ, zero, suc, ◌+◌, ◌-◌, ◌*◌, ◌^◌, ◌≤◌, List, [], ◌∷◌, length, take, drop, get_or, true, refl, ◌∙◌, arith}
use Rattle.std.proofs.Math.Nat.{pow-succ', add-mul, mul_assoc, mul_comm, mul-le-mul_left, mul-one}
use Rattle.std.proofs.lemmas.List.{take_all}
use Rattle.std.proofs.lemmas.Bool.{and_parts}
use Rattle.std.specs.Char.{is_ascii_digit}
use Rattle.sm_grammar.specs.Number.{place_value, all_digits}

ten_pos : (k : ℕ) → 1 ≤ 10 ^ k
ten_pos zero = omega arith
ten_pos (suc k) = rw pow-succ' (omega (arith, ten_pos k))

-- a digit more behind a number, or in front of the digits that are left
pub next_digit : (v d k rest : ℕ) → (10 * v + d) * 10 ^ k + rest ≡ v * 10 ^ suc k + (d * 10 ^ k + rest)
next_digit v d k rest =
    let moved : (10 * v) * 10 ^ k ≡ v * 10 ^ suc k = rw (pow-succ', mul_comm 10 v, mul_assoc) refl in
    let split : (10 * v + d) * 10 ^ k ≡ (10 * v) * 10 ^ k + d * 10 ^ k = add-mul (10 * v) d (10 ^ k) in
    omega (arith, moved, split)

-- more digits make no number smaller
pub grows : (v k : ℕ) → v ≤ v * 10 ^ k
grows v k = let h = mul-le-mul_left v (ten_pos k) in let one : v * 1 ≡ v = mul-one v in omega (arith, h, one)

-- one turn of reading digits
pub one_digit : (v d n whole : ℕ) (rest : List ℕ) → n ≡ length rest → 1 ≤ length rest → d ≡ get_or rest 0 0 - 48 → all_digits rest ≡ true → v * 10 ^ length rest + place_value rest ≡ whole →
    ((10 * v + d) * 10 ^ length (take (n - 1) (drop 1 rest)) + place_value (take (n - 1) (drop 1 rest)) ≡ whole) × (all_digits (take (n - 1) (drop 1 rest)) ≡ true)
one_digit v d n whole [] len some digit digits so_far = absurd (omega arith)
one_digit v d n whole (x ∷ xs) len some digit digits so_far =
    let all : take (n - 1) xs ≡ xs = take_all (n - 1) xs (omega arith) in
    rw all (rw digit (next_digit v (x - 48) (length xs) (place_value xs) ∙ so_far), (and_parts (is_ascii_digit x) (all_digits xs) digits).1)
