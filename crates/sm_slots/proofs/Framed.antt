-- What is framed.
use Rattle.std.proofs.Common.{◌≡◌, ℕ, ◌+◌, ◌^◌, ◌<◌, List, ◌++◌, length, take, drop, false, refl, sym, ◌∙◌, ap, arith, length-append}
use Rattle.std.proofs.lemmas.Nat.{from_be_bytes-to_be_bytes_4}
use Rattle.std.proofs.Math.Seq.{take-append_seam, drop-append_seam}
use Rattle.std.specs.Int.{from_be_bytes, to_be_bytes, w32}
use Rattle.sm_slots.specs.Stored.{is_blank, IsFramed}

take_front : (n : ℕ) (xs ys : List ℕ) → length xs ≡ n → take n (xs ++ ys) ≡ xs
take_front n xs ys is = ap (λ (k : ℕ). take k (xs ++ ys)) (sym is) ∙ take-append_seam xs ys

drop_front : (n : ℕ) (xs ys : List ℕ) → length xs ≡ n → drop n (xs ++ ys) ≡ ys
drop_front n xs ys is = ap (λ (k : ℕ). drop k (xs ++ ys)) (sym is) ∙ drop-append_seam xs ys

-- a magic word, the length of a body in four bytes and the body
pub framed_record : (magic body : List ℕ) → length magic ≡ 8 → is_blank magic ≡ false → length body < 2 ^ 32 → IsFramed (magic ++ (to_be_bytes w32 (length body) ++ body))
framed_record magic body eight not_blank fits =
    let four : length (to_be_bytes w32 (length body)) ≡ 4 = refl in
    let rest = to_be_bytes w32 (length body) ++ body in
    let long : length (magic ++ rest) ≡ length magic + (length (to_be_bytes w32 (length body)) + length body) = length-append magic rest ∙ ap (λ (n : ℕ). length magic + n) (length-append (to_be_bytes w32 (length body)) body) in
    let stated : take 4 (drop 8 (magic ++ rest)) ≡ to_be_bytes w32 (length body) = ap (λ (l : List ℕ). take 4 l) (drop_front 8 magic rest eight) ∙ take_front 4 (to_be_bytes w32 (length body)) body four in
    let value : from_be_bytes w32 (take 4 (drop 8 (magic ++ rest))) ≡ length body = ap (from_be_bytes w32) stated ∙ from_be_bytes-to_be_bytes_4 (length body) fits in record {
      magic = ap is_blank (take_front 8 magic rest eight) ∙ not_blank;
      head = omega arith;
      body = omega arith;
    }
