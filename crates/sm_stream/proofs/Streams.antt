-- Laws on the bytes that streams give and take.
use Rattle.std.proofs.Common.{◌≡◌, ℕ, ◌+◌, ◌-◌, ◌≤◌, List, ◌++◌, length, take, drop, sym, arith, Option, Some, None, length-drop}
use Rattle.std.proofs.Math.Seq.{take-append_seam}
use Rattle.std.proofs.lemmas.List.{drop-drop, take-append-drop, length-take-le}
use Rattle.std.proofs.lemmas.Grind.{common_steps}
use Rattle.std.specs.Io.KnownBytes.{append_known, prepend_known}
use Rattle.sm_stream.specs.Whole.{GotAllBut, TookAtMost}

copied_front : (n : ℕ) (m ys copied : List ℕ) → n ≤ length m → copied ≡ take n m → m ≡ take n (copied ++ ys) ++ drop n m
copied_front n m ys copied h e =
    let l : length copied ≡ n = rw e (length-take-le n m h) in
    let t : take (length copied) (copied ++ ys) ≡ copied = take-append_seam copied ys in
    let t' : take n (copied ++ ys) ≡ copied = rw l at t in
    rw (t', e) (sym (take-append-drop n m))

-- what was copied and what is left are what was left
pub given : (n at : ℕ) (bytes into copied : List ℕ) → at + n ≤ length bytes → copied ≡ take ((at + n) - at) (drop at bytes) → drop at bytes ≡ take n (copied ++ drop n into) ++ drop (at + n) bytes
given n at bytes into copied h e =
    let k : (at + n) - at ≡ n = omega arith in
    let e' = rw k at e in
    let l : n ≤ length (drop at bytes) = omega (arith, length-drop at bytes) in
    rw (← drop-drop n at bytes) (copied_front n (drop at bytes) (drop n into) copied l e')

-- a piece more was taken
pub went_on : (old mid new : Option (List ℕ)) (bytes rest : List ℕ) (n : ℕ) → n ≤ length rest → GotAllBut old mid bytes rest → new ≡ append_known mid (take n rest) → GotAllBut old new bytes (take (length rest - n) (drop n rest))
went_on None mid new bytes rest n h g w = (g.0 ++ take n rest, grind (arith, common_steps, g.1), grind (arith, common_steps, g.2))
went_on (Some had) mid new bytes rest n h g w = (g.0 ++ take n rest, grind (arith, common_steps, g.1), grind (arith, common_steps, g.2))

-- a piece more came
pub came_on : (old mid new : Option (List ℕ)) (bytes into : List ℕ) (n limit : ℕ) → length bytes + n ≤ limit → old ≡ prepend_known bytes mid → mid ≡ prepend_known (take n into) new → TookAtMost limit old new
came_on old mid None bytes into n limit h e m = (bytes ++ take n into, grind (arith, common_steps), grind (arith, common_steps))
came_on old mid (Some rest) bytes into n limit h e m = (bytes ++ take n into, grind (arith, common_steps), grind (arith, common_steps))
