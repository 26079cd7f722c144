-- Reading the entries of a map one after the other.
use Rattle.std.proofs.Common.{◌≡◌, ℕ, suc, ◌+◌, List, [], ◌∷◌, ◌++◌, length, Result, Err, sym, ap, subst, ◌∙◌, arith}
use Rattle.std.specs.Prelude.{Option, Some, None, IfSome}
use Rattle.sm_fields.specs.Place.{Place}
use Rattle.sm_fields.specs.Reading.{read}
use Rattle.sm_fields.specs.Format.{Format, bits32, number, such_that}
use Rattle.sm_root.specs.ByTable.{free_at, with_number, after_map}

abbrev pub next_entry : List ℕ → List ℕ → Format ℕ
next_entry table before = such_that (number bits32) (λ n. free_at (after_map table 0 before) (length before) n)

pub after_map-push : (table : List ℕ) (place : ℕ) (ns : List ℕ) (n : ℕ) → after_map table place (ns ++ n ∷ []) ≡ with_number (after_map table place ns) (place + length ns) n
after_map-push table place [] n = ap (λ (p : ℕ). with_number table p n) (omega arith)
after_map-push table place (m ∷ ns) n = after_map-push (with_number table place m) (suc place) ns n ∙ ap (λ (p : ℕ). with_number (after_map (with_number table place m) (suc place) ns) p n) (omega arith)

-- an entry that was read by the table that the entries before it made
pub entry_is : (table now ns : List ℕ) (place : ℕ) (here : Place) (r : Result (ℕ × Place) ℕ) → now ≡ after_map table 0 ns → length ns ≡ place → read (such_that (number bits32) (free_at now place)) here ≡ r
    → read (next_entry table ns) here ≡ r
entry_is table now ns place here r is long h =
    subst (λ (p : ℕ). read (such_that (number bits32) (λ n. free_at (after_map table 0 ns) p n)) here ≡ r) (sym long)
    (subst (λ (t : List ℕ). read (such_that (number bits32) (λ n. free_at t place n)) here ≡ r) is h)

pub entry_fails : (table now ns : List ℕ) (place : ℕ) (here : Place) (byte : Option ℕ) → now ≡ after_map table 0 ns → length ns ≡ place → IfSome byte (λ k. read (such_that (number bits32) (free_at now place)) here ≡ Err k)
    → IfSome byte (λ k. read (next_entry table ns) here ≡ Err k)
entry_fails table now ns place here None is long h = tt
entry_fails table now ns place here (Some k) is long h = entry_is table now ns place here (Err k) is long h
