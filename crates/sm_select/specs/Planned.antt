-- What a plan holds, on numbers alone.
use Rattle.std.specs.Prelude.{ℕ, suc, ◌+◌, ◌==◌, ◌&&◌, not, cond, Bool, List, [], ◌∷◌, map}
use Rattle.std.specs.List.{filter}
use Rattle.sm_bits.specs.Places.{has}
use Rattle.sm_defs.specs.Missing.{ascending, is_missing_at, first_number, rest}

pub record Planned : Type 0 where
  -- the source's number and the destination's number of each missing block
  pub pairs : List (ℕ × ℕ)
  -- what the destination will have at each place
  pub map : List ℕ

-- the places of a set in ascending order, of which the first is that one
abbrev pub members_from : ℕ → List Bool → List ℕ
members_from k [] = []
members_from k (b ∷ bs) = cond b (k ∷ members_from (suc k) bs) (members_from (suc k) bs)

abbrev pub members : List Bool → List ℕ
members set = members_from 0 set

-- a block has the number, and the set has not
abbrev pub is_lacking : List Bool → ℕ → Bool
is_lacking have t = not (t == 0) && not (has have t)

abbrev pub lacking : List Bool → List ℕ → List ℕ
lacking have target = filter (is_lacking have) target

abbrev pub twice : ℕ → ℕ × ℕ
twice n = (n, n)

-- of a mirror's leg: each number that the destination does not have, at both sides the same
abbrev pub mirror_plan : List ℕ → List Bool → Planned
mirror_plan target have = record { pairs = map twice (ascending (lacking have target)); map = target }

-- of a vault's leg: each number that the source's base does not have at its place, with the next free number
abbrev pub paired : List ℕ → List ℕ → List ℕ → List (ℕ × ℕ)
paired [] source free = []
paired (t ∷ ts) source free = cond (is_missing_at t (first_number source)) ((t, first_number free) ∷ paired ts (rest source) (rest free)) (paired ts (rest source) free)

-- where a leg sends no block: a hole stays one, and elsewhere stands what the destination's base has there
abbrev pub kept_number : ℕ → ℕ → ℕ
kept_number t base = cond (t == 0) 0 base

abbrev pub arranged : List ℕ → List ℕ → List ℕ → List ℕ → List ℕ
arranged [] source destination free = []
arranged (t ∷ ts) source destination free =
    cond (is_missing_at t (first_number source)) (first_number free ∷ arranged ts (rest source) (rest destination) (rest free))
    (kept_number t (first_number destination) ∷ arranged ts (rest source) (rest destination) free)

-- how many blocks are missing
abbrev pub missing_count : List ℕ → List ℕ → ℕ
missing_count [] source = 0
missing_count (t ∷ ts) source = cond (is_missing_at t (first_number source)) 1 0 + missing_count ts (rest source)

abbrev pub vault_plan : List ℕ → List ℕ → List ℕ → List ℕ → Planned
vault_plan target source destination free = record { pairs = paired target source free; map = arranged target source destination free }
