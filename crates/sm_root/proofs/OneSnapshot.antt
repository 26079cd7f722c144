-- Reading one snapshot behind those before it.
use Rattle.std.proofs.Common.{◌≡◌, ℕ, List, [], ◌∷◌, ◌++◌, map, Ok, Err, refl}
use Rattle.std.specs.Prelude.{Option, Some, None, IfSome}
use Rattle.sm_base.specs.declared.numbers.Ident.{Ident}
use Rattle.sm_fields.specs.Place.{Place}
use Rattle.sm_fields.specs.Reading.{read}
use Rattle.sm_root.specs.declared.root.RootSnapshot.{RootSnapshot}
use Rattle.sm_root.specs.Condition.{map_of}
use Rattle.sm_root.specs.Layout.{fresh}
use Rattle.sm_root.specs.ByTable.{after_map, after_maps, rest_by_table, snapshot_by_table}

pub after_maps-push : (table : List ℕ) (ms : List (List ℕ)) (m : List ℕ) → after_maps table (ms ++ m ∷ []) ≡ after_map (after_maps table ms) 0 m
after_maps-push table [] m = refl
after_maps-push table (x ∷ ms) m = after_maps-push (after_map table 0 x) ms m

pub fresh_fails : (table : List ℕ) (logical : ℕ) (before : List RootSnapshot) (here : Place) (byte : Option ℕ) → IfSome byte (λ k. read (fresh before) here ≡ Err k)
    → IfSome byte (λ k. read (snapshot_by_table table logical before) here ≡ Err k)
unfolding snapshot_by_table
fresh_fails table logical before here None failed = tt
fresh_fails table logical before here (Some k) failed = rw failed refl

pub rest_fails : (table now : List ℕ) (logical : ℕ) (before : List RootSnapshot) (ident : Ident) (here between : Place) (byte : Option ℕ) → now ≡ after_maps table (map map_of before) → read (fresh before) here ≡ Ok (ident, between)
    → IfSome byte (λ k. read (rest_by_table now logical ident) between ≡ Err k) → IfSome byte (λ k. read (snapshot_by_table table logical before) here ≡ Err k)
unfolding snapshot_by_table
rest_fails table now logical before ident here between None is first failed = tt
rest_fails table now logical before ident here between (Some k) is first failed = rw (first, ← is) failed

pub snapshot_is : (table now : List ℕ) (logical : ℕ) (before : List RootSnapshot) (ident : Ident) (s : RootSnapshot) (here between after : Place) → now ≡ after_maps table (map map_of before) → read (fresh before) here ≡ Ok (ident, between)
    → read (rest_by_table now logical ident) between ≡ Ok (s, after) → read (snapshot_by_table table logical before) here ≡ Ok (s, after)
unfolding snapshot_by_table
snapshot_is table now logical before ident s here between after is first second = rw (first, ← is) second
