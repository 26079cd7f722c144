-- A table of places stands for the spots that it was made of.
use Rattle.std.proofs.Common.{◌≡◌, ℕ, zero, suc, ◌+◌, ◌-◌, ◌<◌, ◌≤◌, ◌==◌, true, false, List, [], ◌∷◌, length, map, get_or, refl, sym, subst, ◌∙◌, arith, inl, inr}
use Rattle.std.specs.Prelude.{◌||◌, nat_le, nat_lt, slice_set, replicate, Option, Some, None}
use Rattle.std.proofs.lemmas.Bool.{cases_eq, cases_lt}
use Rattle.std.proofs.lemmas.List.{get_or-set_same, get_or-set_other, get_or-replicate, length-set, length-replicate}
use Rattle.sm_fields.specs.Format.{number, such_that, bits32, count, in_turn, empty, head}
use Rattle.sm_fields.proofs.Alike.{Alike, alike_same, alike_such_that, alike_then, alike_in_turn}
use Rattle.sm_root.specs.declared.root.RootSnapshot.{RootSnapshot}
use Rattle.sm_root.specs.declared.TheConstants.{MAGIC, RECORD_SNAPSHOTS}
use Rattle.sm_root.specs.Condition.{map_of, snapshot_of}
use Rattle.sm_root.specs.Spots.{Spot, place_of, with_spot, with_map, with_maps, is_place, may_stand}
use Rattle.sm_root.specs.Layout.{block_map, snapshot, sizes, words, fresh, body, root_made, root_record}
use Rattle.sm_root.specs.ByTable.{free_at, with_number, after_map, after_maps, map_by_table, rest_by_table, snapshot_by_table, snapshots_by_table, images_by_table, body_by_table, record_by_table}

abbrev pub code : Option ℕ → ℕ
code None = 0
code (Some p) = p + 1

pub record StandsFor (most : ℕ) (table : List ℕ) (seen : List Spot) : Type 0 where
  pub long : length table ≡ most + 1
  pub places : (n : ℕ) → 0 < n → n ≤ most → get_or table n 0 ≡ code (place_of seen n)

place_code : (o : Option ℕ) (place : ℕ) → ((code o == 0) || (code o == place + 1)) ≡ is_place o place
place_code None place = refl
place_code (Some p) place =
    elim (cases_eq p place) [
      | inl same ↦ rw same grind arith
      | inr other ↦ grind (arith, other)
    ]

tests_same : (most : ℕ) (table : List ℕ) (seen : List Spot) → StandsFor most table seen → (place n : ℕ) → free_at table place n ≡ may_stand most seen place n
tests_same most table seen stands place zero = refl
tests_same most table seen stands place (suc n) =
    elim (cases_lt (suc n) (most + 1)) [
      | inl small ↦
          let in_table : nat_lt (suc n) (length table) ≡ true = grind (arith, stands.long) in
          let at_most : nat_le (suc n) most ≡ true = grind arith in
          let some : (suc n == 0) ≡ false = grind arith in
          rw (some, in_table, at_most, stands.places (suc n) (omega arith) (omega arith)) (place_code (place_of seen (suc n)) place)
      | inr large ↦
          let not_in_table : nat_lt (suc n) (length table) ≡ false = grind (arith, stands.long) in
          let above : nat_le (suc n) most ≡ false = grind arith in
          let some : (suc n == 0) ≡ false = grind arith in
          rw (some, not_in_table, above) refl
    ]

stands_after_number : (most : ℕ) (table : List ℕ) (seen : List Spot) → StandsFor most table seen → (place n : ℕ) → StandsFor most (with_number table place n) (with_spot seen place n)
stands_after_number most table seen stands place zero = stands
stands_after_number most table seen stands place (suc n) =
    let some : (suc n == 0) ≡ false = grind arith in
    rw some (record {
      long = omega (arith, length-set {A = ℕ}, stands.long);
      places = λ m positive small. elim (cases_eq (suc n) m) [
        | inl same ↦
            let is : (suc n == m) ≡ true = grind (arith, same) in
            let set_here : get_or (slice_set table (suc n) (place + 1)) m 0 ≡ place + 1 = subst (λ (x : ℕ). get_or (slice_set table (suc n) (place + 1)) x 0 ≡ place + 1) same (get_or-set_same table (suc n) (place + 1) 0 (omega (arith, stands.long))) in
            rw is set_here
        | inr other ↦
            let is : (suc n == m) ≡ false = grind (arith, other) in
            rw is (get_or-set_other table (suc n) m (place + 1) 0 (λ e. other (sym e)) ∙ stands.places m positive small)
      ];
    })

pub stands_after_map : (most : ℕ) (table : List ℕ) (seen : List Spot) → StandsFor most table seen → (place : ℕ) (ns : List ℕ) → StandsFor most (after_map table place ns) (with_map seen place ns)
stands_after_map most table seen stands place [] = stands
stands_after_map most table seen stands place (n ∷ ns) = stands_after_map most (with_number table place n) (with_spot seen place n) (stands_after_number most table seen stands place n) (suc place) ns

pub stands_after_maps : (most : ℕ) (table : List ℕ) (seen : List Spot) → StandsFor most table seen → (ms : List (List ℕ)) → StandsFor most (after_maps table ms) (with_maps seen ms)
stands_after_maps most table seen stands [] = stands
stands_after_maps most table seen stands (m ∷ ms) = stands_after_maps most (after_map table 0 m) (with_map seen 0 m) (stands_after_map most table seen stands 0 m) ms

pub stands_at_first : (most : ℕ) → StandsFor most (replicate (most + 1) 0) []
stands_at_first most = record {
  long = length-replicate (most + 1) 0;
  places = λ n positive small. get_or-replicate (most + 1) n 0 0 (omega arith);
}

map_alike : (most logical : ℕ) (table : List ℕ) (seen : List Spot) → StandsFor most table seen → Alike (map_by_table table logical) (block_map logical most seen)
unfolding map_by_table block_map
map_alike most logical table seen stands =
    alike_in_turn (λ before. such_that (number bits32) (λ n. free_at (after_map table 0 before) (length before) n)) (λ before. such_that (number bits32) (λ n. may_stand most (with_map seen 0 before) (length before) n))
    (λ before. alike_such_that (number bits32) _ _ (tests_same most (after_map table 0 before) (with_map seen 0 before) (stands_after_map most table seen stands 0 before) (length before))) [] logical

snapshot_alike : (most logical : ℕ) (table stable : List ℕ) → StandsFor most table (with_map [] 0 stable) → (before : List RootSnapshot) → Alike (snapshot_by_table table logical before) (snapshot logical most stable before)
unfolding snapshot_by_table rest_by_table snapshot
snapshot_alike most logical table stable stands before =
    let now = stands_after_maps most table (with_map [] 0 stable) stands (map map_of before) in
    alike_then (fresh before) (fresh before) _ _ (alike_same (fresh before)) (λ ident.
    alike_then (words ident) (words ident) _ _ (alike_same (words ident)) (λ h.
    alike_then (map_by_table (after_maps table (map map_of before)) logical) (block_map logical most (with_maps (with_map [] 0 stable) (map map_of before))) _ _ (map_alike most logical (after_maps table (map map_of before)) (with_maps (with_map [] 0 stable) (map map_of before)) now) (λ ns.
    alike_same (empty (snapshot_of h ns)))))

snapshots_alike : (most logical : ℕ) (table stable : List ℕ) → StandsFor most table (with_map [] 0 stable) → (n : ℕ) → Alike (snapshots_by_table table logical n) (in_turn (snapshot logical most stable) [] n)
unfolding snapshots_by_table
snapshots_alike most logical table stable stands n = alike_in_turn (snapshot_by_table table logical) (snapshot logical most stable) (snapshot_alike most logical table stable stands) [] n

pub record_alike : (total : ℕ) → Alike (record_by_table total) (root_record total)
unfolding record_by_table body_by_table images_by_table root_record body
record_alike total =
    alike_then (head MAGIC (total - 12)) (head MAGIC (total - 12)) _ _ (alike_same (head MAGIC (total - 12))) (λ front.
    alike_then sizes sizes _ _ (alike_same sizes) (λ s.
    let stands = stands_at_first s.physical in
    alike_then (map_by_table (replicate (s.physical + 1) 0) s.logical) (block_map s.logical s.physical []) _ _ (map_alike s.physical s.logical (replicate (s.physical + 1) 0) [] stands) (λ stable.
    let after = stands_after_map s.physical (replicate (s.physical + 1) 0) [] stands 0 stable in
    alike_then (count RECORD_SNAPSHOTS) (count RECORD_SNAPSHOTS) _ _ (alike_same (count RECORD_SNAPSHOTS)) (λ n.
    alike_then (snapshots_by_table (after_map (replicate (s.physical + 1) 0) 0 stable) s.logical n) (in_turn (snapshot s.logical s.physical stable) [] n) _ _ (snapshots_alike s.physical s.logical (after_map (replicate (s.physical + 1) 0) 0 stable) stable after n) (λ ss.
    alike_same (empty (root_made s stable ss)))))))
