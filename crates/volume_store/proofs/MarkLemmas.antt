-- The marks of the numbers that each part of a volume uses.
use Rattle.std.proofs.Common.{◌≡◌, ◌≢◌, inl, inr, ℕ, zero, suc, ◌+◌, ◌<◌, ◌≤◌, List, [], ◌∷◌, length, get_or, set, map, replicate, Bool, true, false, ◌||◌, refl, sym, subst, ◌∙◌, ap, ap₂, arith}
use Rattle.std.proofs.lemmas.Bool.{cases_eq}
use Rattle.std.proofs.lemmas.List.{length-set, length-replicate, get_or-set_same, get_or-set_other}
use Rattle.sm_bits.specs.Places.{has, union_of}
use Rattle.sm_defs.specs.Image.{stands}
use Rattle.sm_root.specs.declared.root.Root.{Root}
use Rattle.sm_root.specs.Condition.{map_of}
use Rattle.sm_root.specs.declared.root.RootSnapshot.{RootSnapshot}
use Rattle.volume_store.specs.declared.marks.Marks.{Marks}
use Rattle.volume_store.specs.Maps.{Maps, uses, held_maps, kept_maps, all_maps, AreUsed, AreMapsOf, AreMarks}
use Rattle.volume_store.specs.Next.{snapped, staying, IsWith}
use Rattle.volume_store.proofs.MapLemmas.{used_same, uses_behind}
use Rattle.volume_store.proofs.PutLemmas.{stands_new, stands_before, stands_other}

or_false : (a : Bool) → (a || false) ≡ a
or_false true = refl
or_false false = refl

or_comm : (a b : Bool) → (a || b) ≡ (b || a)
or_comm true true = refl
or_comm true false = refl
or_comm false true = refl
or_comm false false = refl

pub length_union : (xs ys : List Bool) → length ys ≡ length xs → length (union_of xs ys) ≡ length xs
length_union [] [] same = refl
length_union [] (y ∷ ys) same = absurd (omega (arith, same))
length_union (x ∷ xs) [] same = absurd (omega (arith, same))
length_union (x ∷ xs) (y ∷ ys) same = ap suc (length_union xs ys (omega (arith, same)))

pub has_union : (xs ys : List Bool) → length ys ≡ length xs → (n : ℕ) → has (union_of xs ys) n ≡ (has xs n || has ys n)
has_union [] [] same n = refl
has_union [] (y ∷ ys) same n = absurd (omega (arith, same))
has_union (x ∷ xs) [] same n = absurd (omega (arith, same))
has_union (x ∷ xs) (y ∷ ys) same zero = refl
has_union (x ∷ xs) (y ∷ ys) same (suc n) = has_union xs ys (omega (arith, same)) n

-- some maps and one more
pub used_both : (one other : List Bool) (physical : ℕ) (map : List ℕ) (maps : List (List ℕ)) → AreUsed one physical maps → AreUsed other physical (map ∷ []) → AreUsed (union_of one other) physical (map ∷ maps)
used_both one other physical map maps are more =
    let same : length other ≡ length one = more.long ∙ sym are.long in record {
      long = length_union one other same ∙ are.long;
      hole = has_union one other same 0 ∙ ap (λ b. b || has other 0) are.hole;
      each = λ n some within.
          has_union one other same n
          ∙ ap₂ (λ a b. a || b) (are.each n some within) (more.each n some within ∙ or_false (stands n map))
          ∙ or_comm (uses maps n) (stands n map);
    }

-- what a restart needs, and what is used
module _ (held settled live : List Bool) (root : Root) (active : List ℕ) (marks : AreMarks held settled live root active) where
  pub kept_marks : AreUsed (union_of held settled) root.physical (kept_maps root)
  kept_marks = used_both held settled root.physical root.stable (held_maps root) marks.of_snapshots marks.of_stable

  pub used_marks : AreUsed (union_of (union_of held settled) live) root.physical (all_maps root active)
  used_marks = used_both (union_of held settled) live root.physical active (kept_maps root) kept_marks marks.of_active

  pub as_many_kept : length settled ≡ length held
  as_many_kept = marks.of_stable.long ∙ sym marks.of_snapshots.long

  pub as_many_used : length live ≡ length (union_of held settled)
  as_many_used = marks.of_active.long ∙ sym kept_marks.long

-- a number is put at a place of the active map
module _ (logical physical : ℕ) (kept : List (List ℕ)) (active : List ℕ) (are : AreMapsOf logical physical (active ∷ kept))
    (at n : ℕ) (inside : at < length active) (some : 1 ≤ n) (small : n ≤ physical) (unused : uses (active ∷ kept) n ≡ false)
    (live new : List Bool) (marks : AreUsed live physical (active ∷ [])) (long : length new ≡ length live) (hole : has new 0 ≡ has live 0) (comes : has new n ≡ true)
    (goes : 1 ≤ get_or active at 0 → get_or active at 0 ≢ n → has new (get_or active at 0) ≡ false)
    (others : (m : ℕ) → m ≢ get_or active at 0 → m ≢ n → has new m ≡ has live m) where
  pub live_put : AreUsed new physical (set active at n ∷ [])
  live_put = record {
    long = long ∙ marks.long;
    hole = hole ∙ marks.hole;
    each = λ m one within. elim (cases_eq m n) [
      | inl here ↦
          ap (has new) here ∙ comes
          ∙ sym (or_false (stands m (set active at n)) ∙ ap (λ k. stands k (set active at n)) here ∙ stands_new logical physical kept active are at n inside some small unused)
      | inr other ↦ elim (cases_eq m (get_or active at 0)) [
        | inl before ↦
            ap (has new) before ∙ goes (subst (λ k. 1 ≤ k) before one) (λ e. other (before ∙ e))
            ∙ sym (or_false (stands m (set active at n)) ∙ stands_before logical physical kept active are at n inside some small unused m one before)
        | inr differs ↦
            others m differs other ∙ marks.each m one within
            ∙ ap (λ b. b || false) (sym (stands_other logical physical kept active are at n inside some small unused m other differs))
      ]
    ];
  }

-- no numbers
pub none_marked : (physical : ℕ) (new : List Bool) → new ≡ set (replicate (physical + 1) false) 0 true → AreUsed new physical []
none_marked physical new is = record {
  long = ap (λ (l : List Bool). length l) is ∙ length-set (replicate (physical + 1) false) 0 true ∙ length-replicate (physical + 1) false;
  hole = ap (λ (l : List Bool). has l 0) is ∙ get_or-set_same (replicate (physical + 1) false) 0 true false (rw length-replicate (omega arith));
  each = λ n some within.
      ap (λ (l : List Bool). has l n) is ∙ get_or-set_other (replicate (physical + 1) false) 0 n true false (λ e. absurd (omega (arith, e, some))) ∙ none (physical + 1) n;
}
  where
    none : (m k : ℕ) → has (replicate m false) k ≡ false
    none zero k = refl
    none (suc m) zero = refl
    none (suc m) (suc k) = none m k

-- equal marks of an equal root
pub marks_moved : (marks marks' : Marks) (root root' : Root) (active active' : List ℕ) → marks ≡ marks' → root ≡ root' → active ≡ active' → AreMarks marks'.held marks'.settled marks'.live root' active' → AreMarks marks.held marks.settled marks.live root active
marks_moved marks marks' root root' active active' same_marks same_root same_active are =
    subst (λ (x : Marks). AreMarks x.held x.settled x.live root active) (sym same_marks)
    (subst (λ (r : Root). AreMarks marks'.held marks'.settled marks'.live r active) (sym same_root) (subst (λ (a : List ℕ). AreMarks marks'.held marks'.settled marks'.live root' a) (sym same_active) are))

-- a snapshot of the active map
pub snapped_marks : (held settled live : List Bool) (m : Maps) → AreMarks held settled live m.root m.active → (s : RootSnapshot) → s.map ≡ m.active → AreMarks (union_of held live) live live (snapped m s).root m.active
snapped_marks held settled live m marks s of_active = record {
  of_snapshots = used_same (union_of held live) m.root.physical (s.map ∷ held_maps m.root) (held_maps (snapped m s).root)
      (subst (λ (x : List ℕ). AreUsed (union_of held live) m.root.physical (x ∷ held_maps m.root)) (sym of_active) (used_both held live m.root.physical m.active (held_maps m.root) marks.of_snapshots marks.of_active))
      (uses_behind m.root.snapshots s);
  of_stable = marks.of_active;
  of_active = marks.of_active;
}

-- where no snapshot goes
pub all_stay : (xs : List RootSnapshot) → staying [] xs ≡ xs
all_stay [] = refl
all_stay (x ∷ xs) = ap (λ (l : List RootSnapshot). x ∷ l) (all_stay xs)

-- another map, and a snapshot with it behind the others
pub with_one : (held live : List Bool) (old root : Root) → root.physical ≡ old.physical → AreUsed held old.physical (held_maps old) → AreUsed live root.physical (root.stable ∷ []) → IsWith old root
    → AreMarks (union_of held live) live live root root.stable
with_one held live old root same of_old of_map with_s = record {
  of_snapshots = used_same (union_of held live) root.physical (root.stable ∷ held_maps old) (held_maps root)
      (used_both held live root.physical root.stable (held_maps old) (subst (λ n. AreUsed held n (held_maps old)) (sym same) of_old) of_map)
      (λ n. ap (λ (x : List ℕ). uses (x ∷ held_maps old) n) (sym with_s.2) ∙ uses_behind old.snapshots with_s.0 n ∙ ap (λ (l : List RootSnapshot). uses (map map_of l) n) (sym with_s.1));
  of_stable = of_map;
  of_active = of_map;
}
