-- Members of lists of maps, and the numbers that they use.
use Rattle.std.proofs.Common.{◌≡◌, ◌⊎◌, inl, inr, ℕ, zero, suc, ◌+◌, ◌<◌, ◌≤◌, List, [], ◌∷◌, ◌++◌, length, get_or, slice_get, Some, None, take, drop, map, Bool, true, false, not, ◌||◌, ◌==◌, refl, sym, subst, ◌∙◌, ap, arith}
use Rattle.std.proofs.lemmas.Bool.{cases_eq, cases_order, or_left, or_right}
use Rattle.std.proofs.lemmas.Bool.Decides.{nat_tests}
use Rattle.std.proofs.lemmas.List.{get_or-map, get_or_past, get_or_append_left, get_or-append-add, take-append-drop}
use Rattle.sm_bits.specs.Places.{has}
use Rattle.sm_defs.specs.Image.{stands}
use Rattle.sm_defs.specs.Words.{Among}
use Rattle.sm_root.specs.declared.root.RootSnapshot.{RootSnapshot}
use Rattle.sm_root.specs.Condition.{map_of}
use Rattle.sm_space.specs.Free.{free_of}
use Rattle.sm_space.proofs.FreeLemmas.{length-free_of}
use Rattle.volume_store.specs.Maps.{uses, AreUsed, AreFree}
use Rattle.volume_store.proofs.PutLemmas.{stands_at, uses_one}

pub among_get : {X : Type 0} (xs : List X) (i : ℕ) (d : X) → i < length xs → Among xs (get_or xs i d)
among_get [] i d less = absurd (omega arith)
among_get (x ∷ xs) zero d less = inl refl
among_get (x ∷ xs) (suc i) d less = inr (among_get xs i d (omega arith))

pub has-free_of : (used : List Bool) (n : ℕ) → 1 ≤ n → n < length used → has (free_of used) n ≡ not (has used n)
has-free_of [] n one less = absurd (omega arith)
has-free_of (hole ∷ numbers) zero one less = absurd (omega arith)
has-free_of (hole ∷ numbers) (suc n) one less = get_or-map (λ u. not u) numbers n false false (omega arith)

pub hole-free_of : (used : List Bool) → has (free_of used) 0 ≡ false
hole-free_of [] = refl
hole-free_of (hole ∷ numbers) = refl

-- the numbers that a set of used ones leaves free
pub free_are : (used : List Bool) (physical : ℕ) (maps : List (List ℕ)) → AreUsed used physical maps → AreFree (free_of used) physical maps
free_are used physical maps are = record {
  long = length-free_of used ∙ are.long;
  hole = hole-free_of used;
  each = λ n one within. has-free_of used n one (rw are.long (omega arith)) ∙ ap not (are.each n one within);
}

-- the numbers of one more map
pub used_more : (old new : List Bool) (physical : ℕ) (map : List ℕ) (maps : List (List ℕ)) → AreUsed old physical maps → length new ≡ length old
    → ((n : ℕ) → has new n ≡ (has old n || stands n map)) → AreUsed new physical (map ∷ maps)
used_more old new physical map maps are long each = record {
  long = long ∙ are.long;
  hole = each 0 ∙ ap (λ b. b || stands 0 map) are.hole;
  each = λ n some within. each n ∙ ap (λ b. b || stands n map) (are.each n some within) ∙ or_comm (uses maps n) (stands n map);
}
  where
    or_comm : (a b : Bool) → (a || b) ≡ (b || a)
    or_comm true true = refl
    or_comm true false = refl
    or_comm false true = refl
    or_comm false false = refl

-- the marks of as many maps that use the same numbers
pub used_same : (set : List Bool) (physical : ℕ) (maps maps' : List (List ℕ)) → AreUsed set physical maps → ((n : ℕ) → uses maps n ≡ uses maps' n) → AreUsed set physical maps'
used_same set physical maps maps' are same = record { long = are.long; hole = are.hole; each = λ n some within. are.each n some within ∙ same n }

-- the map of a snapshot behind others
pub uses_behind : (snapshots : List RootSnapshot) (s : RootSnapshot) (n : ℕ) → uses (s.map ∷ map map_of snapshots) n ≡ uses (map map_of (snapshots ++ s ∷ [])) n
uses_behind [] s n = refl
uses_behind (t ∷ ts) s n = swap (stands n s.map) (stands n t.map) (uses (map map_of ts) n) ∙ ap (λ b. stands n t.map || b) (uses_behind ts s n)
  where
    swap : (a b c : Bool) → (a || (b || c)) ≡ (b || (a || c))
    swap true true c = refl
    swap true false c = refl
    swap false true c = refl
    swap false false c = refl

-- the numbers of a map are among the marks
pub known_in : (set : List Bool) (physical : ℕ) (maps : List (List ℕ)) (x : List ℕ) → AreUsed set physical maps → Among maps x → ((i : ℕ) → get_or x i 0 ≤ physical)
    → (i : ℕ) → i < length x → has set (get_or x i 0) ≡ true
known_in set physical maps x are is within i less = elim (cases_eq (get_or x i 0) 0) [
  | inl hole ↦ ap (has set) hole ∙ are.hole
  | inr some ↦ are.each (get_or x i 0) (omega (arith, some)) (within i) ∙ uses_one maps x (get_or x i 0) is (stands_at x i (get_or x i 0) less refl)
]

-- the same of an empty one
pub known_beside : (set : List Bool) (physical : ℕ) (maps : List (List ℕ)) (x : List ℕ) → AreUsed set physical maps → (x ≡ []) ⊎ Among maps x
    → ((y : List ℕ) → Among maps y → (i : ℕ) → get_or y i 0 ≤ physical) → (i : ℕ) → i < length x → has set (get_or x i 0) ≡ true
known_beside set physical maps x are (inl none) within i less = absurd (let long : length x ≡ 0 = ap (λ (l : List ℕ). length l) none in omega (arith, long, less))
known_beside set physical maps x are (inr is) within i less = known_in set physical maps x are is (within x is) i less

-- what was there still is
pub still_there : (old new more : Bool) → new ≡ (old || more) → old ≡ true → new ≡ true
still_there old new more is there = is ∙ ap (λ b. b || more) there

pub among_map_take : (n : ℕ) (xs : List RootSnapshot) (y : List ℕ) → Among (map map_of (take n xs)) y → Among (map map_of xs) y
among_map_take zero xs y is = absurd is
among_map_take (suc n) [] y is = absurd is
among_map_take (suc n) (x ∷ xs) y is = elim is [ inl here ↦ inl here | inr there ↦ inr (among_map_take n xs y there) ]

-- one snapshot more
pub uses_next : (xs : List RootSnapshot) (k : ℕ) (d : RootSnapshot) (n : ℕ) → k < length xs → (uses (map map_of (take k xs)) n || stands n (get_or xs k d).map) ≡ uses (map map_of (take (k + 1) xs)) n
uses_next [] k d n less = absurd (omega arith)
uses_next (x ∷ xs) zero d n less = or_none (stands n x.map)
  where
    or_none : (a : Bool) → (false || a) ≡ (a || false)
    or_none true = refl
    or_none false = refl
uses_next (x ∷ xs) (suc k) d n less =
    let e : suc (k + 1) ≡ suc k + 1 = omega arith in
    or_assoc (stands n x.map) (uses (map map_of (take k xs)) n) (stands n (get_or xs k d).map) ∙ ap (λ b. stands n x.map || b) (uses_next xs k d n (omega arith))
    ∙ ap (λ (m : ℕ). uses (map map_of (take m (x ∷ xs))) n) e
  where
    or_assoc : (a b c : Bool) → ((a || b) || c) ≡ (a || (b || c))
    or_assoc true b c = refl
    or_assoc false b c = refl

-- what stands at a place
pub among_at_place : {X : Type 0} (xs : List X) (i : ℕ) (s : X) → Some s ≡ slice_get xs i → Among xs s
among_at_place [] i s is = absurd (let e : Some s ≡ None = is in cc)
among_at_place (x ∷ xs) zero s is = inl (let e : Some s ≡ Some x = is in cc)
among_at_place (x ∷ xs) (suc i) s is = inr (among_at_place xs i s is)

pub stands-append : (t : ℕ) (xs ys : List ℕ) → stands t (xs ++ ys) ≡ (stands t xs || stands t ys)
stands-append t [] ys = refl
stands-append t (x ∷ xs) ys = or_assoc (x == t) (stands t xs) (stands t ys) (stands t (xs ++ ys)) (stands-append t xs ys)
  where
    or_assoc : (a b c e : Bool) → e ≡ (b || c) → (a || e) ≡ ((a || b) || c)
    or_assoc true b c e h = refl
    or_assoc false b c e h = h

either_is : (a b : Bool) → (a || b) ≡ true → (a ≡ true) ⊎ (b ≡ true)
either_is true b h = inl refl
either_is false b h = inr h

-- what stands in a part of a map stands in the map
pub stands_part : (n at k : ℕ) (xs : List ℕ) → stands n (take k (drop at xs)) ≡ true → stands n xs ≡ true
stands_part n at k xs h =
    let behind : stands n (drop at xs) ≡ true = subst (λ (l : List ℕ). stands n l ≡ true) (take-append-drop k (drop at xs))
    (stands-append n (take k (drop at xs)) (drop k (drop at xs)) ∙ or_left (stands n (take k (drop at xs))) (stands n (drop k (drop at xs))) h) in
    subst (λ (l : List ℕ). stands n l ≡ true) (take-append-drop at xs) (stands-append n (take at xs) (drop at xs) ∙ or_right (stands n (take at xs)) (stands n (drop at xs)) behind)

-- what stands in a map stands at one of its places
pub index_known : (set : List Bool) (x : List ℕ) → ((i : ℕ) → i < length x → has set (get_or x i 0) ≡ true) → (n : ℕ) → stands n x ≡ true → has set n ≡ true
index_known set [] each n h = absurd (cc)
index_known set (m ∷ ms) each n h = elim (cases_eq m n) [
  | inl same ↦ ap (has set) (sym same) ∙ each 0 (omega arith)
  | inr other ↦ index_known set ms (λ i less. each (suc i) (omega arith)) n (elim (either_is (m == n) (stands n ms) h) [ inl is ↦ absurd (other (grind (arith, nat_tests))) | inr later ↦ later ])
]

-- where all is known the marks stay
pub known_adds : (a b : Bool) → (b ≡ true → a ≡ true) → a ≡ (a || b)
known_adds true b h = refl
known_adds false true h = h refl
known_adds false false h = refl

-- the marks of a part, and what is left
pub marks_then : (a b c e f g : Bool) → (a || b) ≡ e → b ≡ (c || f) → g ≡ (a || c) → (g || f) ≡ e
marks_then a b c e f g whole split new = ap (λ x. x || f) new ∙ or_three a c f ∙ ap (λ x. a || x) (sym split) ∙ whole
  where
    or_three : (a c f : Bool) → ((a || c) || f) ≡ (a || (c || f))
    or_three true c f = refl
    or_three false c f = refl

pub part_inside : (bound : ℕ) (xs ys rest : List ℕ) → rest ≡ xs ++ ys → ((i : ℕ) → get_or rest i 0 < bound) → (i : ℕ) → get_or xs i 0 < bound
part_inside bound xs ys rest is inside i = elim (cases_order i (length xs)) [
  | inl same ↦ subst (λ (n : ℕ). n < bound) (sym (get_or_past xs i 0 (omega (arith, same)))) (positive bound (inside i))
  | inr (inl less) ↦ subst (λ (n : ℕ). n < bound) (get_or_append_left xs ys 0 i less) (subst (λ (l : List ℕ). get_or l i 0 < bound) is (inside i))
  | inr (inr more) ↦ subst (λ (n : ℕ). n < bound) (sym (get_or_past xs i 0 (omega (arith, more)))) (positive bound (inside i))
]
  where
    positive : (b : ℕ) {n : ℕ} → n < b → 0 < b
    positive b h = omega (arith, h)

pub rest_inside : (bound : ℕ) (xs ys rest : List ℕ) → rest ≡ xs ++ ys → ((i : ℕ) → get_or rest i 0 < bound) → (i : ℕ) → get_or ys i 0 < bound
rest_inside bound xs ys rest is inside i =
    subst (λ (n : ℕ). n < bound) (get_or-append-add xs ys i 0) (subst (λ (l : List ℕ). get_or l (length xs + i) 0 < bound) is (inside (length xs + i)))
