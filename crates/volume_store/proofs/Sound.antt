-- A root stays a root when its lists change.
use Rattle.std.proofs.Common.{◌≡◌, ◌⊎◌, inl, inr, ⊎_elim, ℕ, zero, suc, ◌*◌, ◌^◌, ◌<◌, ◌≤◌, List, [], ◌∷◌, ◌++◌, length, get_or, take, map, Bool, not, cond, eqb, refl, sym, ◌∙◌, ap, subst, arith}
use Rattle.std.proofs.lemmas.Bool.{cases_Bool, cases_lt, cases_eq}
use Rattle.std.proofs.lemmas.List.{length-append, length-take, get_or_past}
use Rattle.std.proofs.lemmas.List.Elements.{filter-append}
use Rattle.std.specs.List.{filter}
use Rattle.sm_base.specs.declared.numbers.Ident.{Ident}
use Rattle.sm_base.specs.declared.numbers.Kind.{Kind}
use Rattle.sm_base.specs.declared.limits.TheConstants.{MOST_SNAPSHOTS, LAST_NUMBER}
use Rattle.sm_defs.specs.Words.{Among, KeysDiffer, has_ident}
use Rattle.sm_defs.proofs.Members.{among_append, among_each as all_at, among_map, among_take, each_among as all_from, from_map as among_map_from}
use Rattle.sm_defs.proofs.Keys.{differ_filter, differ_push}
use Rattle.sm_root.specs.declared.root.Root.{Root}
use Rattle.sm_root.specs.declared.root.RootSnapshot.{RootSnapshot}
use Rattle.sm_defs.specs.Places.{StandsAt}
use Rattle.sm_root.specs.Condition.{IsRoot, IsSnapshot, ident_of, map_of, maps_of}
use Rattle.volume_store.specs.Maps.{Maps, AreMapsOf, all_maps}
use Rattle.sm_root.specs.declared.head.Head.{Head}
use Rattle.sm_root.specs.Condition.{snapshot_of, IsHead}
use Rattle.volume_store.specs.Next.{staying, without, snapped, adopted, reverted, next_after}

pub among_filter : {X : Type 0} (p : X → Bool) (xs : List X) (x : X) → Among (filter p xs) x → Among xs x
among_filter p [] x is = is
among_filter p (y ∷ ys) x is = elim (cases_Bool (p y)) [
  | inl stays ↦ ⊎_elim (λ here. inl here) (λ there. inr (among_filter p ys x there)) (let h : Among (y ∷ filter p ys) x = subst (λ b. Among (cond b (y ∷ filter p ys) (filter p ys)) x) stays is in h)
  | inr goes ↦ inr (among_filter p ys x (subst (λ b. Among (cond b (y ∷ filter p ys) (filter p ys)) x) goes is))
]

-- fewer maps
pub maps_among : (logical physical : ℕ) (old new : List (List ℕ)) → AreMapsOf logical physical old → ((x : List ℕ) → Among new x → Among old x) → AreMapsOf logical physical new
maps_among logical physical old new are from = record {
  long = λ x is. are.long x (from x is);
  within = λ x is i. are.within x (from x is) i;
  one_place = λ x y i j first second. are.one_place x y i j (from x first) (from y second);
}

-- a root of the same volume
module _ (r : Root) (good : IsRoot r) (r' : Root) (number : r'.number ≡ r.number) (logical : r'.logical ≡ r.logical) (physical : r'.physical ≡ r.physical)
    (family : r'.family < 2 ^ 64) (counted : (1 ≤ r'.next) × (r'.next ≤ LAST_NUMBER)) (few : length r'.snapshots ≤ MOST_SNAPSHOTS)
    (each : (s : RootSnapshot) → Among r'.snapshots s → IsSnapshot r.logical s) (differ : KeysDiffer ident_of r'.snapshots)
    (maps : AreMapsOf r.logical r.physical (maps_of r')) where
  pub remade : IsRoot r'
  remade = record {
    number = subst (λ n. n.0 < 2 ^ 32) (sym number) good.number;
    family = family;
    some_blocks = rw logical good.some_blocks;
    few_blocks = rw logical good.few_blocks;
    room = rw (logical, physical) good.room;
    few_places = rw physical good.few_places;
    counted = counted;
    long = maps.long r'.stable (inl refl) ∙ sym logical;
    few = few;
    snapshots = λ s is. rw logical (each s is);
    at_most = λ n p stood. rw (physical, ← stood.here) (maps.within stood.in_map stood.is_map p);
    one_place = λ n p q some a b. maps.one_place a.in_map b.in_map p q a.is_map b.is_map (a.here ∙ sym b.here) (let h = a.here in omega arith);
    idents_differ = differ;
  }

abbrev pub with_snapshots : Root → List RootSnapshot → Root
with_snapshots r snapshots = record r { snapshots = snapshots }

pub length_filter_le : {X : Type 0} (p : X → Bool) (xs : List X) → length (filter p xs) ≤ length xs
length_filter_le p [] = omega arith
length_filter_le p (x ∷ xs) = elim (cases_Bool (p x)) [
  | inl stays ↦ subst (λ b. length (cond b (x ∷ filter p xs) (filter p xs)) ≤ suc (length xs)) (sym stays) (let h = length_filter_le p xs in omega arith)
  | inr goes ↦ subst (λ b. length (cond b (x ∷ filter p xs) (filter p xs)) ≤ suc (length xs)) (sym goes) (let h = length_filter_le p xs in omega arith)
]

-- maps of snapshots that stay
pub among_staying : (p : RootSnapshot → Bool) (xs : List RootSnapshot) (x : List ℕ) → Among (map map_of (filter p xs)) x → Among (map map_of xs) x
among_staying p xs x is =
    let w = among_map_from map_of (filter p xs) x is in
    subst (Among (map map_of xs)) (sym w.2) (among_map map_of xs w.0 (among_filter p xs w.0 w.1))

module _ (m : Maps) (good : IsRoot m.root) (maps : AreMapsOf m.root.logical m.root.physical (all_maps m.root m.active)) where
  -- some snapshots go
  module _ (drops : List Ident) where
    stays : RootSnapshot → Bool
    stays s = not (has_ident drops s.ident)

    pub maps_without : AreMapsOf m.root.logical m.root.physical (all_maps (without m drops).root m.active)
    unfolding stays
    maps_without = maps_among m.root.logical m.root.physical (all_maps m.root m.active) (all_maps (without m drops).root m.active) maps
        (λ x is. ⊎_elim (λ a. inl a) (λ b. inr (⊎_elim (λ s. inl s) (λ k. inr (among_staying stays m.root.snapshots x k)) b)) is)

    pub good_without : IsRoot (without m drops).root
    unfolding stays
    good_without = remade m.root good (without m drops).root refl refl refl good.family good.counted
        (let h = length_filter_le stays m.root.snapshots in let f = good.few in omega arith)
        (λ s is. good.snapshots s (among_filter stays m.root.snapshots s is))
        (differ_filter ident_of stays m.root.snapshots good.idents_differ)
        (maps_among m.root.logical m.root.physical (all_maps (without m drops).root m.active) (maps_of (without m drops).root) maps_without (λ x is. inr is))

  -- a consistency point with a snapshot of the active map
  module _ (s : RootSnapshot) (of_active : s.map ≡ m.active) (is_one : IsSnapshot m.root.logical s) (new : (t : RootSnapshot) → Among m.root.snapshots t → ¬ (t.ident ≡ s.ident))
      (room : length m.root.snapshots < MOST_SNAPSHOTS) (counted : (1 ≤ next_after m.root s.ident) × (next_after m.root s.ident ≤ LAST_NUMBER)) where
    pub maps_snapped : AreMapsOf m.root.logical m.root.physical (all_maps (snapped m s).root m.active)
    maps_snapped = maps_among m.root.logical m.root.physical (all_maps m.root m.active) (all_maps (snapped m s).root m.active) maps
        (λ x is. ⊎_elim (λ a. inl a) (λ b. ⊎_elim (λ a. inl a) (λ k.
        let w = among_map_from map_of (m.root.snapshots ++ s ∷ []) x k in
        ⊎_elim
        (λ old. inr (inr (subst (Among (map map_of m.root.snapshots)) (sym w.2) (among_map map_of m.root.snapshots w.0 old))))
        (λ one. ⊎_elim (λ here. inl (w.2 ∙ ap map_of here ∙ of_active)) (λ none. absurd none) one)
        (among_append m.root.snapshots (s ∷ []) w.0 w.1)) b) is)

    pub good_snapped : IsRoot (snapped m s).root
    good_snapped = remade m.root good (snapped m s).root refl refl refl good.family counted
        (rw length-append (omega arith))
        (λ t is. ⊎_elim (λ old. good.snapshots t old) (λ one. ⊎_elim (λ here. subst (IsSnapshot m.root.logical) (sym here) is_one) (λ none. absurd none) one) (among_append m.root.snapshots (s ∷ []) t is))
        (differ_push ident_of m.root.snapshots s good.idents_differ new)
        (maps_among m.root.logical m.root.physical (all_maps (snapped m s).root m.active) (maps_of (snapped m s).root) maps_snapped (λ x is. inr is))

  -- another map with a snapshot of it
  module _ (s : RootSnapshot) (family : ℕ) (drops : List Ident) (is_one : IsSnapshot m.root.logical s) (new : (t : RootSnapshot) → Among m.root.snapshots t → ¬ (t.ident ≡ s.ident))
      (small : family < 2 ^ 64) (room : length (staying drops (m.root.snapshots ++ s ∷ [])) ≤ MOST_SNAPSHOTS)
      (with_map : AreMapsOf m.root.logical m.root.physical (s.map ∷ map map_of (staying drops m.root.snapshots))) where
    adopt_stays : RootSnapshot → Bool
    adopt_stays t = not (has_ident drops t.ident)

    among_both : (t : RootSnapshot) → Among (staying drops (m.root.snapshots ++ s ∷ [])) t → Among (staying drops m.root.snapshots) t ⊎ (t ≡ s)
    unfolding adopt_stays
    among_both t is = ⊎_elim (λ a. inl a) (λ b. inr (⊎_elim (λ here. here) (λ none. absurd none) (among_filter adopt_stays (s ∷ []) t b)))
        (among_append (staying drops m.root.snapshots) (staying drops (s ∷ [])) t (rw filter-append at is))

    pub maps_adopted : AreMapsOf m.root.logical m.root.physical (all_maps (adopted m s family drops).root s.map)
    maps_adopted = maps_among m.root.logical m.root.physical (s.map ∷ map map_of (staying drops m.root.snapshots)) (all_maps (adopted m s family drops).root s.map) with_map
        (λ x is. ⊎_elim (λ a. inl a) (λ b. ⊎_elim (λ a. inl a) (λ k.
        let w = among_map_from map_of (staying drops (m.root.snapshots ++ s ∷ [])) x k in
        ⊎_elim
        (λ old. inr (subst (Among (map map_of (staying drops m.root.snapshots))) (sym w.2) (among_map map_of (staying drops m.root.snapshots) w.0 old)))
        (λ here. inl (w.2 ∙ ap map_of here))
        (among_both w.0 w.1)) b) is)

    pub good_adopted : IsRoot (adopted m s family drops).root
    unfolding adopt_stays
    good_adopted = remade m.root good (adopted m s family drops).root refl refl refl small good.counted room
        (λ t is. ⊎_elim (λ old. good.snapshots t (among_filter adopt_stays m.root.snapshots t old)) (λ here. subst (IsSnapshot m.root.logical) (sym here) is_one) (among_both t is))
        (differ_filter ident_of adopt_stays (m.root.snapshots ++ s ∷ []) (differ_push ident_of m.root.snapshots s good.idents_differ new))
        (maps_among m.root.logical m.root.physical (all_maps (adopted m s family drops).root s.map) (maps_of (adopted m s family drops).root) maps_adopted (λ x is. inr is))

  -- the map of a snapshot, with some of the first snapshots
  module _ (s : RootSnapshot) (is : Among m.root.snapshots s) (family : ℕ) (small : family < 2 ^ 64) (list : List RootSnapshot)
      (from : (t : RootSnapshot) → Among list t → Among m.root.snapshots t) (few : length list ≤ length m.root.snapshots) (differ : KeysDiffer ident_of list) where
    pub maps_reverted : AreMapsOf m.root.logical m.root.physical (all_maps (reverted m s.map family list).root s.map)
    maps_reverted = maps_among m.root.logical m.root.physical (all_maps m.root m.active) (all_maps (reverted m s.map family list).root s.map) maps
        (λ x any. ⊎_elim (λ a. kept_one x a) (λ b. ⊎_elim (λ a. kept_one x a) (λ k.
        let w = among_map_from map_of list x k in
        inr (inr (subst (Among (map map_of m.root.snapshots)) (sym w.2) (among_map map_of m.root.snapshots w.0 (from w.0 w.1))))) b) any)
      where
        kept_one : (x : List ℕ) → x ≡ s.map → Among (all_maps m.root m.active) x
        kept_one x e = inr (inr (subst (Among (map map_of m.root.snapshots)) (sym e) (among_map map_of m.root.snapshots s is)))

    pub good_reverted : IsRoot (reverted m s.map family list).root
    good_reverted = remade m.root good (reverted m s.map family list).root refl refl refl small good.counted
        (let f = good.few in omega arith) (λ t among. good.snapshots t (from t among)) differ
        (maps_among m.root.logical m.root.physical (all_maps (reverted m s.map family list).root s.map) (maps_of (reverted m s.map family list).root) maps_reverted (λ x any. inr any))

pub moved_maps : (r r' : Root) (a a' : List ℕ) → r ≡ r' → a ≡ a' → AreMapsOf r'.logical r'.physical (all_maps r' a') → AreMapsOf r.logical r.physical (all_maps r a)
moved_maps r r' a a' same_root same_active are =
    subst (λ (x : Root). AreMapsOf x.logical x.physical (all_maps x a)) (sym same_root) (subst (λ (x : List ℕ). AreMapsOf r'.logical r'.physical (all_maps r' x)) (sym same_active) are)

-- a root with other values in these fields
abbrev pub remake : Root → Kind → ℕ → ℕ → List ℕ → List RootSnapshot → Root
remake r kind family next stable snapshots = record r { kind = kind; family = family; next = next; stable = stable; snapshots = snapshots }

pub remake_same : (r r' : Root) (k k' : Kind) (f f' n n' : ℕ) (s s' : List ℕ) (l l' : List RootSnapshot) → r ≡ r' → k ≡ k' → f ≡ f' → n ≡ n' → s ≡ s' → l ≡ l' → remake r k f n s l ≡ remake r' k' f' n' s' l'
remake_same r r' k k' f f' n n' s s' l l' a b c d e g =
    ap (λ (x : Root). remake x k f n s l) a ∙ ap (λ (x : Kind). remake r' x f n s l) b ∙ ap (λ (x : ℕ). remake r' k' x n s l) c
    ∙ ap (λ (x : ℕ). remake r' k' f' x s l) d ∙ ap (λ (x : List ℕ). remake r' k' f' n' x l) e ∙ ap (λ (x : List RootSnapshot). remake r' k' f' n' s' x) g

pub next_counted : (m : Maps) → IsRoot m.root → (i : Ident) → next_after m.root i ≤ LAST_NUMBER → (1 ≤ next_after m.root i) × (next_after m.root i ≤ LAST_NUMBER)
next_counted m good i le = (
  elim (cases_Bool (eqb i.seq (2 * m.root.next))) [
    | inl yes_is ↦ subst (λ b. 1 ≤ cond b (suc m.root.next) m.root.next) (sym yes_is) (omega arith)
    | inr no_is ↦ subst (λ b. 1 ≤ cond b (suc m.root.next) m.root.next) (sym no_is) good.counted.0
  ],
  le,
)

pub head_fits : (h : Head) → IsHead h → (map : List ℕ) (logical : ℕ) → length map ≡ logical → IsSnapshot logical (snapshot_of h map)
head_fits h is map logical long = record { ident = is.ident; name = is.name; label = is.label; time = is.time; made = is.made; long = long }

pub differ_take : {X K : Type 0} (key : X → K) (n : ℕ) (xs : List X) → KeysDiffer key xs → KeysDiffer key (take n xs)
differ_take key zero xs differ = tt
differ_take key (suc n) [] differ = tt
differ_take key (suc n) (x ∷ xs) differ =
    (all_from (λ y. ¬ (key y ≡ key x)) (take n xs) (λ y is. all_at (λ z. ¬ (key z ≡ key x)) xs y differ.0 (among_take n xs y is)), differ_take key n xs differ.1)

pub length_take_le : {X : Type 0} (n : ℕ) (xs : List X) → length (take n xs) ≤ length xs
length_take_le n xs = omega (arith, length-take n xs)

-- the maps of a root
module _ (r : Root) (good : IsRoot r) where
  stood_at : (x : List ℕ) → Among (maps_of r) x → (i n : ℕ) → 0 < n → get_or x i 0 ≡ n → StandsAt (maps_of r) n i
  stood_at x is i n some e = record {
    in_map = x;
    is_map = is;
    in_range = elim (cases_lt i (length x)) [
      | inl less ↦ less
      | inr past ↦ let z : get_or x i 0 ≡ 0 = get_or_past x i 0 past in absurd (omega arith)
    ];
    here = e;
  }

  pub maps_of_root : AreMapsOf r.logical r.physical (maps_of r)
  maps_of_root = record {
    long = λ x is. ⊎_elim (λ e. ap length e ∙ good.long) (λ k. let w = among_map_from map_of r.snapshots x k in ap length w.2 ∙ (good.snapshots w.0 w.1).long) is;
    within = λ x is i. elim (cases_eq (get_or x i 0) 0) [
      | inl hole ↦ omega (arith, hole)
      | inr full ↦ good.at_most (get_or x i 0) i (stood_at x is i (get_or x i 0) (omega arith) refl)
    ];
    one_place = λ x y i j first second same full.
        good.one_place (get_or x i 0) i j (λ z. let h : get_or x i 0 ≡ 0 = z in absurd (omega arith)) (stood_at x first i (get_or x i 0) full refl) (stood_at y second j (get_or x i 0) full (sym same));
  }

  pub maps_found : AreMapsOf r.logical r.physical (all_maps r r.stable)
  maps_found = maps_among r.logical r.physical (maps_of r) (all_maps r r.stable) maps_of_root (λ x is. ⊎_elim (λ e. inl e) (λ k. k) is)
