-- A free number is put at a place of the active map.
use Rattle.std.proofs.Common.{◌≡◌, ◌≢◌, ◌⊎◌, inl, inr, ℕ, zero, suc, ◌<◌, ◌≤◌, List, [], ◌∷◌, length, get_or, set, Bool, true, false, not, ◌||◌, eqb, Option, Some, None, refl, sym, ◌∙◌, ap, ap₂, subst, arith}
use Rattle.std.proofs.lemmas.Bool.{cases_eq, cases_lt, cases_order, false≢true, false_from_ne_true}
use Rattle.std.proofs.lemmas.Bool.Decides.{eqb_tells}
use Rattle.std.proofs.lemmas.List.{get_or-set_same, get_or-set_other, get_or_past, length-set}
use Rattle.sm_bits.specs.Places.{has, IsNextFrom, IsLeastFrom}
use Rattle.sm_defs.specs.Image.{stands}
use Rattle.sm_defs.specs.Words.{Among}
use Rattle.volume_store.specs.Maps.{Maps, uses, all_maps, AreFree, AreMapsOf, OnePlace, IsLeastFree}

pub same_bool : (a b : Bool) → (a ≡ true → b ≡ true) → (b ≡ true → a ≡ true) → a ≡ b
same_bool true b there back = sym (there refl)
same_bool false true there back = back refl
same_bool false false there back = refl

-- a number stands in a list where an element is it
pub stands_at : (x : List ℕ) (i n : ℕ) → i < length x → get_or x i 0 ≡ n → stands n x ≡ true
stands_at [] i n less is = absurd (omega arith)
stands_at (u ∷ us) zero n less is = elim (eqb_tells u n) [
  | inl same ↦ ap (λ b. b || stands n us) same.0
  | inr differs ↦ absurd (differs.1 is)
]
stands_at (u ∷ us) (suc i) n less is =
    let rest : stands n us ≡ true = stands_at us i n (omega arith) is in
    ap (λ b. eqb u n || b) rest ∙ or_true (eqb u n)
  where
    or_true : (a : Bool) → (a || true) ≡ true
    or_true true = refl
    or_true false = refl

pub where_it_stands : (x : List ℕ) (n : ℕ) → stands n x ≡ true → (i : ℕ) × (i < length x) × (get_or x i 0 ≡ n)
where_it_stands [] n is = absurd (false≢true is)
where_it_stands (u ∷ us) n is = elim (eqb_tells u n) [
  | inl same ↦ (0, omega arith, same.1)
  | inr differs ↦
      let rest : stands n us ≡ true = ap (λ b. b || stands n us) (sym differs.0) ∙ is in
      let there = where_it_stands us n rest in (suc there.0, (let l = there.1 in omega arith), there.2)
]

pub uses_one : (maps : List (List ℕ)) (x : List ℕ) (n : ℕ) → Among maps x → stands n x ≡ true → uses maps n ≡ true
uses_one [] x n is stood = absurd is
uses_one (y ∷ ys) x n is stood = elim is [
  | inl here ↦ ap (λ b. b || uses ys n) (ap (stands n) (sym here) ∙ stood)
  | inr there ↦ ap (λ b. stands n y || b) (uses_one ys x n there stood) ∙ or_true (stands n y)
]
  where
    or_true : (a : Bool) → (a || true) ≡ true
    or_true true = refl
    or_true false = refl

-- a number that no map uses stands in none
pub unused_at : (maps : List (List ℕ)) (x : List ℕ) (i n : ℕ) → uses maps n ≡ false → 0 < n → Among maps x → get_or x i 0 ≢ n
unused_at maps x i n unused some is e = elim (cases_lt i (length x)) [
  | inl less ↦ absurd (false≢true (sym unused ∙ uses_one maps x n is (stands_at x i n less e)))
  | inr past ↦ let z : get_or x i 0 ≡ 0 = get_or_past x i 0 past in absurd (omega arith)
]

module _ (logical physical : ℕ) (kept : List (List ℕ)) (active : List ℕ) (are : AreMapsOf logical physical (active ∷ kept))
    (at n : ℕ) (inside : at < length active) (some : 1 ≤ n) (small : n ≤ physical) (unused : uses (active ∷ kept) n ≡ false) where
  put_get : (i : ℕ) → ((i ≡ at) × (get_or (set active at n) i 0 ≡ n)) ⊎ ((i ≢ at) × (get_or (set active at n) i 0 ≡ get_or active i 0))
  put_get i = elim (cases_eq i at) [
    | inl here ↦ inl (here, ap (λ k. get_or (set active at n) k 0) here ∙ get_or-set_same active at n 0 inside)
    | inr other ↦ inr (other, get_or-set_other active at i n 0 other)
  ]

  not_active : (i : ℕ) → get_or active i 0 ≢ n
  not_active i = unused_at (active ∷ kept) active i n unused some (inl refl)

  not_kept : (y : List ℕ) → Among kept y → (i : ℕ) → get_or y i 0 ≢ n
  not_kept y is i = unused_at (active ∷ kept) y i n unused some (inr is)

  both_new : (i j : ℕ) → get_or (set active at n) i 0 ≡ get_or (set active at n) j 0 → 0 < get_or (set active at n) i 0 → i ≡ j
  both_new i j same full = elim (put_get i) [
    | inl here ↦ elim (put_get j) [
      | inl too ↦ here.0 ∙ sym too.0
      | inr other ↦ absurd (not_active j (sym other.1 ∙ sym same ∙ here.1))
    ]
    | inr here ↦ elim (put_get j) [
      | inl too ↦ absurd (not_active i (sym here.1 ∙ same ∙ too.1))
      | inr other ↦ are.one_place active active i j (inl refl) (inl refl) (sym here.1 ∙ same ∙ other.1) (subst (λ (k : ℕ). 0 < k) here.1 full)
    ]
  ]

  new_and_kept : (y : List ℕ) (i j : ℕ) → Among kept y → get_or (set active at n) i 0 ≡ get_or y j 0 → 0 < get_or (set active at n) i 0 → i ≡ j
  new_and_kept y i j is same full = elim (put_get i) [
    | inl here ↦ absurd (not_kept y is j (sym same ∙ here.1))
    | inr here ↦ are.one_place active y i j (inl refl) (inr is) (sym here.1 ∙ same) (subst (λ (k : ℕ). 0 < k) here.1 full)
  ]

  pub put_one_place : OnePlace (set active at n ∷ kept)
  put_one_place x y i j first second same full = elim first [
    | inl a ↦ elim second [
      | inl b ↦ both_new i j (ap (λ m. get_or m i 0) (sym a) ∙ same ∙ ap (λ m. get_or m j 0) b) (subst (λ (m : List ℕ). 0 < get_or m i 0) a full)
      | inr b ↦ new_and_kept y i j b (ap (λ m. get_or m i 0) (sym a) ∙ same) (subst (λ (m : List ℕ). 0 < get_or m i 0) a full)
    ]
    | inr a ↦ elim second [
      | inl b ↦
          let back : get_or (set active at n) j 0 ≡ get_or x i 0 = sym (same ∙ ap (λ m. get_or m j 0) b) in
          sym (new_and_kept x j i a back (subst (λ (k : ℕ). 0 < k) (sym back) full))
      | inr b ↦ are.one_place x y i j (inr a) (inr b) same full
    ]
  ]

  pub put_maps : AreMapsOf logical physical (set active at n ∷ kept)
  put_maps = record {
    long = λ x is. elim is [
      | inl e ↦ ap length e ∙ length-set active at n ∙ are.long active (inl refl)
      | inr k ↦ are.long x (inr k)
    ];
    within = λ x is i. elim is [
      | inl e ↦ elim (put_get i) [
        | inl here ↦ let h : get_or x i 0 ≡ n = ap (λ m. get_or m i 0) e ∙ here.1 in omega arith
        | inr other ↦ let h : get_or x i 0 ≡ get_or active i 0 = ap (λ m. get_or m i 0) e ∙ other.1 in let w = are.within active (inl refl) i in omega arith
      ]
      | inr k ↦ are.within x (inr k) i
    ];
    one_place = put_one_place;
  }

  -- which numbers the new active map has
  pub stands_new : stands n (set active at n) ≡ true
  stands_new = stands_at (set active at n) at n (rw length-set inside) (get_or-set_same active at n 0 inside)

  pub stands_before : (m : ℕ) → 0 < m → m ≡ get_or active at 0 → stands m (set active at n) ≡ false
  stands_before m full is = false_from_ne_true (stands m (set active at n)) (λ stood.
      let there = where_it_stands (set active at n) m stood in
      elim (put_get there.0) [
        | inl here ↦ not_active at (sym is ∙ sym there.2 ∙ here.1)
        | inr other ↦
            let same : get_or active there.0 0 ≡ get_or active at 0 = sym other.1 ∙ there.2 ∙ is in
            other.0 (are.one_place active active there.0 at (inl refl) (inl refl) same (subst (λ (k : ℕ). 0 < k) (sym (same ∙ sym is)) full))
      ])

  pub stands_other : (m : ℕ) → m ≢ n → m ≢ get_or active at 0 → stands m (set active at n) ≡ stands m active
  stands_other m new old = same_bool (stands m (set active at n)) (stands m active)
      (λ stood. let there = where_it_stands (set active at n) m stood in elim (put_get there.0) [
        | inl here ↦ absurd (new (sym there.2 ∙ here.1))
        | inr other ↦ stands_at active there.0 m (let l : there.0 < length (set active at n) = there.1 in rw length-set at l) (sym other.1 ∙ there.2)
      ])
      (λ stood. let there = where_it_stands active m stood in elim (put_get there.0) [
        | inl here ↦ absurd (old (sym there.2 ∙ ap (λ k. get_or active k 0) here.0))
        | inr other ↦ stands_at (set active at n) there.0 m (rw length-set there.1) (other.1 ∙ there.2)
      ])

-- what the space is afterwards: a is the space with n taken
module _ (logical physical : ℕ) (kept : List (List ℕ)) (active : List ℕ) (are : AreMapsOf logical physical (active ∷ kept))
    (at n : ℕ) (inside : at < length active) (some : 1 ≤ n) (small : n ≤ physical) (unused : uses (active ∷ kept) n ≡ false)
    (space : List Bool) (free : AreFree space physical (active ∷ kept)) where
  uses_n : uses (set active at n ∷ kept) n ≡ true
  uses_n = ap (λ b. b || uses kept n) (stands_new logical physical kept active are at n inside some small unused)

  -- the number before stays used, or it was a hole
  pub free_still : (get_or active at 0 ≡ 0) ⊎ (uses kept (get_or active at 0) ≡ true) → AreFree (set space n false) physical (set active at n ∷ kept)
  free_still stays = record {
    long = length-set space n false ∙ free.long;
    hole = get_or-set_other space n 0 false false (λ e. let h : 0 ≡ n = e in absurd (omega arith)) ∙ free.hole;
    each = λ m one within. elim (cases_eq m n) [
      | inl new ↦
          let here : n < length space = rw free.long (omega arith) in
          ap (has (set space n false)) new ∙ get_or-set_same space n false false here ∙ sym (ap not (ap (uses (set active at n ∷ kept)) new ∙ uses_n))
      | inr other ↦
          get_or-set_other space n m false false other ∙ free.each m one within ∙ ap not (elim (cases_eq m (get_or active at 0)) [
            | inr differs ↦ ap (λ b. b || uses kept m) (sym (stands_other logical physical kept active are at n inside some small unused m other differs))
            | inl before ↦ elim stays [
              | inl hole ↦ absurd (omega (arith, before, hole))
              | inr used ↦
                  let u : uses kept m ≡ true = ap (uses kept) before ∙ used in
                  ap (λ b. stands m active || b) u ∙ or_same (stands m active) (stands m (set active at n)) ∙ sym (ap (λ b. stands m (set active at n) || b) u)
            ]
          ])
    ];
  }
    where
      or_same : (a b : Bool) → (a || true) ≡ (b || true)
      or_same true true = refl
      or_same true false = refl
      or_same false true = refl
      or_same false false = refl

  -- the number before is given back
  pub free_given : 0 < get_or active at 0 → uses kept (get_or active at 0) ≡ false → AreFree (set (set space n false) (get_or active at 0) true) physical (set active at n ∷ kept)
  free_given full gone =
      let before = get_or active at 0 in
      let small_before : before ≤ physical = are.within active (inl refl) at in
      let differs_n : before ≢ n = unused_at (active ∷ kept) active at n unused some (inl refl) in
      record {
        long = length-set (set space n false) before true ∙ length-set space n false ∙ free.long;
        hole = get_or-set_other (set space n false) before 0 true false (λ e. let h : 0 ≡ before = e in absurd (omega arith)) ∙ get_or-set_other space n 0 false false (λ e. let h : 0 ≡ n = e in absurd (omega arith)) ∙ free.hole;
        each = λ m one within. elim (cases_eq m before) [
          | inl here ↦
              let fits : before < length (set space n false) = rw (length-set, free.long) (omega arith) in
              let none : stands m (set active at n) ≡ false = stands_before logical physical kept active are at n inside some small unused m one here in
              let no_kept : uses kept m ≡ false = ap (uses kept) here ∙ gone in
              ap (has (set (set space n false) before true)) here ∙ get_or-set_same (set space n false) before true false fits
              ∙ sym (ap not (ap₂ (λ a b. a || b) none no_kept))
          | inr other ↦ get_or-set_other (set space n false) before m true false other ∙ (elim (cases_eq m n) [
            | inl new ↦
                let fits : n < length space = rw free.long (omega arith) in
                ap (has (set space n false)) new ∙ get_or-set_same space n false false fits ∙ sym (ap not (ap (uses (set active at n ∷ kept)) new ∙ uses_n))
            | inr differs ↦
                get_or-set_other space n m false false differs ∙ free.each m one within
                ∙ ap not (ap (λ b. b || uses kept m) (sym (stands_other logical physical kept active are at n inside some small unused m differs other)))
          ])
        ];
      }

-- the least free number is the one that is taken
pub taken_least : (maps : Maps) (space after : List Bool) (n : ℕ) (found : Option ℕ) → AreFree space maps.root.physical (all_maps maps.root maps.active) → IsLeastFree maps n
    → IsNextFrom space 0 found → found ≡ Some n
taken_least maps space after n None free least none =
    let here : has space n ≡ true = free.each n least.from_one least.within ∙ ap not least.unused in
    absurd (false≢true (sym (none n (omega arith)) ∙ here))
taken_least maps space after n (Some m) free least next =
    let here : has space n ≡ true = free.each n least.from_one least.within ∙ ap not least.unused in
    ap Some (elim (cases_order m n) [
      | inl same ↦ same
      | inr (inl below) ↦ absurd (below_it m next below)
      | inr (inr above) ↦ absurd (false≢true (sym (next.least n (omega arith) above) ∙ here))
    ])
  where
    below_it : (k : ℕ) → IsLeastFrom space 0 k → k < n → ⊥
    below_it k is below = elim (cases_eq k 0) [
      | inl zero_k ↦ false≢true (sym free.hole ∙ ap (has space) (sym zero_k) ∙ is.is_in)
      | inr some ↦
          let one : 1 ≤ k = omega arith in
          let used : has space k ≡ false = free.each k one (let w = least.within in omega arith) ∙ ap not (least.least k one below) in
          false≢true (sym used ∙ is.is_in)
    ]
