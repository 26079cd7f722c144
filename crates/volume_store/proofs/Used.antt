-- How many numbers the maps use.
use Rattle.std.proofs.Common.{◌≡◌, ◌≢◌, inl, inr, ⊎_elim, ℕ, zero, suc, ◌+◌, ◌-◌, ◌<◌, ◌≤◌, List, [], ◌∷◌, length, get_or, Bool, true, false, not, ◌||◌, cond, eqb, Option, None, Some, IfNone, OnSome, IfSome, refl, sym, ◌∙◌, ap, arith}
use Rattle.std.proofs.lemmas.Bool.{cases_eq, cases_lt, cases_Bool, false≢true}
use Rattle.std.proofs.lemmas.Bool.Decides.{nat_tests, eqb_tells}
use Rattle.std.proofs.lemmas.List.Folds.{list_any-append}
use Rattle.std.proofs.lemmas.List.Sums.{get_or-le-sum_by}
use Rattle.std.proofs.lemmas.List.FromFn.{fill_by_all}
use Rattle.std.specs.List.{flat_map}
use Rattle.sm_bits.specs.Places.{has, size, IsNextFrom}
use Rattle.sm_bits.proofs.OnesBelow.{passing, passing-same, passing-add, passing_map}
use Rattle.sm_defs.specs.Image.{stands, distinct}
use Rattle.sm_defs.specs.Words.{Among}
use Rattle.volume_store.specs.Maps.{Maps, uses, all_maps, AreMapsOf, AreFree, IsLeastFree}
use Rattle.std.proofs.lemmas.List.{get_or_past}
use Rattle.sm_defs.proofs.Members.{among_append}
use Rattle.volume_store.proofs.PutLemmas.{where_it_stands}

passing_none : (p : ℕ → Bool) (n : ℕ) → ((i : ℕ) → p i ≡ false) → passing p n ≡ 0
unfolding passing
passing_none p zero none = refl
passing_none p (suc n) none = ap (λ b. passing p n + cond b 1 0) (none n) ∙ (let h = passing_none p n none in omega (arith, h))

passing_more : (p q : ℕ → Bool) (n j : ℕ) → j < n → p j ≡ false → q j ≡ true → ((i : ℕ) → i ≢ j → q i ≡ p i) → passing q n ≡ suc (passing p n)
unfolding passing
passing_more p q zero j less out in_ same = absurd (omega arith)
passing_more p q (suc n) j less out in_ same = elim (cases_eq j n) [
  | inl here ↦
      let before : passing q n ≡ passing p n = passing-same q p n (λ i lt. same i (omega arith)) in
      let qn : q n ≡ true = ap q (sym here) ∙ in_ in
      let pn : p n ≡ false = ap p (sym here) ∙ out in
      let zero_p : passing p n + cond (p n) 1 0 ≡ passing p n = ap (λ b. passing p n + cond b 1 0) pn ∙ omega arith in
      ap (λ b. passing q n + cond b 1 0) qn ∙ omega (arith, before, zero_p)
  | inr there ↦
      let rest = passing_more p q n j (omega arith) out in_ same in
      ap (λ b. passing q n + cond b 1 0) (same n (λ e. there (sym e))) ∙ omega (arith, rest)
]

both_sides : (p : ℕ → Bool) (n : ℕ) → passing (λ i. not (p i)) n + passing p n ≡ n
unfolding passing
both_sides p zero = refl
both_sides p (suc n) =
    let rest = both_sides p n in
    elim (cases_Bool (p n)) [
      | inl yes_is ↦
          let a : passing (λ i. not (p i)) n + cond (not (p n)) 1 0 ≡ passing (λ i. not (p i)) n = ap (λ b. passing (λ i. not (p i)) n + cond (not b) 1 0) yes_is ∙ omega arith in
          let b : passing p n + cond (p n) 1 0 ≡ passing p n + 1 = ap (λ c. passing p n + cond c 1 0) yes_is in
          omega (arith, rest, a, b)
      | inr no_is ↦
          let a : passing (λ i. not (p i)) n + cond (not (p n)) 1 0 ≡ passing (λ i. not (p i)) n + 1 = ap (λ b. passing (λ i. not (p i)) n + cond (not b) 1 0) no_is in
          let b : passing p n + cond (p n) 1 0 ≡ passing p n = ap (λ c. passing p n + cond c 1 0) no_is ∙ omega arith in
          omega (arith, rest, a, b)
    ]

-- different numbers, counted one by one
pub distinct_is : (ts : List ℕ) (most : ℕ) → ((t : ℕ) → Among ts t → t ≤ most) → distinct ts ≡ passing (λ k. stands (suc k) ts) most
distinct_is [] most within = sym (passing_none (λ k. stands (suc k) []) most (λ i. refl))
distinct_is (t ∷ ts) most within =
    let rest : distinct ts ≡ passing (λ k. stands (suc k) ts) most = distinct_is ts most (λ u is. within u (inr is)) in
    elim (cases_eq t 0) [
      | inl hole ↦
          let test : eqb t 0 ≡ true = grind (arith, nat_tests) in
          ap (λ b. cond (b || stands t ts) (distinct ts) (1 + distinct ts)) test ∙ rest
          ∙ passing-same (λ k. stands (suc k) ts) (λ k. stands (suc k) (t ∷ ts)) most (λ i less. sym (ap (λ b. b || stands (suc i) ts) (let h : eqb t (suc i) ≡ false = grind (arith, nat_tests) in h)))
      | inr full ↦
          let test : eqb t 0 ≡ false = grind (arith, nat_tests) in
          elim (cases_Bool (stands t ts)) [
            | inl stood ↦
                ap (λ b. cond (b || stands t ts) (distinct ts) (1 + distinct ts)) test ∙ ap (λ b. cond b (distinct ts) (1 + distinct ts)) stood ∙ rest
                ∙ passing-same (λ k. stands (suc k) ts) (λ k. stands (suc k) (t ∷ ts)) most (λ i less. known i stood)
            | inr new ↦
                let j : suc (t - 1) ≡ t = omega arith in
                ap (λ b. cond (b || stands t ts) (distinct ts) (1 + distinct ts)) test ∙ ap (λ b. cond b (distinct ts) (1 + distinct ts)) new
                ∙ (let e : 1 + distinct ts ≡ suc (passing (λ k. stands (suc k) ts) most) = omega (arith, rest) in e)
                ∙ sym (passing_more (λ k. stands (suc k) ts) (λ k. stands (suc k) (t ∷ ts)) most (t - 1) (let w = within t (inl refl) in omega arith)
                (ap (λ n. stands n ts) j ∙ new)
                (ap (λ n. eqb t n || stands n ts) j ∙ ap (λ b. b || stands t ts) (let h : eqb t t ≡ true = grind (arith, nat_tests) in h))
                (λ i other. ap (λ b. b || stands (suc i) ts) (let h : eqb t (suc i) ≡ false = grind (arith, nat_tests) in h)))
          ]
    ]
  where
    known : (i : ℕ) → stands t ts ≡ true → stands (suc i) ts ≡ (eqb t (suc i) || stands (suc i) ts)
    known i stood = elim (eqb_tells t (suc i)) [
      | inl same ↦ ap (λ n. stands n ts) (sym same.1) ∙ stood ∙ sym (ap (λ b. b || stands (suc i) ts) same.0)
      | inr differs ↦ sym (ap (λ b. b || stands (suc i) ts) differs.0)
    ]

pub uses_flat : (maps : List (List ℕ)) (n : ℕ) → uses maps n ≡ stands n (flat_map (λ (x : List ℕ). x) maps)
uses_flat [] n = refl
uses_flat (m ∷ ms) n = ap (λ b. stands n m || b) (uses_flat ms n) ∙ sym (list_any-append (λ u. eqb u n) m (flat_map (λ (x : List ℕ). x) ms))

among_flat : (maps : List (List ℕ)) (t : ℕ) → Among (flat_map (λ (x : List ℕ). x) maps) t → (x : List ℕ) × Among maps x × Among x t
among_flat [] t is = absurd is
among_flat (m ∷ ms) t is = ⊎_elim (λ here. (m, inl refl, here)) (λ there. let w = among_flat ms t there in (w.0, inr w.1, w.2)) (among_append m (flat_map (λ (x : List ℕ). x) ms) t is)

among_at : (x : List ℕ) (t : ℕ) → Among x t → (i : ℕ) × (get_or x i 0 ≡ t)
among_at [] t is = absurd is
among_at (u ∷ us) t is = ⊎_elim (λ here. (0, sym here)) (λ there. let w = among_at us t there in (suc w.0, w.1)) is

first_none : (space : List Bool) → has space 0 ≡ false → passing (has space) 1 ≡ 0
unfolding passing
first_none space none = ap (λ b. 0 + cond b 1 0) none

-- the numbers that are used and those that are free are all
pub used_and_free : (logical physical : ℕ) (maps : List (List ℕ)) (space : List Bool) → AreMapsOf logical physical maps → AreFree space physical maps
    → size space + distinct (flat_map (λ (x : List ℕ). x) maps) ≡ physical
used_and_free logical physical maps space are free =
    let flat = flat_map (λ (x : List ℕ). x) maps in
    let used : distinct flat ≡ passing (λ k. uses maps (suc k)) physical =
    distinct_is flat physical (λ t is. let w = among_flat maps t is in let at = among_at w.0 t w.2 in let h = are.within w.0 w.1 at.0 in let e = at.1 in omega arith)
    ∙ passing-same (λ k. stands (suc k) flat) (λ k. uses maps (suc k)) physical (λ i less. sym (uses_flat maps (suc i))) in
    let whole : size space ≡ passing (has space) (1 + physical) =
    ap size (fill_by_all (has space) space (1 + physical) false (free.long ∙ omega arith) (λ k less. refl)) ∙ passing_map (has space) (1 + physical) in
    let first : passing (has space) 1 ≡ 0 = first_none space free.hole in
    let rest : passing (λ k. has space (1 + k)) physical ≡ passing (λ k. not (uses maps (suc k))) physical =
    passing-same (λ k. has space (1 + k)) (λ k. not (uses maps (suc k))) physical
    (λ i less. let e : 1 + i ≡ suc i = omega arith in ap (has space) e ∙ free.each (suc i) (omega arith) (omega arith)) in
    let split = passing-add (has space) 1 physical in
    let both = both_sides (λ k. uses maps (suc k)) physical in
    omega (arith, used, whole, first, rest, split, both)

-- no number is free exactly where all are used
pub none_left : (logical physical : ℕ) (maps : List (List ℕ)) (space : List Bool) → AreMapsOf logical physical maps → AreFree space physical maps
    → ((n : ℕ) → has space n ≡ false) → distinct (flat_map (λ (x : List ℕ). x) maps) ≡ physical
none_left logical physical maps space are free none =
    let whole : size space ≡ passing (has space) (1 + physical) =
    ap size (fill_by_all (has space) space (1 + physical) false (free.long ∙ omega arith) (λ k less. refl)) ∙ passing_map (has space) (1 + physical) in
    let nothing = passing_none (has space) (1 + physical) none in
    omega (arith, whole, nothing, used_and_free logical physical maps space are free)

pub some_left : (logical physical : ℕ) (maps : List (List ℕ)) (space : List Bool) (n : ℕ) → AreMapsOf logical physical maps → AreFree space physical maps
    → n < length space → has space n ≡ true → distinct (flat_map (λ (x : List ℕ). x) maps) ≢ physical
some_left logical physical maps space n are free less one e =
    let counts : Bool → ℕ = λ mark. cond mark 1 0 in
    let here : counts (has space n) ≤ size space = get_or-le-sum_by (λ (mark : Bool). cond mark 1 0) space n false less in
    let is : counts (has space n) ≡ 1 = ap counts one in
    omega (arith, here, is, e, used_and_free logical physical maps space are free)

-- a number that is used stands in a map
pub uses_where : (maps : List (List ℕ)) (n : ℕ) → uses maps n ≡ true → (x : List ℕ) × Among maps x × (stands n x ≡ true)
uses_where [] n is = absurd (false≢true is)
uses_where (m ∷ ms) n is = elim (cases_Bool (stands n m)) [
  | inl here ↦ (m, inl refl, here)
  | inr there ↦ let w = uses_where ms n (ap (λ b. b || uses ms n) (sym there) ∙ is) in (w.0, inr w.1, w.2)
]

pub used_within : (logical physical : ℕ) (maps : List (List ℕ)) (n : ℕ) → AreMapsOf logical physical maps → uses maps n ≡ true → n ≤ physical
used_within logical physical maps n are is =
    let w = uses_where maps n is in
    let at = where_it_stands w.0 n w.2 in
    let h = are.within w.0 w.1 at.0 in
    let e = at.2 in
    omega arith

module _ (logical physical : ℕ) (maps : List (List ℕ)) (space : List Bool) (are : AreMapsOf logical physical maps) (free : AreFree space physical maps) where
  pub none_found : (r : Option ℕ) → IsNextFrom space 1 r → IfNone r (distinct (flat_map (λ (x : List ℕ). x) maps) ≡ physical)
  none_found None none = none_left logical physical maps space are free (λ n. elim (cases_eq n 0) [
    | inl zero_n ↦ ap (has space) zero_n ∙ free.hole
    | inr some ↦ none n (omega arith)
  ])
  none_found (Some n) is = tt

  pub some_found : (r : Option ℕ) → IsNextFrom space 1 r → OnSome r (distinct (flat_map (λ (x : List ℕ). x) maps) ≢ physical)
  some_found None none = tt
  some_found (Some n) is = some_left logical physical maps space n are free (elim (cases_lt n (length space)) [
    | inl less ↦ less
    | inr past ↦ absurd (false≢true (sym (get_or_past space n false past) ∙ is.is_in))
  ]) is.is_in

  pub least_found : (maps' : Maps) → maps'.root.physical ≡ physical → all_maps maps'.root maps'.active ≡ maps → (r : Option ℕ) → IsNextFrom space 1 r → IfSome r (IsLeastFree maps')
  least_found maps' same all None none = tt
  least_found maps' same all (Some n) is =
      let inside : n < length space = elim (cases_lt n (length space)) [
        | inl less ↦ less
        | inr past ↦ absurd (false≢true (sym (get_or_past space n false past) ∙ is.is_in))
      ] in
      let within : n ≤ physical = (let l = free.long in omega (arith, l, inside)) in record {
        from_one = is.from_on;
        within = rw same within;
        unused = ap (λ (ms : List (List ℕ)). uses ms n) all ∙ flip (uses maps n) (sym (free.each n is.from_on within) ∙ is.is_in);
        least = λ m one below.
            ap (λ (ms : List (List ℕ)). uses ms m) all ∙ flop (uses maps m) (sym (free.each m one (omega (arith, below, within))) ∙ is.least m one below);
      }
    where
      flip : (b : Bool) → not b ≡ true → b ≡ false
      flip true e = absurd (cc)
      flip false e = refl

      flop : (b : Bool) → not b ≡ false → b ≡ true
      flop true e = refl
      flop false e = absurd (cc)
