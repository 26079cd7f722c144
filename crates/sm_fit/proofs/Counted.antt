-- Numbers counted, each once.
use Rattle.std.proofs.Common.{◌≡◌, ◌≢◌, ℕ, suc, ◌+◌, ◌-◌, ◌<◌, ◌≤◌, ◌==◌, ◌||◌, nat_lt, Bool, true, false, cond, List, [], ◌∷◌, length, get_or, set, filter, count_by, refl, sym, ap, subst, ◌∙◌, inl, inr, eqb-true, arith}
use Rattle.std.proofs.lemmas.Bool.{cases_eq, ne_eqb}
use Rattle.std.proofs.lemmas.Bool.Decides.{nat_tests}
use Rattle.std.proofs.lemmas.List.{get_or-set_same, get_or-set_other, length-set}
use Rattle.std.proofs.lemmas.List.Sums.{sum_by-cons, sum_by-set}
use Rattle.sm_defs.specs.Words.{Among}
use Rattle.sm_defs.specs.Image.{stands, distinct}
use Rattle.sm_defs.specs.Missing.{insert_once, ascending}
use Rattle.sm_defs.proofs.Members.{among_filter, stands_among, among_stands}
use Rattle.sm_shape.proofs.ListWords.{among_index}
use Rattle.sm_fit.specs.Tables.{is_marked}

-- a number stands in a list with one more where it is that one or stood before
stands_go : (x t u : ℕ) (s r : Bool) (a b : Bool) → (t == u) ≡ a → r ≡ ((t == x) || s) → (vs us : List ℕ) → stands x us ≡ s → stands x vs ≡ r
    → stands x (cond a (u ∷ us) (cond b (t ∷ u ∷ us) (u ∷ vs))) ≡ ((t == x) || ((u == x) || s))
stands_go x t u s r true b e k vs us h i = rw (h, eqb-true t u e) (twice (u == x) s)
  where
    twice : (c d : Bool) → (c || d) ≡ (c || (c || d))
    twice true d = refl
    twice false d = refl
stands_go x t u s r false true e k vs us h i = rw h refl
stands_go x t u s r false false e k vs us h i = rw (i, k) (turned (u == x) (t == x) s)
  where
    turned : (c d f : Bool) → (c || (d || f)) ≡ (d || (c || f))
    turned true true f = refl
    turned true false f = refl
    turned false d f = refl

stands_insert : (x t : ℕ) (us : List ℕ) → stands x (insert_once t us) ≡ ((t == x) || stands x us)
stands_insert x t [] = refl
stands_insert x t (u ∷ us) = stands_go x t u (stands x us) ((t == x) || stands x us) (t == u) (nat_lt t u) refl refl (insert_once t us) us refl (stands_insert x t us)

stands_ascending : (x : ℕ) (ts : List ℕ) → stands x (ascending ts) ≡ stands x ts
stands_ascending x [] = refl
stands_ascending x (t ∷ ts) = stands_insert x t (ascending ts) ∙ ap (λ b. (t == x) || b) (stands_ascending x ts)

insert_go : (t u : ℕ) (us vs : List ℕ) (a b : Bool) → a ≡ false → length vs ≡ suc (length us) → length (cond a (u ∷ us) (cond b (t ∷ u ∷ us) (u ∷ vs))) ≡ suc (length (u ∷ us))
insert_go t u us vs true b e h = absurd cc
insert_go t u us vs false true e h = refl
insert_go t u us vs false false e h = ap suc h

-- a new number makes the list longer
insert_new : (t : ℕ) (us : List ℕ) → ¬ (Among us t) → length (insert_once t us) ≡ suc (length us)
insert_new t [] new = refl
insert_new t (u ∷ us) new = insert_go t u us (insert_once t us) (t == u) (nat_lt t u) (ne_eqb t u (λ e. new (inl e))) (insert_new t us (λ a. new (inr a)))

-- a number but 0 stands once
pub record OnceIn (m : List ℕ) : Type 0 where
  pub same : (i j : ℕ) → i < length m → j < length m → get_or m i 0 ≢ 0 → get_or m i 0 ≡ get_or m j 0 → i ≡ j

once_rest : (n : ℕ) (ns : List ℕ) → OnceIn (n ∷ ns) → OnceIn ns
once_rest n ns once = record { same = λ i j a b nz e. let h = once.same (suc i) (suc j) (omega arith) (omega arith) nz e in omega (arith, h) }

not_behind : (n : ℕ) (ns : List ℕ) → OnceIn (n ∷ ns) → n ≢ 0 → ¬ (Among ns n)
not_behind n ns once nz a =
    let t = among_index ns 0 n a in
    let h : 0 ≡ suc t.at = once.same 0 (suc t.at) (omega arith) (omega (arith, t.in_range)) nz (sym t.is) in
    absurd (omega (arith, h))

once_go : (p : ℕ → Bool) (n : ℕ) (ns : List ℕ) (b : Bool) → p n ≡ b → (b ≡ true → ¬ (Among ns n)) → length (ascending (filter p ns)) ≡ length (filter p ns)
    → length (ascending (cond b (n ∷ filter p ns) (filter p ns))) ≡ length (cond b (n ∷ filter p ns) (filter p ns))
once_go p n ns false e new h = h
once_go p n ns true e new h =
    insert_new n (ascending (filter p ns)) (λ a. new refl (among_filter p ns n (stands_among n (filter p ns) (sym (stands_ascending n (filter p ns)) ∙ among_stands n (ascending (filter p ns)) a))).0)
    ∙ ap suc h

-- where numbers stand once, none goes as they are put in order
pub once_long : (p : ℕ → Bool) → p 0 ≡ false → (m : List ℕ) → OnceIn m → length (ascending (filter p m)) ≡ length (filter p m)
once_long p hole [] once = refl
once_long p hole (n ∷ ns) once =
    once_go p n ns (p n) refl (λ passes. not_behind n ns once (λ z. absurd (clash (subst (λ k. p k ≡ true) z passes)))) (once_long p hole ns (once_rest n ns once))
  where
    clash : p 0 ≡ true → ⊥
    clash e = absurd (both (p 0) hole e)
      where
        both : (b : Bool) → b ≡ false → b ≡ true → ⊥
        both true e f = absurd cc
        both false e f = absurd cc

-- ---- different numbers, by their entries

-- how much an entry counts
abbrev weight : Bool → ℕ
weight b = cond b 1 0

count-cons : (x : ℕ) (xs : List ℕ) → count_by is_marked (x ∷ xs) ≡ weight (is_marked x) + count_by is_marked xs
count-cons x xs = sum_by-cons (λ y. weight (is_marked y)) x xs

none_marked : (us : List ℕ) → ((k : ℕ) → k < length us → is_marked (get_or us k 0) ≡ false) → count_by is_marked us ≡ 0
none_marked [] none = refl
none_marked (u ∷ us) none =
    let rest = none_marked us (λ k lt. none (suc k) (omega arith)) in
    let whole = count-cons u us in
    let here : weight (is_marked u) ≡ 0 = ap weight (none 0 (omega arith)) in
    omega (arith, rest, whole, here)

-- each entry says whether its number stands, where the first is that of 1
pub record Marks (us ts : List ℕ) : Type 0 where
  pub small : (t : ℕ) → Among ts t → t ≤ length us
  pub marks : (k : ℕ) → k < length us → is_marked (get_or us k 0) ≡ stands (suc k) ts

same_marks : (us ts : List ℕ) (t : ℕ) → ((k : ℕ) → k < length us → stands (suc k) (t ∷ ts) ≡ stands (suc k) ts) → Marks us (t ∷ ts) → Marks us ts
same_marks us ts t same m = record { small = λ u a. m.small u (inr a); marks = λ k lt. m.marks k lt ∙ same k lt }

known : (t k : ℕ) (ts : List ℕ) → stands t ts ≡ true → stands k (t ∷ ts) ≡ stands k ts
known t k ts stood = elim (cases_eq t k) [
  | inl same ↦ let is : stands k ts ≡ true = ap (λ n. stands n ts) (sym same) ∙ stood in ap (λ b. (t == k) || b) is ∙ (top (t == k) ∙ sym is)
  | inr other ↦ ap (λ b. b || stands k ts) (ne_eqb t k other)
]
  where
    top : (b : Bool) → (b || true) ≡ true
    top true = refl
    top false = refl

module _ (us ts : List ℕ) (t : ℕ) (m : Marks us (t ∷ ts)) (some : 0 < t) (new : stands t ts ≡ false) where
  within : t - 1 < length us
  within = let h = m.small t (inl refl) in omega arith

  number : suc (t - 1) ≡ t
  number = omega arith

  -- without its mark
  cleared : Marks (set us (t - 1) 0) ts
  cleared = record {
    small = λ u a. let h = m.small u (inr a) in omega (arith, h, length-set us (t - 1) 0);
    marks = λ k lt. elim (cases_eq k (t - 1)) [
      | inl same ↦
          let was : get_or (set us (t - 1) 0) k 0 ≡ 0 = ap (λ n. get_or (set us (t - 1) 0) n 0) same ∙ get_or-set_same us (t - 1) 0 0 within in
          let is : suc k ≡ t = ap suc same ∙ number in
          ap is_marked was ∙ sym (ap (λ n. stands n ts) is ∙ new)
      | inr other ↦
          let was : get_or (set us (t - 1) 0) k 0 ≡ get_or us k 0 = get_or-set_other us (t - 1) k 0 0 (λ e. other e) in
          let differs : t ≢ suc k = λ e. other (omega (arith, e)) in
          ap is_marked was ∙ (m.marks k (omega (arith, lt, length-set us (t - 1) 0)) ∙ ap (λ b. b || stands (suc k) ts) (ne_eqb t (suc k) differs))
    ];
  }

  one_more : count_by is_marked us ≡ suc (count_by is_marked (set us (t - 1) 0))
  one_more =
      let was : is_marked (get_or us (t - 1) 0) ≡ true = m.marks (t - 1) within ∙ ap (λ n. stands n (t ∷ ts)) number ∙ among_stands t (t ∷ ts) (inl refl) in
      let set_is : count_by is_marked (set us (t - 1) 0) + weight (is_marked (get_or us (t - 1) 0)) ≡ count_by is_marked us + weight (is_marked 0) =
      sum_by-set (λ y. weight (is_marked y)) us (t - 1) 0 0 within in
      let one : weight (is_marked (get_or us (t - 1) 0)) ≡ 1 = ap weight was in
      let none : weight (is_marked 0) ≡ 0 = refl in
      omega (arith, set_is, one, none)

-- as many different numbers stand as are marked
pub distinct_marked : (ts us : List ℕ) → Marks us ts → distinct ts ≡ count_by is_marked us
distinct_marked [] us m = sym (none_marked us m.marks)
distinct_marked (t ∷ ts) us m = go (distinct_marked ts) (t == 0) (stands t ts) refl refl
  where
    go : ((vs : List ℕ) → Marks vs ts → distinct ts ≡ count_by is_marked vs) → (z s : Bool) → (t == 0) ≡ z → stands t ts ≡ s → cond (z || s) (distinct ts) (1 + distinct ts) ≡ count_by is_marked us
    go ih true s ez es = ih us (same_marks us ts t (λ k lt. let other : (t == suc k) ≡ false = grind (arith, nat_tests) in ap (λ b. b || stands (suc k) ts) other) m)
    go ih false true ez es = ih us (same_marks us ts t (λ k lt. known t (suc k) ts es) m)
    go ih false false ez es =
        let some : 0 < t = grind (arith, nat_tests) in
        let rest = ih (set us (t - 1) 0) (cleared us ts t m some es) in
        let more = one_more us ts t m some es in
        let whole : 1 + distinct ts ≡ count_by is_marked us = omega (arith, rest, more) in
        whole
