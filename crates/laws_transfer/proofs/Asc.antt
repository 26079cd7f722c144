-- Lists that ascend.
use Rattle.std.proofs.Common.{◌≡◌, ◌≢◌, ◌⊎◌, ◌↔◌, ◌<◌, ◌≤◌, ◌+◌, ℕ, zero, suc, ◌==◌, nat_lt, not, Bool, true, false, cond, List, [], ◌∷◌, length, Some, refl, ap₂, sym, subst, ◌∙◌, inl, inr, eqb-true, arith}
use Rattle.std.proofs.lemmas.Bool.{and_parts, and_from, not-true, not_from_false, ltb-true, ltb-false, eqb-false, both_ways, ne_eqb, cases_eq, false_from_ne_true}
use Rattle.std.proofs.lemmas.Option.{same_Some}
use Rattle.std.specs.Prelude.{slice_get}
use Rattle.std.specs.List.{filter, AllByRecursion}
use Rattle.sm_defs.specs.Words.{Among, Ascends}
use Rattle.sm_defs.specs.Image.{Block, Image, tags, stands}
use Rattle.sm_defs.specs.Volume.{Snapshot, image_of}
use Rattle.sm_defs.specs.Missing.{Bases, insert_once, ascending, tags_in, is_missing_tag, missing_tags, mirror_cost, first_tag, rest, is_missing_at, missing_from, missing_places, vault_cost}
use Rattle.sm_defs.proofs.Members.{among_each, among_filter, among_flat_map, among_stands, each_among, filter_among, from_flat_map, stands_among}
use Rattle.laws_transfer.specs.Costs.{HaveTag, tag_at, IsMissingTag, IsMissingPlace}

-- ---- a number put in

insert_go : (t u x : ℕ) (us vs : List ℕ) (a b : Bool) → (t == u) ≡ a → (Among vs x → (x ≡ t) ⊎ Among us x) →
    Among (cond a (u ∷ us) (cond b (t ∷ u ∷ us) (u ∷ vs))) x → (x ≡ t) ⊎ Among (u ∷ us) x
insert_go t u x us vs true b e h m = inr m
insert_go t u x us vs false true e h (inl k) = inl k
insert_go t u x us vs false true e h (inr m) = inr m
insert_go t u x us vs false false e h (inl k) = inr (inl k)
insert_go t u x us vs false false e h (inr m) = go (h m)
  where
    go : (x ≡ t) ⊎ Among us x → (x ≡ t) ⊎ Among (u ∷ us) x
    go (inl k) = inl k
    go (inr n) = inr (inr n)

from_insert : (t x : ℕ) (us : List ℕ) → Among (insert_once t us) x → (x ≡ t) ⊎ Among us x
from_insert t x [] (inl e) = inl e
from_insert t x [] (inr m) = absurd m
from_insert t x (u ∷ us) m = insert_go t u x us (insert_once t us) (t == u) (nat_lt t u) refl (from_insert t x us) m

to_go : (t u x : ℕ) (us vs : List ℕ) (a b : Bool) → (t == u) ≡ a → ((x ≡ t) ⊎ Among us x → Among vs x) → (x ≡ t) ⊎ Among (u ∷ us) x →
    Among (cond a (u ∷ us) (cond b (t ∷ u ∷ us) (u ∷ vs))) x
to_go t u x us vs true b e h (inl k) = inl (k ∙ eqb-true t u e)
to_go t u x us vs true b e h (inr m) = m
to_go t u x us vs false true e h m = m
to_go t u x us vs false false e h (inl k) = inr (h (inl k))
to_go t u x us vs false false e h (inr (inl k)) = inl k
to_go t u x us vs false false e h (inr (inr m)) = inr (h (inr m))

to_insert : (t x : ℕ) (us : List ℕ) → (x ≡ t) ⊎ Among us x → Among (insert_once t us) x
to_insert t x [] m = m
to_insert t x (u ∷ us) m = to_go t u x us (insert_once t us) (t == u) (nat_lt t u) refl (to_insert t x us) m

above_go : (t u : ℕ) (us : List ℕ) → (t == u) ≡ false → nat_lt t u ≡ false → AllByRecursion (λ v. u < v) us → AllByRecursion (λ v. u < v) (insert_once t us)
above_go t u us e f h = each_among (λ v. u < v) (insert_once t us) (λ x m. go x (from_insert t x us m))
  where
    more : u < t
    more = let k = eqb-false t u e in let l : u ≤ t = ltb-false t u f in omega arith

    go : (x : ℕ) → (x ≡ t) ⊎ Among us x → u < x
    go x (inl k) = rw k more
    go x (inr m) = among_each (λ v. u < v) us x h m

below_all : (t u : ℕ) (us : List ℕ) → t < u → AllByRecursion (λ v. u < v) us → AllByRecursion (λ v. t < v) us
below_all t u us l h = each_among (λ v. t < v) us (λ x m. let k = among_each (λ v. u < v) us x h m in omega arith)

ascends_go : (t u : ℕ) (us : List ℕ) (a b : Bool) → (t == u) ≡ a → nat_lt t u ≡ b → Ascends (u ∷ us) → Ascends (insert_once t us) →
    Ascends (cond a (u ∷ us) (cond b (t ∷ u ∷ us) (u ∷ insert_once t us)))
ascends_go t u us true b e f h k = h
ascends_go t u us false true e f h k = let l : t < u = ltb-true t u f in ((l, below_all t u us l h.0), h)
ascends_go t u us false false e f h k = (above_go t u us e f h.0, k)

insert_ascends : (t : ℕ) (us : List ℕ) → Ascends us → Ascends (insert_once t us)
insert_ascends t [] h = (tt, tt)
insert_ascends t (u ∷ us) h = ascends_go t u us (t == u) (nat_lt t u) refl refl h (insert_ascends t us h.1)

pub ascending_ascends : (ts : List ℕ) → Ascends (ascending ts)
ascending_ascends [] = tt
ascending_ascends (t ∷ ts) = insert_ascends t (ascending ts) (ascending_ascends ts)

pub among_ascending : (ts : List ℕ) (x : ℕ) → Among ts x → Among (ascending ts) x
among_ascending [] x m = m
among_ascending (t ∷ ts) x (inl e) = to_insert t x (ascending ts) (inl e)
among_ascending (t ∷ ts) x (inr m) = to_insert t x (ascending ts) (inr (among_ascending ts x m))

pub from_ascending : (ts : List ℕ) (x : ℕ) → Among (ascending ts) x → Among ts x
from_ascending [] x m = m
from_ascending (t ∷ ts) x m = go (from_insert t x (ascending ts) m) (from_ascending ts x)
  where
    go : (x ≡ t) ⊎ Among (ascending ts) x → (Among (ascending ts) x → Among ts x) → Among (t ∷ ts) x
    go (inl e) ih = inl e
    go (inr n) ih = inr (ih n)

-- ---- one list with the same members

first_is : (t u : ℕ) (ts us : List ℕ) → Ascends (t ∷ ts) → Ascends (u ∷ us) → Among (u ∷ us) t → Among (t ∷ ts) u → t ≡ u
first_is t u ts us h k (inl e) n = e
first_is t u ts us h k (inr m) (inl e) = sym e
first_is t u ts us h k (inr m) (inr n) = let a = among_each (λ v. u < v) us t k.0 m in let b = among_each (λ v. t < v) ts u h.0 n in absurd (omega arith)

tail_among : (t x : ℕ) (ts us : List ℕ) → AllByRecursion (λ v. t < v) ts → Among ts x → Among (t ∷ us) x → Among us x
tail_among t x ts us h m (inl e) = let a = among_each (λ v. t < v) ts x h m in absurd (omega arith)
tail_among t x ts us h m (inr n) = n

pub one_ascending : (ts us : List ℕ) → Ascends ts → Ascends us → ((x : ℕ) → Among ts x → Among us x) → ((x : ℕ) → Among us x → Among ts x) → ts ≡ us
one_ascending [] [] h k f g = refl
one_ascending [] (u ∷ us) h k f g = absurd (g u (inl refl))
one_ascending (t ∷ ts) [] h k f g = absurd (f t (inl refl))
one_ascending (t ∷ ts) (u ∷ us) h k f g =
    let e : t ≡ u = first_is t u ts us h k (f t (inl refl)) (g u (inl refl)) in
    ap₂ (λ x xs. x ∷ xs) e
    (one_ascending ts us h.1 k.1 (λ x m. tail_among t x ts us h.0 m (subst (λ y. Among (y ∷ us) x) (sym e) (f x (inr m))))
    (λ x m. tail_among u x us ts k.0 m (subst (λ y. Among (y ∷ ts) x) e (g x (inr m)))))

-- ---- a mirror's missing tags

pub have_from : (ss : List Snapshot) (t : ℕ) → stands t (tags_in ss) ≡ true → HaveTag ss t
have_from ss t e = from_flat_map tags image_of ss t (stands_among t (tags_in ss) e)

pub have_to : (ss : List Snapshot) (t : ℕ) → HaveTag ss t → stands t (tags_in ss) ≡ true
have_to ss t (s, m, k) = among_stands t (tags_in ss) (among_flat_map tags image_of ss s t m k)

is_missing : (leg : Image) (destination : List Snapshot) (t : ℕ) → Among (missing_tags leg destination) t → IsMissingTag leg destination t
is_missing leg destination t m =
    let f = among_filter (is_missing_tag destination) (tags leg) t (from_ascending (filter (is_missing_tag destination) (tags leg)) t m) in
    let p = and_parts (not (t == 0)) (not (stands t (tags_in destination))) f.1 in
    (f.0, eqb-false t 0 (not-true (t == 0) p.0), λ h. both_ways (stands t (tags_in destination)) (not-true (stands t (tags_in destination)) p.1) (have_to destination t h))

missing_is : (leg : Image) (destination : List Snapshot) (t : ℕ) → IsMissingTag leg destination t → Among (missing_tags leg destination) t
missing_is leg destination t (m, n, h) =
    among_ascending (filter (is_missing_tag destination) (tags leg)) t
    (filter_among (is_missing_tag destination) (tags leg) t m
    (and_from (not (t == 0)) (not (stands t (tags_in destination))) (not_from_false (t == 0) (ne_eqb t 0 n))
    (not_from_false (stands t (tags_in destination)) (false_from_ne_true (stands t (tags_in destination)) (λ e. h (have_from destination t e))))))

pub missing_tags_are : (leg : Image) (destination : List Snapshot) → Ascends (missing_tags leg destination) × ((t : ℕ) → Among (missing_tags leg destination) t ↔ IsMissingTag leg destination t)
missing_tags_are leg destination = (ascending_ascends (filter (is_missing_tag destination) (tags leg)), λ t. (is_missing leg destination t, missing_is leg destination t))

pub determined : (leg : Image) (destination : List Snapshot) (ts : List ℕ) → Ascends ts → ((t : ℕ) → Among ts t ↔ IsMissingTag leg destination t) → ts ≡ missing_tags leg destination
determined leg destination ts h k =
    one_ascending ts (missing_tags leg destination) h (ascending_ascends (filter (is_missing_tag destination) (tags leg))) (λ t m. missing_is leg destination t ((k t).0 m)) (λ t m. (k t).1 (is_missing leg destination t m))

-- ---- nothing is missing

pub none_empty : {X : Type 0} (xs : List X) → length xs ≡ 0 → (x : X) → Among xs x → ⊥
none_empty [] e x m = m
none_empty (y ∷ xs) e x m = omega arith

pub empty_none : {X : Type 0} (xs : List X) → ((x : X) → Among xs x → ⊥) → length xs ≡ 0
empty_none [] h = refl
empty_none (y ∷ xs) h = absurd (h y (inl refl))

stands_cases : (b : Bool) → (b ≡ true) ⊎ (b ≡ false)
stands_cases true = inl refl
stands_cases false = inr refl

pub mirror_nothing : (leg : Image) (destination : List Snapshot) → (mirror_cost leg destination ≡ 0) ↔ ((t : ℕ) → Among (tags leg) t → t ≢ 0 → HaveTag destination t)
mirror_nothing leg destination = (there, back)
  where
    there : mirror_cost leg destination ≡ 0 → (t : ℕ) → Among (tags leg) t → t ≢ 0 → HaveTag destination t
    there e t m n = go (stands_cases (stands t (tags_in destination)))
      where
        go : (stands t (tags_in destination) ≡ true) ⊎ (stands t (tags_in destination) ≡ false) → HaveTag destination t
        go (inl k) = have_from destination t k
        go (inr k) = absurd (none_empty (missing_tags leg destination) e t (missing_is leg destination t (m, n, λ h. both_ways (stands t (tags_in destination)) k (have_to destination t h))))

    back : ((t : ℕ) → Among (tags leg) t → t ≢ 0 → HaveTag destination t) → mirror_cost leg destination ≡ 0
    back h = empty_none (missing_tags leg destination) (λ t m. let (a, n, k) = is_missing leg destination t m in k (h t a n))

-- ---- a vault's missing places

-- the place lies so far behind the first
record PlaceFrom (at : ℕ) (leg base : Image) (p : ℕ) : Type 0 where
  by : ℕ
  there : p ≡ at + by
  block : Block
  is : slice_get leg by ≡ Some block
  full : block.tag ≢ 0
  new : block.tag ≢ tag_at base by

pub next_tag : (base : Image) (p : ℕ) → tag_at (rest base) p ≡ tag_at base (suc p)
next_tag [] p = refl
next_tag (c ∷ cs) p = refl

pub first_is_at : (base : Image) → first_tag base ≡ tag_at base 0
first_is_at [] = refl
first_is_at (c ∷ cs) = refl

later : (at : ℕ) (b : Block) (bs base : Image) (p : ℕ) → PlaceFrom (suc at) bs (rest base) p → PlaceFrom at (b ∷ bs) base p
later at b bs base p f = record { by = suc f.by; there = let e = f.there in omega arith; block = f.block; is = f.is; full = f.full; new = λ e. f.new (e ∙ sym (next_tag base f.by)) }

missing_test : (t u : ℕ) → is_missing_at t u ≡ true → (t ≢ 0) × (t ≢ u)
missing_test t u e = let p = and_parts (not (t == 0)) (not (t == u)) e in (eqb-false t 0 (not-true (t == 0) p.0), eqb-false t u (not-true (t == u) p.1))

test_missing : (t u : ℕ) → t ≢ 0 → t ≢ u → is_missing_at t u ≡ true
test_missing t u n k = and_from (not (t == 0)) (not (t == u)) (not_from_false (t == 0) (ne_eqb t 0 n)) (not_from_false (t == u) (ne_eqb t u k))

from_missing : (at : ℕ) (leg base : Image) (p : ℕ) → Among (missing_from at leg base) p → PlaceFrom at leg base p
from_missing at [] base p m = absurd m
from_missing at (b ∷ bs) base p m = go (is_missing_at b.tag (first_tag base)) refl (missing_from (suc at) bs (rest base)) (λ n. later at b bs base p (from_missing (suc at) bs (rest base) p n)) m
  where
    go : (c : Bool) → is_missing_at b.tag (first_tag base) ≡ c → (xs : List ℕ) → (Among xs p → PlaceFrom at (b ∷ bs) base p) → Among (cond c (at ∷ xs) xs) p → PlaceFrom at (b ∷ bs) base p
    go true e xs ih (inl k) = let q = missing_test b.tag (first_tag base) e in record { by = 0; there = omega arith; block = b; is = refl; full = q.0; new = λ e. q.1 (e ∙ sym (first_is_at base)) }
    go true e xs ih (inr n) = ih n
    go false e xs ih n = ih n

to_missing_go : (at p : ℕ) (xs : List ℕ) (c : Bool) → Among xs p → Among (cond c (at ∷ xs) xs) p
to_missing_go at p xs true m = inr m
to_missing_go at p xs false m = m

pub to_missing : (at by : ℕ) (leg base : Image) (b : Block) → slice_get leg by ≡ Some b → b.tag ≢ 0 → b.tag ≢ tag_at base by → Among (missing_from at leg base) (at + by)
to_missing at by [] base b e n k = absurd (cc)
to_missing at zero (c ∷ bs) base b e n k = rw first (inl (omega arith))
  where
    same : c ≡ b
    same = same_Some c b e

    first : is_missing_at c.tag (first_tag base) ≡ true
    first = subst (λ d. is_missing_at d.tag (first_tag base) ≡ true) (sym same) (test_missing b.tag (first_tag base) n (λ q. k (q ∙ first_is_at base)))
to_missing at (suc by) (c ∷ bs) base b e n k =
    to_missing_go at (at + suc by) (missing_from (suc at) bs (rest base)) (is_missing_at c.tag (first_tag base))
    (subst (Among (missing_from (suc at) bs (rest base))) (omega arith) (to_missing (suc at) by bs (rest base) b e n (λ q. k (q ∙ next_tag base by))))

missing_from_ascends : (at : ℕ) (leg base : Image) → Ascends (missing_from at leg base)
missing_from_ascends at [] base = tt
missing_from_ascends at (b ∷ bs) base = go (missing_from_ascends (suc at) bs (rest base)) (is_missing_at b.tag (first_tag base))
  where
    go : Ascends (missing_from (suc at) bs (rest base)) → (c : Bool) → Ascends (cond c (at ∷ missing_from (suc at) bs (rest base)) (missing_from (suc at) bs (rest base)))
    go ih true = (each_among (λ u. at < u) (missing_from (suc at) bs (rest base)) (λ x m. let f = from_missing (suc at) bs (rest base) x m in let e = f.there in omega arith), ih)
    go ih false = ih

pub missing_places_are : (leg : Image) (bases : Bases) → Ascends (missing_places leg bases) × ((p : ℕ) → Among (missing_places leg bases) p ↔ IsMissingPlace leg bases p)
missing_places_are leg bases = (missing_from_ascends 0 leg bases.at_source, λ p. (there p, back p))
  where
    there : (p : ℕ) → Among (missing_places leg bases) p → IsMissingPlace leg bases p
    there p m = let f = from_missing 0 leg bases.at_source p m in
        let e : p ≡ f.by = let k = f.there in omega arith in
        (f.block, subst (λ q. slice_get leg q ≡ Some f.block) (sym e) f.is, f.full, subst (λ q. f.block.tag ≢ tag_at bases.at_source q) (sym e) f.new)

    back : (p : ℕ) → IsMissingPlace leg bases p → Among (missing_places leg bases) p
    back p (b, e, n, k) = subst (Among (missing_places leg bases)) (omega arith) (to_missing 0 p leg bases.at_source b e n k)

pub missing_cases : (t u : ℕ) → is_missing_at t u ≡ false → (t ≡ 0) ⊎ (t ≡ u)
missing_cases t u e = go (cases_eq t 0) (cases_eq t u)
  where
    go : (t ≡ 0) ⊎ (t ≡ 0 → ⊥) → (t ≡ u) ⊎ (t ≡ u → ⊥) → (t ≡ 0) ⊎ (t ≡ u)
    go (inl k) q = inl k
    go (inr n) (inl k) = inr k
    go (inr n) (inr k) = absurd (both_ways (is_missing_at t u) e (test_missing t u n k))

place_cases : (t u : ℕ) (b : Bool) → is_missing_at t u ≡ b → ((t ≡ 0) ⊎ (t ≡ u)) ⊎ ((t ≢ 0) × (t ≢ u))
place_cases t u true e = inr (missing_test t u e)
place_cases t u false e = inl (missing_cases t u e)

pub vault_nothing : (leg : Image) (bases : Bases) → (vault_cost leg bases ≡ 0) ↔ ((p : ℕ) (b : Block) → slice_get leg p ≡ Some b → (b.tag ≡ 0) ⊎ (b.tag ≡ tag_at bases.at_source p))
vault_nothing leg bases = (there, back)
  where
    there : vault_cost leg bases ≡ 0 → (p : ℕ) (b : Block) → slice_get leg p ≡ Some b → (b.tag ≡ 0) ⊎ (b.tag ≡ tag_at bases.at_source p)
    there e p b k = go (place_cases b.tag (tag_at bases.at_source p) (is_missing_at b.tag (tag_at bases.at_source p)) refl)
      where
        go : ((b.tag ≡ 0) ⊎ (b.tag ≡ tag_at bases.at_source p)) ⊎ ((b.tag ≢ 0) × (b.tag ≢ tag_at bases.at_source p)) → (b.tag ≡ 0) ⊎ (b.tag ≡ tag_at bases.at_source p)
        go (inl h) = h
        go (inr (n, q)) = absurd (none_empty (missing_places leg bases) e p (((missing_places_are leg bases).1 p).1 (b, k, n, q)))

    back : ((p : ℕ) (b : Block) → slice_get leg p ≡ Some b → (b.tag ≡ 0) ⊎ (b.tag ≡ tag_at bases.at_source p)) → vault_cost leg bases ≡ 0
    back h = empty_none (missing_places leg bases) (λ p m. let (b, e, n, q) = ((missing_places_are leg bases).1 p).0 m in go p b n q (h p b e))
      where
        go : (p : ℕ) (b : Block) → b.tag ≢ 0 → b.tag ≢ tag_at bases.at_source p → (b.tag ≡ 0) ⊎ (b.tag ≡ tag_at bases.at_source p) → ⊥
        go p b n q (inl k) = n k
        go p b n q (inr k) = q k
