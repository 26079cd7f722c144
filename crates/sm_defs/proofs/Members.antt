-- What stands in a list, and what holds of each of its members.
use Rattle.std.proofs.Common.{take, ◌≡◌, ◌⊎◌, ◌<◌, ℕ, zero, suc, ◌==◌, ◌||◌, Bool, true, false, cond, List, [], ◌∷◌, ◌++◌, map, length, Some, refl, ap, sym, subst, inl, inr, eqb-true, eq-eqb, arith}
use Rattle.std.proofs.lemmas.Bool.{or_left, or_right, or_cases}
use Rattle.std.proofs.lemmas.Option.{same_Some}
use Rattle.std.specs.Prelude.{slice_get, slice_set, slice_index_or}
use Rattle.std.specs.List.{list_any, filter, flat_map, AllByRecursion}
use Rattle.sm_defs.specs.Words.{Among}
use Rattle.sm_defs.specs.Image.{stands}

pub any_among : {X : Type 0} (p : X → Bool) (xs : List X) (x : X) → Among xs x → p x ≡ true → list_any p xs ≡ true
any_among p [] x m e = absurd m
any_among p (z ∷ xs) x (inl k) e = or_left _ _ (subst (λ y. p y ≡ true) k e)
any_among p (z ∷ xs) x (inr m) e = or_right _ _ (any_among p xs x m e)

pub among_any : {X : Type 0} (p : X → Bool) (xs : List X) → list_any p xs ≡ true → (x : X) × Among xs x × (p x ≡ true)
among_any p [] e = absurd (cc)
among_any {X} p (z ∷ xs) e = go (or_cases (p z) (list_any p xs) e) (among_any p xs)
  where
    go : (p z ≡ true) ⊎ (list_any p xs ≡ true) → (list_any p xs ≡ true → (x : X) × Among xs x × (p x ≡ true)) → (x : X) × Among (z ∷ xs) x × (p x ≡ true)
    go (inl k) ih = (z, inl refl, k)
    go (inr k) ih = let (x, m, q) = ih k in (x, inr m, q)

pub stands_among : (t : ℕ) (ts : List ℕ) → stands t ts ≡ true → Among ts t
stands_among t ts e = let (u, m, q) = among_any (λ u. u == t) ts e in subst (Among ts) (eqb-true u t q) m

pub among_stands : (t : ℕ) (ts : List ℕ) → Among ts t → stands t ts ≡ true
among_stands t ts m = any_among (λ u. u == t) ts t m (eq-eqb t t refl)

pub among_map : {X Y : Type 0} (f : X → Y) (xs : List X) (x : X) → Among xs x → Among (map f xs) (f x)
among_map f (z ∷ xs) x (inl e) = inl (ap f e)
among_map f (z ∷ xs) x (inr m) = inr (among_map f xs x m)
among_map f [] x m = absurd m

pub among_place : {X : Type 0} (xs : List X) (x : X) → Among xs x → (n : ℕ) × (slice_get xs n ≡ Some x)
among_place [] x m = absurd m
among_place (y ∷ ys) x (inl e) = (0, ap Some (sym e))
among_place (y ∷ ys) x (inr m) = let (n, e) = among_place ys x m in (suc n, e)

pub from_map : {X Y : Type 0} (f : X → Y) (xs : List X) (y : Y) → Among (map f xs) y → (x : X) × Among xs x × (y ≡ f x)
from_map f [] y m = absurd m
from_map f (z ∷ xs) y (inl e) = (z, inl refl, e)
from_map f (z ∷ xs) y (inr m) = let (x, k, e) = from_map f xs y m in (x, inr k, e)

pub among_left : {X : Type 0} (xs ys : List X) (x : X) → Among xs x → Among (xs ++ ys) x
among_left [] ys x m = absurd m
among_left (z ∷ xs) ys x (inl e) = inl e
among_left (z ∷ xs) ys x (inr m) = inr (among_left xs ys x m)

pub among_right : {X : Type 0} (xs ys : List X) (x : X) → Among ys x → Among (xs ++ ys) x
among_right [] ys x m = m
among_right (z ∷ xs) ys x m = inr (among_right xs ys x m)

pub among_append : {X : Type 0} (xs ys : List X) (x : X) → Among (xs ++ ys) x → Among xs x ⊎ Among ys x
among_append [] ys x m = inr m
among_append (z ∷ xs) ys x (inl e) = inl (inl e)
among_append (z ∷ xs) ys x (inr m) = go (among_append xs ys x m)
  where
    go : Among xs x ⊎ Among ys x → Among (z ∷ xs) x ⊎ Among ys x
    go (inl m) = inl (inr m)
    go (inr m) = inr m

-- the last of a list with one more
pub among_last : {X : Type 0} (xs : List X) (x : X) → Among (xs ++ x ∷ []) x
among_last xs x = among_right xs (x ∷ []) x (inl refl)

-- one of a list with one more
pub among_push : {X : Type 0} (xs : List X) (x y : X) → Among (xs ++ x ∷ []) y → Among xs y ⊎ (y ≡ x)
among_push xs x y m = go (among_append xs (x ∷ []) y m)
  where
    go : Among xs y ⊎ Among (x ∷ []) y → Among xs y ⊎ (y ≡ x)
    go (inl m) = inl m
    go (inr (inl e)) = inr e
    go (inr (inr n)) = elim n [ ]

pub among_flat : {X Y : Type 0} (f : X → List Y) (xs : List X) (x : X) (y : Y) → Among xs x → Among (f x) y → Among (flat_map f xs) y
among_flat f [] x y m k = absurd m
among_flat f (z ∷ xs) x y (inl e) k = among_left (f z) (flat_map f xs) y (subst (λ u. Among (f u) y) e k)
among_flat f (z ∷ xs) x y (inr m) k = among_right (f z) (flat_map f xs) y (among_flat f xs x y m k)

pub from_flat : {X Y : Type 0} (f : X → List Y) (xs : List X) (y : Y) → Among (flat_map f xs) y → (x : X) × Among xs x × Among (f x) y
from_flat f [] y m = absurd m
from_flat {X} {Y} f (z ∷ xs) y m = go (among_append (f z) (flat_map f xs) y m) (from_flat f xs y)
  where
    go : Among (f z) y ⊎ Among (flat_map f xs) y → (Among (flat_map f xs) y → (x : X) × Among xs x × Among (f x) y) → (x : X) × Among (z ∷ xs) x × Among (f x) y
    go (inl k) ih = (z, inl refl, k)
    go (inr k) ih = let (x, n, q) = ih k in (x, inr n, q)

-- of the lists that f makes of what g makes of a list
pub among_flat_map : {X Y Z : Type 0} (f : Y → List Z) (g : X → Y) (xs : List X) (x : X) (z : Z) → Among xs x → Among (f (g x)) z → Among (flat_map f (map g xs)) z
among_flat_map f g xs x z m k = among_flat f (map g xs) (g x) z (among_map g xs x m) k

pub from_flat_map : {X Y Z : Type 0} (f : Y → List Z) (g : X → Y) (xs : List X) (z : Z) → Among (flat_map f (map g xs)) z → (x : X) × Among xs x × Among (f (g x)) z
from_flat_map f g xs z m = let (y, n, k) = from_flat f (map g xs) z m in let (x, l, e) = from_map g xs y n in (x, l, subst (λ u. Among (f u) z) e k)

keep_go : {X : Type 0} (x z : X) (xs : List X) (b : Bool) → (x ≡ z) ⊎ Among xs x → (x ≡ z → b ≡ true) → Among (cond b (z ∷ xs) xs) x
keep_go x z xs true m h = m
keep_go x z xs false (inl e) h = absurd (let k = h e in cc)
keep_go x z xs false (inr m) h = m

filter_step : {X : Type 0} (x z : X) (xs ys : List X) → (Among xs x → Among ys x) → (x ≡ z) ⊎ Among xs x → (x ≡ z) ⊎ Among ys x
filter_step x z xs ys h (inl e) = inl e
filter_step x z xs ys h (inr m) = inr (h m)

pub filter_among : {X : Type 0} (p : X → Bool) (xs : List X) (x : X) → Among xs x → p x ≡ true → Among (filter p xs) x
filter_among p [] x m e = absurd m
filter_among p (z ∷ xs) x m e =
    keep_go x z (filter p xs) (p z) (filter_step x z xs (filter p xs) (λ n. filter_among p xs x n e) m) (λ k. subst (λ y. p y ≡ true) k e)

from_go : {X : Type 0} (p : X → Bool) (x z : X) (xs ys : List X) (b : Bool) → p z ≡ b → Among (cond b (z ∷ ys) ys) x → (Among ys x → Among xs x × (p x ≡ true)) → Among (z ∷ xs) x × (p x ≡ true)
from_go p x z xs ys true e (inl k) h = (inl k, subst (λ y. p y ≡ true) (sym k) e)
from_go p x z xs ys true e (inr m) h = let (n, q) = h m in (inr n, q)
from_go p x z xs ys false e m h = let (n, q) = h m in (inr n, q)

pub among_filter : {X : Type 0} (p : X → Bool) (xs : List X) (x : X) → Among (filter p xs) x → Among xs x × (p x ≡ true)
among_filter p [] x m = absurd m
among_filter p (z ∷ xs) x m = from_go p x z xs (filter p xs) (p z) refl m (λ n. among_filter p xs x n)

-- ---- at a place

pub among_set : {X : Type 0} (xs : List X) (i : ℕ) (y x : X) → Among (slice_set xs i y) x → (x ≡ y) ⊎ Among xs x
among_set [] i y x m = absurd m
among_set (z ∷ xs) zero y x (inl e) = inl e
among_set (z ∷ xs) zero y x (inr m) = inr (inr m)
among_set (z ∷ xs) (suc i) y x (inl e) = inr (inl e)
among_set (z ∷ xs) (suc i) y x (inr m) = go (among_set xs i y x m)
  where
    go : (x ≡ y) ⊎ Among xs x → (x ≡ y) ⊎ Among (z ∷ xs) x
    go (inl e) = inl e
    go (inr m) = inr (inr m)

pub among_get_or : {X : Type 0} (xs : List X) (i : ℕ) (d : X) → i < length xs → Among xs (slice_index_or xs i d)
among_get_or [] i d h = absurd (omega arith)
among_get_or (x ∷ xs) zero d h = inl refl
among_get_or (x ∷ xs) (suc i) d h = inr (among_get_or xs i d (omega arith))

pub get_among : {X : Type 0} (xs : List X) (i : ℕ) (x : X) → slice_get xs i ≡ Some x → Among xs x
get_among [] i x e = absurd (cc)
get_among (y ∷ ys) zero x e = inl (sym (same_Some y x e))
get_among (y ∷ ys) (suc i) x e = inr (get_among ys i x e)

pub set_at : {X : Type 0} (xs : List X) (k : ℕ) (y d : X) → k < length xs → slice_index_or (slice_set xs k y) k d ≡ y
set_at [] k y d h = absurd (omega arith)
set_at (x ∷ xs) zero y d h = refl
set_at (x ∷ xs) (suc k) y d h = set_at xs k y d (omega arith)

-- what stands at a place after a member was set
pub get_set : {X : Type 0} (xs : List X) (i : ℕ) (y : X) (p : ℕ) (x : X) → slice_get (slice_set xs i y) p ≡ Some x → ((p ≡ i) × (x ≡ y)) ⊎ (slice_get xs p ≡ Some x)
get_set [] i y p x e = inr e
get_set (z ∷ xs) zero y zero x e = inl (refl, sym (same_Some y x e))
get_set (z ∷ xs) zero y (suc p) x e = inr e
get_set (z ∷ xs) (suc i) y zero x e = inr e
get_set (z ∷ xs) (suc i) y (suc p) x e = go (get_set xs i y p x e)
  where
    go : ((p ≡ i) × (x ≡ y)) ⊎ (slice_get xs p ≡ Some x) → ((suc p ≡ suc i) × (x ≡ y)) ⊎ (slice_get xs p ≡ Some x)
    go (inl (a, b)) = inl (ap suc a, b)
    go (inr e) = inr e

-- ---- of each

pub each_among : {X : Type 0} (P : X → Type 0) (xs : List X) → ((x : X) → Among xs x → P x) → AllByRecursion P xs
each_among P [] h = tt
each_among P (x ∷ xs) h = (h x (inl refl), each_among P xs (λ y m. h y (inr m)))

pub among_each : {X : Type 0} (P : X → Type 0) (xs : List X) (x : X) → AllByRecursion P xs → Among xs x → P x
among_each P [] x h m = absurd m
among_each P (y ∷ xs) x h (inl e) = subst P (sym e) h.0
among_each P (y ∷ xs) x h (inr m) = among_each P xs x h.1 m

pub each_pushed : {X : Type 0} (P : X → Type 0) (xs : List X) (x : X) → AllByRecursion P xs → P x → AllByRecursion P (xs ++ x ∷ [])
each_pushed P [] x h k = (k, tt)
each_pushed P (y ∷ ys) x h k = (h.0, each_pushed P ys x h.1 k)

pub each_push : {X : Type 0} (P : X → Type 0) (xs : List X) (x : X) → ((y : X) → Among xs y → P y) → P x → (y : X) → Among (xs ++ x ∷ []) y → P y
each_push P xs x h k y m = go (among_append xs (x ∷ []) y m)
  where
    go : Among xs y ⊎ Among (x ∷ []) y → P y
    go (inl m) = h y m
    go (inr (inl e)) = subst P (sym e) k
    go (inr (inr n)) = elim n [ ]

pub each_mapped : {X : Type 0} (P : X → Type 0) (f : X → X) (xs : List X) → ((y : X) → Among xs y → P (f y)) → (y : X) → Among (map f xs) y → P y
each_mapped P f [] h y m = absurd m
each_mapped P f (x ∷ xs) h y (inl e) = subst P (sym e) (h x (inl refl))
each_mapped P f (x ∷ xs) h y (inr m) = each_mapped P f xs (λ z k. h z (inr k)) y m

-- ---- a test that some member passes

pub any_left : {X : Type 0} (p : X → Bool) (xs ys : List X) → list_any p xs ≡ true → list_any p (xs ++ ys) ≡ true
any_left p [] ys e = absurd (cc)
any_left p (x ∷ xs) ys e = go (or_cases (p x) (list_any p xs) e) (any_left p xs ys)
  where
    go : (p x ≡ true) ⊎ (list_any p xs ≡ true) → (list_any p xs ≡ true → list_any p (xs ++ ys) ≡ true) → (p x || list_any p (xs ++ ys)) ≡ true
    go (inl k) ih = or_left _ _ k
    go (inr k) ih = or_right _ _ (ih k)

pub any_right : {X : Type 0} (p : X → Bool) (xs ys : List X) → list_any p ys ≡ true → list_any p (xs ++ ys) ≡ true
any_right p [] ys e = e
any_right p (x ∷ xs) ys e = or_right _ _ (any_right p xs ys e)

pub any_flat : {X Y : Type 0} (p : Y → Bool) (f : X → List Y) (xs : List X) (x : X) → Among xs x → list_any p (f x) ≡ true → list_any p (flat_map f xs) ≡ true
any_flat p f [] x m e = absurd m
any_flat p f (z ∷ xs) x (inl k) e = any_left p (f z) (flat_map f xs) (subst (λ y. list_any p (f y) ≡ true) k e)
any_flat p f (z ∷ xs) x (inr m) e = any_right p (f z) (flat_map f xs) (any_flat p f xs x m e)

pub among_take : {X : Type 0} (k : ℕ) (xs : List X) (y : X) → Among (take k xs) y → Among xs y
among_take zero xs y a = absurd a
among_take (suc k) [] y a = absurd a
among_take (suc k) (x ∷ xs) y (inl same) = inl same
among_take (suc k) (x ∷ xs) y (inr later) = inr (among_take k xs y later)
