-- Lists with a first element, and a number put in its place.
use Rattle.std.proofs.Common.{◌≡◌, ◌<◌, ◌-◌, ℕ, suc, ◌==◌, ◌||◌, nat_lt, Bool, true, false, cond, List, [], ◌∷◌, ◌++◌, length, take, drop, get_or, Some, refl, sym, subst, ap, arith}
use Rattle.std.proofs.lemmas.Bool.{ltb-true, ltb-false, lt-ltb, le-ltb, eqb-true, eq-eqb, ne_eqb, both_ways, and_from, and_parts}
use Rattle.std.proofs.Math.Seq.{take-length}
use Rattle.std.specs.List.{insert, list_any, find}
use Rattle.std.specs.Option.{is_some}
use Rattle.sm_defs.specs.Volume.{Snapshot}
use Rattle.sm_defs.specs.Legs.{only_newest}
use Rattle.sm_defs.specs.Missing.{insert_once}
use Rattle.oracle_lists.specs.Places.{place_of, is_at}

-- a list's others, as a pattern takes them
pub others_are : {X : Type 0} (xs : List X) → take (suc (length xs) - 1) xs ≡ xs
others_are xs = let e : suc (length xs) - 1 ≡ length xs = omega arith in rw e (take-length xs)

pub newest_of_one : (ss : List Snapshot) → length ss < 2 → only_newest ss ≡ ss
newest_of_one [] l = refl
newest_of_one (s ∷ []) l = refl
newest_of_one (s ∷ t ∷ ss) l = absurd (omega arith)

-- ---- a number in its place

pub stands_there : (t : ℕ) (us : List ℕ) → place_of t us < length us → get_or us (place_of t us) 0 ≡ t → insert_once t us ≡ us
stands_there t [] l e = absurd (omega arith)
stands_there t (u ∷ us) l e = go (nat_lt u t) refl l e (stands_there t us)
  where
    go : (b : Bool) → nat_lt u t ≡ b → cond b (suc (place_of t us)) 0 < suc (length us) → get_or (u ∷ us) (cond b (suc (place_of t us)) 0) 0 ≡ t → (place_of t us < length us → get_or us (place_of t us) 0 ≡ t → insert_once t us ≡ us) →
        insert_once t (u ∷ us) ≡ u ∷ us
    go true f l e ih = let k = ltb-true u t f in rw (ne_eqb t u (λ q. omega arith), le-ltb t u (omega arith)) (ap (λ xs. u ∷ xs) (ih (omega arith) e))
    go false f l e ih = rw (eq-eqb t u (sym e)) refl

pub put_there : (t : ℕ) (us : List ℕ) → (place_of t us < length us → ¬ (get_or us (place_of t us) 0 ≡ t)) → insert_once t us ≡ take (place_of t us) us ++ t ∷ drop (place_of t us) us
put_there t [] n = refl
put_there t (u ∷ us) n = go (nat_lt u t) refl n (put_there t us)
  where
    go : (b : Bool) → nat_lt u t ≡ b → (cond b (suc (place_of t us)) 0 < suc (length us) → ¬ (get_or (u ∷ us) (cond b (suc (place_of t us)) 0) 0 ≡ t)) →
        ((place_of t us < length us → ¬ (get_or us (place_of t us) 0 ≡ t)) → insert_once t us ≡ take (place_of t us) us ++ t ∷ drop (place_of t us) us) →
        insert_once t (u ∷ us) ≡ take (cond b (suc (place_of t us)) 0) (u ∷ us) ++ t ∷ drop (cond b (suc (place_of t us)) 0) (u ∷ us)
    go true f n ih = let k = ltb-true u t f in rw (ne_eqb t u (λ q. omega arith), le-ltb t u (omega arith)) (ap (λ xs. u ∷ xs) (ih (λ l. n (omega arith))))
    go false f n ih = let k = ltb-false u t f in let d : (t ≡ u → ⊥) = λ q. n (omega arith) (sym q) in rw (ne_eqb t u d, lt-ltb t u (omega arith)) refl

pub put_from : (t : ℕ) (us : List ℕ) (p : ℕ) → p ≡ place_of t us → is_at t us p ≡ false → insert us p t ≡ insert_once t us
put_from t us p e h = rw e (sym (put_there t us (λ l k. both_ways (is_at t us (place_of t us)) (subst (λ q. is_at t us q ≡ false) e h) (and_from (nat_lt (place_of t us) (length us)) (get_or us (place_of t us) 0 == t) (lt-ltb (place_of t us) (length us) l) (eq-eqb (get_or us (place_of t us) 0) t k)))))

pub stands_from : (t : ℕ) (us : List ℕ) (p : ℕ) → p ≡ place_of t us → is_at t us p ≡ true → us ≡ insert_once t us
stands_from t us p e h =
    let k : is_at t us (place_of t us) ≡ true = subst (λ q. is_at t us q ≡ true) e h in
    let a = and_parts (nat_lt (place_of t us) (length us)) (get_or us (place_of t us) 0 == t) k in
    sym (stands_there t us (ltb-true (place_of t us) (length us) a.0) (eqb-true (get_or us (place_of t us) 0) t a.1))
