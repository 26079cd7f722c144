-- Lists of numbers that each stand once, and grow at their end.
use Rattle.std.proofs.Common.{◌≡◌, ◌≤◌, ◌⊎◌, ℕ, zero, suc, Bool, true, false, cond, List, [], ◌∷◌, ◌++◌, length, Some, nat_eq, refl, sym, ap, subst, ◌∙◌, inl, inr, append_assoc, append-nil, arith}
use Rattle.std.proofs.lemmas.Bool.{eqb-true}
use Rattle.std.specs.List.{list_any}
use Rattle.std.specs.Prelude.{slice_get}
use Rattle.indexmap.specs.IndexSet.{insert_key, insert_all}
use Rattle.sm_defs.specs.Words.{Among}
use Rattle.sm_defs.proofs.Members.{among_any, among_append, among_left, among_right}

-- new members stand behind the others, each is one of xs, and each of xs stands there now
pub record Grows (ks xs new : List ℕ) : Type 0 where
  pub more : List ℕ
  pub is : new ≡ ks ++ more
  pub each : (y : ℕ) → Among more y → Among xs y
  pub all : (y : ℕ) → Among xs y → Among new y

pub among_here : (ks : List ℕ) (k : ℕ) → list_any (nat_eq k) ks ≡ true → Among ks k
among_here ks k e = let (x, m, q) = among_any (nat_eq k) ks e in subst (Among ks) (sym (eqb-true k x q)) m

grows_key : (ks : List ℕ) (k : ℕ) → Grows ks (k ∷ []) (insert_key nat_eq ks k)
grows_key ks k = go (list_any (nat_eq k) ks) refl
  where
    go : (b : Bool) → list_any (nat_eq k) ks ≡ b → Grows ks (k ∷ []) (cond b ks (ks ++ k ∷ []))
    go true e = record { more = []; is = sym (append-nil ks); each = λ y m. absurd m; all = here }
      where
        here : (y : ℕ) → Among (k ∷ []) y → Among ks y
        here y (inl same) = subst (Among ks) (sym same) (among_here ks k e)
        here y (inr m) = absurd m
    go false e = record { more = k ∷ []; is = refl; each = λ y m. m; all = λ y m. among_right ks (k ∷ []) y m }

pub grows_all : (ks xs : List ℕ) → Grows ks xs (insert_all nat_eq ks xs)
grows_all ks [] = record { more = []; is = sym (append-nil ks); each = λ y m. m; all = λ y m. absurd m }
grows_all ks (x ∷ xs) = go (grows_key ks x) (grows_all (insert_key nat_eq ks x) xs)
  where
    go : Grows ks (x ∷ []) (insert_key nat_eq ks x) → Grows (insert_key nat_eq ks x) xs (insert_all nat_eq ks (x ∷ xs)) → Grows ks (x ∷ xs) (insert_all nat_eq ks (x ∷ xs))
    go a b = record { more = a.more ++ b.more; is = b.is ∙ (ap (λ l. l ++ b.more) a.is ∙ append_assoc ks a.more b.more); each = each_of; all = all_of }
      where
        first_of : (y : ℕ) → Among (x ∷ []) y → Among (x ∷ xs) y
        first_of y (inl e) = inl e
        first_of y (inr m) = absurd m

        one_of : (y : ℕ) → Among a.more y ⊎ Among b.more y → Among (x ∷ xs) y
        one_of y (inl m) = first_of y (a.each y m)
        one_of y (inr m) = inr (b.each y m)

        each_of : (y : ℕ) → Among (a.more ++ b.more) y → Among (x ∷ xs) y
        each_of y m = one_of y (among_append a.more b.more y m)

        all_of : (y : ℕ) → Among (x ∷ xs) y → Among (insert_all nat_eq ks (x ∷ xs)) y
        all_of y (inl e) = subst (λ l. Among l y) (sym b.is) (among_left (insert_key nat_eq ks x) b.more y (a.all y (inl e)))
        all_of y (inr m) = b.all y m

-- what stands at a place of a list that grew
pub get_grown : (ks more : List ℕ) (i x : ℕ) → slice_get (ks ++ more) i ≡ Some x → (slice_get ks i ≡ Some x) ⊎ ((length ks ≤ i) × Among more x)
get_grown [] more i x e = inr (omega arith, among_at more i x e)
  where
    among_at : (ms : List ℕ) (i x : ℕ) → slice_get ms i ≡ Some x → Among ms x
    among_at [] i x e = absurd (cc)
    among_at (m ∷ ms) zero x e = inl (cc)
    among_at (m ∷ ms) (suc i) x e = inr (among_at ms i x e)
get_grown (k ∷ ks) more zero x e = inl e
get_grown (k ∷ ks) more (suc i) x e = go (get_grown ks more i x e)
  where
    go : (slice_get ks i ≡ Some x) ⊎ ((length ks ≤ i) × Among more x) → (slice_get ks i ≡ Some x) ⊎ ((suc (length ks) ≤ suc i) × Among more x)
    go (inl s) = inl s
    go (inr (l, m)) = inr (omega arith, m)

-- a member stands at some place
pub place_among : (ks : List ℕ) (x : ℕ) → Among ks x → (i : ℕ) × (slice_get ks i ≡ Some x)
place_among [] x m = absurd m
place_among (k ∷ ks) x (inl e) = (0, ap Some (sym e))
place_among (k ∷ ks) x (inr m) = let (i, s) = place_among ks x m in (suc i, s)
