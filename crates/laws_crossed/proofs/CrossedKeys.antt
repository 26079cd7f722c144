-- Keys of relationships still differ where one came, or all were restarted.
use Rattle.std.proofs.Common.{◌≡◌, ◌⊎◌, ℕ, Bool, true, false, cond, List, [], ◌∷◌, ◌++◌, map, Option, Some, None, refl, sym, ◌∙◌, ap, subst, inl, inr}
use Rattle.std.specs.List.{filter_map, cons_option}
use Rattle.std.proofs.lemmas.Option.{same_Some}
use Rattle.sm_defs.specs.Words.{Among}
use Rattle.sm_defs.specs.Relationship.{Relationship}
use Rattle.sm_defs.proofs.Keys.{differ_push}
use Rattle.laws_crossed.proofs.CrossedParts.{Differ, dest_key}

-- one without a key came
pub keys_push_none : {X : Type 0} (f : X → Option ℕ) (xs : List X) (q : X) → f q ≡ None → filter_map f (xs ++ q ∷ []) ≡ filter_map f xs
keys_push_none f [] q e = ap (λ o. cons_option o []) e
keys_push_none f (x ∷ xs) q e = ap (cons_option (f x)) (keys_push_none f xs q e)

cons_append : (o : Option ℕ) (ns ms : List ℕ) → cons_option o (ns ++ ms) ≡ cons_option o ns ++ ms
cons_append None ns ms = refl
cons_append (Some n) ns ms = refl

keys_push : {X : Type 0} (f : X → Option ℕ) (xs : List X) (q : X) (n : ℕ) → f q ≡ Some n → filter_map f (xs ++ q ∷ []) ≡ filter_map f xs ++ n ∷ []
keys_push f [] q n e = ap (λ o. cons_option o []) e
keys_push f (x ∷ xs) q n e = ap (cons_option (f x)) (keys_push f xs q n e) ∙ cons_append (f x) (filter_map f xs) (n ∷ [])

-- one came with a key that no other has
pub keys_push_new : {X : Type 0} (f : X → Option ℕ) (xs : List X) (q : X) (n : ℕ) → f q ≡ Some n → ((m : ℕ) → Among (filter_map f xs) m → ¬ (m ≡ n)) → Differ (filter_map f xs) → Differ (filter_map f (xs ++ q ∷ []))
keys_push_new f xs q n e h d = subst Differ (sym (keys_push f xs q n e)) (differ_push (λ (m : ℕ). m) (filter_map f xs) n d h)

-- each key is that of an element
pub key_from : {X : Type 0} (f : X → Option ℕ) (xs : List X) (n : ℕ) → Among (filter_map f xs) n → (x : X) × Among xs x × (f x ≡ Some n)
key_from f [] n m = absurd m
key_from {X} f (x ∷ xs) n m = go (f x) refl m (key_from f xs n)
  where
    go : (o : Option ℕ) → f x ≡ o → Among (cons_option o (filter_map f xs)) n → (Among (filter_map f xs) n → (y : X) × Among xs y × (f y ≡ Some n)) → (y : X) × Among (x ∷ xs) y × (f y ≡ Some n)
    go None e k ih = let (y, l, g) = ih k in (y, inr l, g)
    go (Some z) e (inl i) ih = (x, inl refl, e ∙ ap Some (sym i))
    go (Some z) e (inr k) ih = let (y, l, g) = ih k in (y, inr l, g)

pub keys_mapped : {X : Type 0} (f : X → Option ℕ) (g : X → X) (xs : List X) → ((x : X) → f (g x) ≡ f x) → filter_map f (map g xs) ≡ filter_map f xs
keys_mapped f g [] h = refl
keys_mapped f g (x ∷ xs) h = ap (λ o. cons_option o (filter_map f (map g xs))) (h x) ∙ ap (cons_option (f x)) (keys_mapped f g xs h)

pub dest_is : (r : Relationship) (n : ℕ) → dest_key r ≡ Some n → (r.destination_half ≡ true) × (r.destination ≡ n)
dest_is r n = go r.destination_half
  where
    go : (b : Bool) → ◌≡◌ {A = Option ℕ} (cond b (Some r.destination) None) (Some n) → (b ≡ true) × (r.destination ≡ n)
    go true e = (refl, same_Some r.destination n e)
    go false e = absurd (cc)
