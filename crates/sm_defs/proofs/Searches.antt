-- What a search for the first that passes finds.
use Rattle.std.proofs.Common.{◌≡◌, ◌⊎◌, ◌<◌, ◌≤◌, ℕ, suc, ◌+◌, ◌||◌, nat_lt, not, Bool, true, false, cond, List, [], ◌∷◌, ◌++◌, length, reverse, position, get_or, Option, Some, None, refl, ap, sym, subst, ◌∙◌, inl, inr, true≢false, arith}
use Rattle.std.proofs.lemmas.Bool.Decides.{nat_tests}
use Rattle.std.proofs.lemmas.Option.{same_Some, slice_get_within, get_or_from_slice_get}
use Rattle.std.specs.Prelude.{slice_get, slice_index_or}
use Rattle.std.proofs.lemmas.List.{reverse-append}
use Rattle.std.proofs.lemmas.List.Folds.{find-append}
use Rattle.std.specs.List.{list_any, find, prefix_len}
use Rattle.std.specs.Option.{is_some, option_or}
use Rattle.sm_defs.specs.Words.{Among, Found, found, next_place, last_that, or_earlier}
use Rattle.sm_defs.proofs.Members.{get_among}

get_go : {X : Type 0} (x : X) (xs : List X) (b : Bool) (o : Option (Found X)) (f : Found X) → cond b (Some (record { at = 0; item = x })) (next_place o) ≡ Some f →
    ((g : Found X) → o ≡ Some g → slice_get xs g.at ≡ Some g.item) → slice_get (x ∷ xs) f.at ≡ Some f.item
get_go x xs true o f e h = subst (λ f. slice_get (x ∷ xs) f.at ≡ Some f.item) (same_Some _ f e) refl
get_go x xs false None f e h = absurd (cc)
get_go x xs false (Some g) f e h = subst (λ f. slice_get (x ∷ xs) f.at ≡ Some f.item) (same_Some _ f e) (h g refl)

-- what was found stands at its place
pub get_found : {X : Type 0} (p : X → Bool) (xs : List X) (f : Found X) → found p xs ≡ Some f → slice_get xs f.at ≡ Some f.item
get_found p [] f e = absurd (cc)
get_found p (x ∷ xs) f e = get_go x xs (p x) (found p xs) f e (λ g. get_found p xs g)

passes_go : {X : Type 0} (p : X → Bool) (x : X) (b : Bool) (o : Option (Found X)) (f : Found X) → p x ≡ b → cond b (Some (record { at = 0; item = x })) (next_place o) ≡ Some f →
    ((g : Found X) → o ≡ Some g → p g.item ≡ true) → p f.item ≡ true
passes_go p x true o f h e k = subst (λ f. p f.item ≡ true) (same_Some _ f e) h
passes_go p x false None f h e k = absurd (cc)
passes_go p x false (Some g) f h e k = subst (λ f. p f.item ≡ true) (same_Some _ f e) (k g refl)

pub found_passes : {X : Type 0} (p : X → Bool) (xs : List X) (f : Found X) → found p xs ≡ Some f → p f.item ≡ true
found_passes p [] f e = absurd (cc)
found_passes p (x ∷ xs) f e = passes_go p x (p x) (found p xs) f refl e (λ g. found_passes p xs g)

pub found_among : {X : Type 0} (p : X → Bool) (xs : List X) (f : Found X) → found p xs ≡ Some f → Among xs f.item
found_among p xs f e = get_among xs f.at f.item (get_found p xs f e)

pub found_at : {X : Type 0} (p : X → Bool) (xs : List X) (f : Found X) (d : X) → found p xs ≡ Some f → slice_index_or xs f.at d ≡ f.item
found_at p xs f d e = get_or_from_slice_get xs f.at f.item d (get_found p xs f e)

pub found_within : {X : Type 0} (p : X → Bool) (xs : List X) (f : Found X) → found p xs ≡ Some f → f.at < length xs
found_within p xs f e = slice_get_within xs f.at f.item (get_found p xs f e)

none_go : {X : Type 0} (p : X → Bool) (y x : X) (xs : List X) (b : Bool) (o : Option (Found X)) → p y ≡ b → cond b (Some (record { at = 0; item = y })) (next_place o) ≡ None → (o ≡ None → Among xs x → p x ≡ false) → (x ≡ y) ⊎ Among xs x → p x ≡ false
none_go p y x xs true o e f h m = absurd (cc)
none_go p y x xs false (Some g) e f h m = absurd (cc)
none_go p y x xs false None e f h (inl i) = ap p i ∙ e
none_go p y x xs false None e f h (inr m) = h refl m

-- where none was found none passes
pub found_none : {X : Type 0} (p : X → Bool) (xs : List X) (x : X) → found p xs ≡ None → Among xs x → p x ≡ false
found_none p [] x e m = absurd m
found_none p (y ∷ xs) x e m = none_go p y x xs (p y) (found p xs) refl e (found_none p xs x) m

find_go : {X : Type 0} (p : X → Bool) (z : X) (xs : List X) (x : X) (b : Bool) → p z ≡ b → cond b (Some z) (find p xs) ≡ Some x → (find p xs ≡ Some x → Among xs x × (p x ≡ true)) → Among (z ∷ xs) x × (p x ≡ true)
find_go p z xs x true e f h = (inl (sym (same_Some z x f)), subst (λ y. p y ≡ true) (same_Some z x f) e)
find_go p z xs x false e f h = let q = h f in (inr q.0, q.1)

pub find_is : {X : Type 0} (p : X → Bool) (xs : List X) (x : X) → find p xs ≡ Some x → Among xs x × (p x ≡ true)
find_is p [] x e = absurd (cc)
find_is p (z ∷ xs) x e = find_go p z xs x (p z) refl e (find_is p xs x)

find_none_go : {X : Type 0} (b : Bool) (r : X) (o : Option X) (c : Bool) → cond b (Some r) o ≡ None → (o ≡ None → c ≡ false) → (b || c) ≡ false
find_none_go true r o c e h = absurd (cc)
find_none_go false r o c e h = h e

pub find_none : {X : Type 0} (p : X → Bool) (xs : List X) → find p xs ≡ None → list_any p xs ≡ false
find_none p [] e = refl
find_none p (x ∷ xs) e = find_none_go (p x) x (find p xs) (list_any p xs) e (find_none p xs)

pub find_any : {X : Type 0} (p : X → Bool) (xs : List X) → list_any p xs ≡ true → (x : X) × (find p xs ≡ Some x)
find_any {X} p xs e = go (find p xs) refl
  where
    go : (o : Option X) → find p xs ≡ o → (x : X) × (find p xs ≡ Some x)
    go None is = absurd (true≢false (sym e ∙ find_none p xs is))
    go (Some x) is = (x, is)

-- a list with a member that passes has a first one
pub any_found : {X : Type 0} (p : X → Bool) (xs : List X) → list_any p xs ≡ is_some (find p xs)
any_found p [] = refl
any_found p (x ∷ xs) = go (p x) (any_found p xs)
  where
    go : (b : Bool) → list_any p xs ≡ is_some (find p xs) → (b || list_any p xs) ≡ is_some (cond b (Some x) (find p xs))
    go true e = refl
    go false e = e

-- ---- from behind

found_or : {X : Type 0} (b : Bool) (x : X) (o : Option X) → option_or o (cond b (Some x) None) ≡ or_earlier o b x
found_or true x None = refl
found_or false x None = refl
found_or b x (Some y) = refl

-- the first from behind is the last that passes
pub newest_is : {X : Type 0} (p : X → Bool) (xs : List X) → find p (reverse xs) ≡ last_that p xs
newest_is p [] = refl
newest_is p (x ∷ xs) =
    let split : reverse (x ∷ xs) ≡ reverse xs ++ x ∷ [] = reverse-append (x ∷ []) xs in
    rw (split, find-append p (reverse xs) (x ∷ []), newest_is p xs) (found_or (p x) x (last_that p xs))

-- ---- by a position

-- the first that passes, or none
found_by : {X : Type 0} (b : Bool) (x : X) (xs : List X) (m k : ℕ) (d : X) (o : Option (Found X)) → cond (not b) (1 + m) 0 ≡ k → (m < length xs → o ≡ Some (record { at = m; item = get_or xs m d })) →
    k < suc (length xs) → cond b (Some (record { at = 0; item = x })) (next_place o) ≡ Some (record { at = k; item = get_or (x ∷ xs) k d })
found_by true x xs m k d o e h less = rw (← e) refl
found_by false x xs m k d o e h less =
    let s : suc m ≡ k = omega arith in
    let there = h (omega arith) in
    rw (← s) (ap next_place there)

pub found_first : {X : Type 0} (p : X → Bool) (xs : List X) (k : ℕ) (d : X) → prefix_len (λ x. not (p x)) xs ≡ k → k < length xs → found p xs ≡ Some (record { at = k; item = get_or xs k d })
found_first p [] k d e h = absurd (omega arith)
found_first p (x ∷ xs) k d e h = found_by (p x) x xs (prefix_len (λ y. not (p y)) xs) k d (found p xs) e (λ less. found_first p xs (prefix_len (λ y. not (p y)) xs) d refl less) h

none_by : {X : Type 0} (b : Bool) (x : X) (m l : ℕ) (o : Option (Found X)) → suc l ≤ cond (not b) (1 + m) 0 → (l ≤ m → o ≡ None) → cond b (Some (record { at = 0; item = x })) (next_place o) ≡ None
none_by true x m l o h f = absurd (omega arith)
none_by false x m l o h f = ap next_place (f (omega arith))

pub none_found : {X : Type 0} (p : X → Bool) (xs : List X) → length xs ≤ prefix_len (λ x. not (p x)) xs → found p xs ≡ None
none_found p [] h = refl
none_found p (x ∷ xs) h = none_by (p x) x (prefix_len (λ y. not (p y)) xs) (length xs) (found p xs) h (none_found p xs)

pub no_place : (m l : ℕ) (b : Bool) → nat_lt m l ≡ b → cond b (Some m) None ≡ None → l ≤ m
no_place m l true e h = absurd (cc)
no_place m l false e h = grind (arith, nat_tests)

pub a_place : (m l k : ℕ) (b : Bool) → nat_lt m l ≡ b → cond b (Some m) None ≡ Some k → (m ≡ k) × (k < l)
a_place m l k true e h = let same : m ≡ k = cc in let less : m < l = grind (arith, nat_tests) in (same, omega arith)
a_place m l k false e h = absurd (cc)

-- a position is the place of the first that passes
pub found_by_position : {X : Type 0} (p : X → Bool) (xs : List X) (k : ℕ) (d : X) → position p xs ≡ Some k → (found p xs ≡ Some (record { at = k; item = get_or xs k d })) × (k < length xs)
found_by_position p xs k d e =
    let h = a_place (prefix_len (λ y. not (p y)) xs) (length xs) k (nat_lt (prefix_len (λ y. not (p y)) xs) (length xs)) refl e in
    (found_first p xs k d h.0 h.1, h.1)

-- without one nothing is found
pub none_by_position : {X : Type 0} (p : X → Bool) (xs : List X) → position p xs ≡ None → found p xs ≡ None
none_by_position p xs e = none_found p xs (no_place (prefix_len (λ y. not (p y)) xs) (length xs) (nat_lt (prefix_len (λ y. not (p y)) xs) (length xs)) refl e)
