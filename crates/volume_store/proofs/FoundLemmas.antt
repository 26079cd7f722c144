-- A snapshot is looked up.
use Rattle.std.proofs.Common.{◌≡◌, inl, inr, ℕ, suc, ◌+◌, List, [], ◌∷◌, length, take, Bool, true, false, not, ◌||◌, ◌==◌, cond, ltb, Option, None, Some, MatchOption, Result, Ok, Err, IfOk, refl, sym, ◌∙◌, ap, subst, arith}
use Rattle.std.proofs.lemmas.Bool.{cases_Bool, false≢true, cases_lt}
use Rattle.std.proofs.lemmas.Bool.Decides.{nat_tests}
use Rattle.std.proofs.lemmas.List.{take_all}
use Rattle.std.specs.List.{list_any, find, position, position_or_len}
use Rattle.sm_base.specs.declared.numbers.Ident.{Ident}
use Rattle.sm_defs.specs.Words.{Among, same_ident, up_to}
use Rattle.sm_root.specs.declared.root.RootSnapshot.{RootSnapshot}

-- what `find` tells
abbrev pub Tells : {X : Type 0} → (X → Bool) → List X → Option X → Type 0
Tells {X} p xs o = MatchOption o (list_any p xs ≡ false) (λ (x : X). Among xs x × (list_any p xs ≡ true))

pub find_tells : {X : Type 0} (p : X → Bool) (xs : List X) → Tells p xs (find p xs)
find_tells p [] = refl
find_tells p (x ∷ xs) = elim (cases_Bool (p x)) [
  | inl here ↦ subst (λ b. MatchOption (cond b (Some x) (find p xs)) ((b || list_any p xs) ≡ false) (λ y. Among (x ∷ xs) y × ((b || list_any p xs) ≡ true))) (sym here) (inl refl, refl)
  | inr there ↦ subst (λ b. MatchOption (cond b (Some x) (find p xs)) ((b || list_any p xs) ≡ false) (λ y. Among (x ∷ xs) y × ((b || list_any p xs) ≡ true))) (sym there) (later (find p xs) (find_tells p xs))
]
  where
    later : (o : Option _) → Tells p xs o → MatchOption o (list_any p xs ≡ false) (λ y. Among (x ∷ xs) y × (list_any p xs ≡ true))
    later None none = none
    later (Some y) some = (inr some.0, some.1)

pub up_to_is : {X : Type 0} (p : X → Bool) (xs : List X) → up_to p xs ≡ take (suc (position_or_len p xs)) xs
up_to_is p [] = refl
up_to_is p (x ∷ xs) = elim (cases_Bool (p x)) [
  | inl here ↦ subst (λ b. cond b (x ∷ []) (x ∷ up_to p xs) ≡ x ∷ take (cond (not b) (1 + position_or_len p xs) 0) xs) (sym here) refl
  | inr there ↦ subst (λ b. cond b (x ∷ []) (x ∷ up_to p xs) ≡ x ∷ take (cond (not b) (1 + position_or_len p xs) 0) xs) (sym there)
      (let e : suc (position_or_len p xs) ≡ 1 + position_or_len p xs = omega arith in ap (λ l. x ∷ l) (up_to_is p xs) ∙ ap (λ n. x ∷ take n xs) e)
]

-- the count of those up to the place that was found
pub kept_to : {X : Type 0} (p : X → Bool) (xs : List X) (found : Option ℕ) → found ≡ position p xs → MatchOption found (take (length xs) xs ≡ up_to p xs) (λ at. take (at + 1) xs ≡ up_to p xs)
kept_to p xs None is = elim (cases_lt (position_or_len p xs) (length xs)) [
  | inl less ↦ let t : ltb (position_or_len p xs) (length xs) ≡ true = grind (arith, nat_tests) in absurd (none_some (is ∙ ap (λ b. cond b (Some (position_or_len p xs)) None) t))
  | inr past ↦ take_all (length xs) xs (omega arith) ∙ sym (up_to_is p xs ∙ take_all (suc (position_or_len p xs)) xs (omega arith))
]
  where
    none_some : {n : ℕ} → None ≡ Some n → ⊥
    none_some e = cc
kept_to p xs (Some at) is = elim (cases_lt (position_or_len p xs) (length xs)) [
  | inl less ↦
      let t : ltb (position_or_len p xs) (length xs) ≡ true = grind (arith, nat_tests) in
      let whole : Some at ≡ Some (position_or_len p xs) = is ∙ ap (λ b. cond b (Some (position_or_len p xs)) None) t in
      let same : at ≡ position_or_len p xs = cc in
      let e : at + 1 ≡ suc (position_or_len p xs) = omega arith in
      ap (λ n. take n xs) e ∙ sym (up_to_is p xs)
  | inr past ↦ let t : ltb (position_or_len p xs) (length xs) ≡ false = grind (arith, nat_tests) in absurd (some_none (is ∙ ap (λ b. cond b (Some (position_or_len p xs)) None) t))
]
  where
    some_none : {n : ℕ} → Some n ≡ None → ⊥
    some_none e = cc

pub if_ok_more : {T E : Type 0} (r : Result T E) (P Q : T → Type 0) → ((x : T) → P x → Q x) → IfOk r P → IfOk r Q
if_ok_more (Ok x) P Q more is = more x is
if_ok_more (Err e) P Q more is = tt

same_self : (i : Ident) → same_ident i i ≡ true
same_self i =
    let origin : (i.origin == i.origin) ≡ true = grind (arith, nat_tests) in
    let seq : (i.seq == i.seq) ≡ true = grind (arith, nat_tests) in
    rw (origin, seq) refl

-- no snapshot has an identity that stands nowhere
pub nowhere : (i : Ident) (ss : List RootSnapshot) → list_any (λ (s : RootSnapshot). same_ident s.ident i) ss ≡ false → (s : RootSnapshot) → Among ss s → ¬ (s.ident ≡ i)
nowhere i [] h s a e = a
nowhere i (t ∷ ss) h s (inl a) e =
    let first = not_first (same_ident t.ident i) (list_any (λ (u : RootSnapshot). same_ident u.ident i) ss) h in
    let is : t.ident ≡ i = sym (ap (λ (u : RootSnapshot). u.ident) a) ∙ e in
    absurd (false≢true (sym first ∙ ap (λ (j : Ident). same_ident j i) is ∙ same_self i))
  where
    not_first : (x y : Bool) → (x || y) ≡ false → x ≡ false
    not_first false y none = refl
    not_first true y none = absurd (cc)
nowhere i (t ∷ ss) h s (inr a) e = nowhere i ss (not_later (same_ident t.ident i) (list_any (λ (u : RootSnapshot). same_ident u.ident i) ss) h) s a e
  where
    not_later : (x y : Bool) → (x || y) ≡ false → y ≡ false
    not_later false y none = none
    not_later true y none = absurd (cc)
