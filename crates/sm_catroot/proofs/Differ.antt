-- Lists each of whose members is tested behind those before it.
use Rattle.std.proofs.Common.{◌≡◌, ◌⊎◌, ℕ, ◌<◌, true, List, [], ◌∷◌, ◌++◌, map, refl, sym, subst, inl, inr, arith}
use Rattle.std.specs.Prelude.{not}
use Rattle.std.specs.List.{list_any, AllByRecursion}
use Rattle.std.specs.Str.{bytes_eq}
use Rattle.std.proofs.lemmas.Bool.{not-true, cases_Bool}
use Rattle.std.proofs.lemmas.Slice.Eq.{bytes_eq-Decides}
use Rattle.sm_defs.specs.Words.{Among, KeysDiffer, Ascends}
use Rattle.sm_defs.proofs.Members.{among_last, among_left, among_push, any_among, among_any}
use Rattle.sm_fields.specs.Grammar.{AllInTurn}
use Rattle.sm_relation.specs.declared.relation.Relation.{Relation}
use Rattle.sm_catroot.specs.Layout.{last_number}
use Rattle.sm_catroot.specs.Condition.{number_of}

module _ {X : Type 0} (Fits : List X → X → Type 0) (Is : X → Type 0) where
  -- what holds of each that fits
  pub each_of : ((before : List X) (x : X) → Fits before x → Is x) → (before xs : List X) → AllInTurn Fits before xs → (x : X) → Among xs x → Is x
  each_of is before [] all x among = absurd among
  each_of is before (y ∷ xs) all x (inl same) = subst Is (sym same) (is before y all.0)
  each_of is before (y ∷ xs) all x (inr later) = each_of is (before ++ y ∷ []) xs all.1 x later

  module _ {K : Type 0} (key : X → K) where
    others_differ : ((before : List X) (x : X) → Fits before x → (y : X) → Among before y → ¬ (key x ≡ key y)) → (before xs : List X) (y : X) → AllInTurn Fits before xs → Among before y → AllByRecursion (λ x. ¬ (key x ≡ key y)) xs
    others_differ apart before [] y all among = tt
    others_differ apart before (x ∷ xs) y all among = (apart before x all.0 y among, others_differ apart (before ++ x ∷ []) xs y all.1 (among_left before (x ∷ []) y among))

    pub differ_of : ((before : List X) (x : X) → Fits before x → (y : X) → Among before y → ¬ (key x ≡ key y)) → (before xs : List X) → AllInTurn Fits before xs → KeysDiffer key xs
    differ_of apart before [] all = tt
    differ_of apart before (x ∷ xs) all = (others_differ apart (before ++ x ∷ []) xs x all.1 (among_last before x), differ_of apart (before ++ x ∷ []) xs all.1)

    pub in_turn_of : ((before : List X) (x : X) → Is x → ((y : X) → Among before y → ¬ (key x ≡ key y)) → Fits before x)
        → (before xs : List X) → ((x : X) → Among xs x → Is x) → KeysDiffer key xs → ((y : X) → Among before y → AllByRecursion (λ x. ¬ (key x ≡ key y)) xs) → AllInTurn Fits before xs
    in_turn_of fit before [] each differ apart = tt
    in_turn_of fit before (x ∷ xs) each differ apart = (
      fit before x (each x (inl refl)) (λ y among. (apart y among).0),
      in_turn_of fit (before ++ x ∷ []) xs (λ y among. each y (inr among)) differ.1 (λ y among. next y (among_push before x y among)),
    )
      where
        next : (y : X) → Among before y ⊎ (y ≡ x) → AllByRecursion (λ z. ¬ (key z ≡ key y)) xs
        next y (inl among) = (apart y among).1
        next y (inr same) = subst (λ w. AllByRecursion (λ z. ¬ (key z ≡ key w)) xs) (sym same) differ.0

-- a text that is the key of none before
module _ {X : Type 0} (key : X → List ℕ) where
  pub free_differs : (before : List X) (t : List ℕ) → not (list_any (λ x. bytes_eq (key x) t) before) ≡ true → (y : X) → Among before y → ¬ (t ≡ key y)
  free_differs before t free y among same =
      let none = not-true (list_any (λ x. bytes_eq (key x) t) before) free in
      let some : list_any (λ x. bytes_eq (key x) t) before ≡ true = any_among (λ x. bytes_eq (key x) t) before y among ((bytes_eq-Decides (key y) t).1 (sym same)) in
      absurd cc

  pub differs_free : (before : List X) (t : List ℕ) → ((y : X) → Among before y → ¬ (t ≡ key y)) → not (list_any (λ x. bytes_eq (key x) t) before) ≡ true
  differs_free before t apart = elim (cases_Bool (list_any (λ x. bytes_eq (key x) t) before)) [
    | inl some ↦ (let found = among_any (λ x. bytes_eq (key x) t) before some in absurd (apart found.0 found.1 (sym ((bytes_eq-Decides (key found.0) t).0 found.2))))
    | inr none ↦ rw none refl
  ]

-- ---- numbers that ascend

pub last_push : (before : List Relation) (r : Relation) → last_number (before ++ r ∷ []) ≡ r.number.0
last_push [] r = refl
last_push (x ∷ []) r = refl
last_push (x ∷ y ∷ before) r = last_push (y ∷ before) r

above : (a b : ℕ) → a < b → (ns : List ℕ) → AllByRecursion (λ n. b < n) ns → AllByRecursion (λ n. a < n) ns
above a b lt [] all = tt
above a b lt (n ∷ ns) all = (let l = all.0 in omega (arith, lt, l), above a b lt ns all.1)

module _ (Fits : List Relation → Relation → Type 0) where
  pub ascends_of : ((before : List Relation) (r : Relation) → Fits before r → last_number before < r.number.0) → (before rs : List Relation) → AllInTurn Fits before rs
      → AllByRecursion (λ n. last_number before < n) (map number_of rs) × Ascends (map number_of rs)
  ascends_of more before [] all = (tt, tt)
  ascends_of more before (r ∷ rs) all =
      let rest = ascends_of more (before ++ r ∷ []) rs all.1 in
      let behind = subst (λ (m : ℕ). AllByRecursion (λ n. m < n) (map number_of rs)) (last_push before r) rest.0 in
      let here = more before r all.0 in
      ((here, above (last_number before) r.number.0 here (map number_of rs) behind), (behind, rest.1))

  pub in_turn_above : (Is : Relation → Type 0) → ((before : List Relation) (r : Relation) → Is r → last_number before < r.number.0 → Fits before r) → (before rs : List Relation) → ((r : Relation) → Among rs r → Is r)
      → AllByRecursion (λ n. last_number before < n) (map number_of rs) → Ascends (map number_of rs) → AllInTurn Fits before rs
  in_turn_above Is fit before [] each more up = tt
  in_turn_above Is fit before (r ∷ rs) each more up = (
    fit before r (each r (inl refl)) more.0,
    in_turn_above Is fit (before ++ r ∷ []) rs (λ x among. each x (inr among)) (subst (λ (m : ℕ). AllByRecursion (λ n. m < n) (map number_of rs)) (sym (last_push before r)) up.0) up.1,
  )
