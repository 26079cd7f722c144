-- Identities that are new one after the other differ, and those that differ are new.
use Rattle.std.proofs.Common.{◌≡◌, ℕ, ◌==◌, ◌⊎◌, Bool, true, false, List, [], ◌∷◌, ◌++◌, refl, sym, subst, ◌∙◌, inl, inr, arith}
use Rattle.std.specs.Prelude.{◌||◌, not}
use Rattle.std.specs.List.{list_any, AllByRecursion}
use Rattle.std.proofs.lemmas.Bool.{and_from, not-true, or_parts}
use Rattle.sm_base.specs.declared.numbers.Ident.{Ident}
use Rattle.sm_defs.specs.Words.{Among, KeysDiffer, same_ident}
use Rattle.sm_defs.proofs.Idents.{same_is}
use Rattle.sm_root.specs.declared.root.RootSnapshot.{RootSnapshot}
use Rattle.sm_root.specs.Condition.{ident_of}

abbrev pub known : List RootSnapshot → Ident → Bool
known before i = list_any (λ s. same_ident s.ident i) before

same_self : (i : Ident) → same_ident i i ≡ true
same_self i = and_from (i.origin == i.origin) (i.seq == i.seq) (grind arith) (grind arith)

-- no snapshot before has an identity that is new
new_differs : (before : List RootSnapshot) (i : Ident) (x : RootSnapshot) → known before i ≡ false → Among before x → ¬ (i ≡ x.ident)
new_differs [] i x new among e = absurd among
new_differs (y ∷ before) i x new (inl same) e =
    let parts = or_parts (same_ident y.ident i) (known before i) new in
    let is : same_ident y.ident i ≡ true = rw (e, same) (same_self y.ident) in
    absurd cc
new_differs (y ∷ before) i x new (inr later) e = new_differs before i x (or_parts (same_ident y.ident i) (known before i) new).1 later e

is_new : (before : List RootSnapshot) (i : Ident) → ((x : RootSnapshot) → Among before x → ¬ (i ≡ x.ident)) → known before i ≡ false
is_new [] i apart = refl
is_new (y ∷ before) i apart =
    let rest = is_new before i (λ x among. apart x (inr among)) in
    go (same_ident y.ident i) refl rest
  where
    go : (b : Bool) → same_ident y.ident i ≡ b → known before i ≡ false → (same_ident y.ident i || known before i) ≡ false
    go true e r = absurd (apart y (inl refl) (sym (same_is y.ident i e)))
    go false e r = rw (e, r) refl

pub among-push : (before : List RootSnapshot) (x y : RootSnapshot) → Among before x → Among (before ++ y ∷ []) x
among-push [] x y among = absurd among
among-push (z ∷ before) x y (inl same) = inl same
among-push (z ∷ before) x y (inr later) = inr (among-push before x y later)

pub among-last : (before : List RootSnapshot) (y : RootSnapshot) → Among (before ++ y ∷ []) y
among-last [] y = inl refl
among-last (z ∷ before) y = inr (among-last before y)

-- each is new behind those before it
abbrev pub NewInTurn : List RootSnapshot → List RootSnapshot → Type 0
NewInTurn before [] = Unit {0}
NewInTurn before (s ∷ ss) = (not (known before s.ident) ≡ true) × NewInTurn (before ++ s ∷ []) ss

others_differ : (before ss : List RootSnapshot) (x : RootSnapshot) → NewInTurn before ss → Among before x → AllByRecursion (λ y. ¬ (ident_of y ≡ ident_of x)) ss
others_differ before [] x new among = tt
others_differ before (y ∷ ss) x new among = (new_differs before y.ident x (not-true (known before y.ident) new.0) among, others_differ (before ++ y ∷ []) ss x new.1 (among-push before x y among))

pub differ_of : (before ss : List RootSnapshot) → NewInTurn before ss → KeysDiffer ident_of ss
differ_of before [] new = tt
differ_of before (s ∷ ss) new = (others_differ (before ++ s ∷ []) ss s new.1 (among-last before s), differ_of (before ++ s ∷ []) ss new.1)

among_push_cases : (before : List RootSnapshot) (x y : RootSnapshot) → Among (before ++ y ∷ []) x → Among before x ⊎ (x ≡ y)
among_push_cases [] x y (inl same) = inr same
among_push_cases [] x y (inr later) = absurd later
among_push_cases (z ∷ before) x y (inl same) = inl (inl same)
among_push_cases (z ∷ before) x y (inr later) = elim (among_push_cases before x y later) [ inl there ↦ inl (inr there) | inr same ↦ inr same ]

pub new_of : (before ss : List RootSnapshot) → ((x : RootSnapshot) → Among before x → AllByRecursion (λ y. ¬ (ident_of y ≡ ident_of x)) ss) → KeysDiffer ident_of ss → NewInTurn before ss
new_of before [] apart differ = tt
new_of before (s ∷ ss) apart differ =
    let new : known before s.ident ≡ false = is_new before s.ident (λ x among. (apart x among).0) in
    (rw new refl, new_of (before ++ s ∷ []) ss (λ x among. next_apart x (among_push_cases before x s among)) differ.1)
  where
    next_apart : (x : RootSnapshot) → Among before x ⊎ (x ≡ s) → AllByRecursion (λ y. ¬ (ident_of y ≡ ident_of x)) ss
    next_apart x (inl among) = (apart x among).1
    next_apart x (inr same) = subst (λ z. AllByRecursion (λ y. ¬ (ident_of y ≡ ident_of z)) ss) (sym same) differ.0
