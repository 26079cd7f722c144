-- What is told of snapshots by their identities alone.
use Rattle.std.proofs.Common.{◌≡◌, ◌||◌, Bool, true, false, cond, List, [], ◌∷◌, ◌++◌, map, reverse, Option, Some, None, refl, sym, ◌∙◌, ap}
use Rattle.std.specs.List.{list_any, find}
use Rattle.std.specs.Option.{option_map, option_or}
use Rattle.std.proofs.lemmas.List.{reverse-append}
use Rattle.std.proofs.lemmas.List.Folds.{find-append}
use Rattle.sm_base.specs.declared.numbers.Ident.{Ident}
use Rattle.sm_defs.specs.Words.{same_ident, has_ident, last_that, or_earlier, after}
use Rattle.sm_defs.specs.Volume as volumes
use Rattle.sm_defs.specs.Common.{common}
use Rattle.sm_defs.proofs.Searches.{newest_is}
use Rattle.sm_root.specs.declared.root.RootSnapshot.{RootSnapshot}
use Rattle.sm_root.specs.Condition.{ident_of}

any-mapped : {X Y : Type 0} (f : X → Y) (q : Y → Bool) (xs : List X) → list_any (λ x. q (f x)) xs ≡ list_any q (map f xs)
any-mapped f q [] = refl
any-mapped f q (x ∷ xs) = ap (λ b. q (f x) || b) (any-mapped f q xs)

earlier-mapped : {X Y : Type 0} (f : X → Y) (o : Option X) (b : Bool) (x : X) → option_map f (or_earlier o b x) ≡ or_earlier (option_map f o) b (f x)
earlier-mapped f (Some y) b x = refl
earlier-mapped f None true x = refl
earlier-mapped f None false x = refl

last-mapped : {X Y : Type 0} (f : X → Y) (p : X → Bool) (q : Y → Bool) → ((x : X) → p x ≡ q (f x)) → (xs : List X) → option_map f (last_that p xs) ≡ last_that q (map f xs)
last-mapped f p q h [] = refl
last-mapped f p q h (x ∷ xs) =
    earlier-mapped f (last_that p xs) (p x) x ∙ (ap (λ o. or_earlier o (p x) (f x)) (last-mapped f p q h xs) ∙ ap (λ b. or_earlier (last_that q (map f xs)) b (f x)) (h x))

after-mapped : {X Y : Type 0} (f : X → Y) (q : Y → Bool) (xs : List X) → map f (after (λ x. q (f x)) xs) ≡ after q (map f xs)
after-mapped f q [] = refl
after-mapped f q (x ∷ xs) = go (q (f x)) (after-mapped f q xs)
  where
    go : (b : Bool) → map f (after (λ y. q (f y)) xs) ≡ after q (map f xs) → map f (cond b xs (after (λ y. q (f y)) xs)) ≡ cond b (map f xs) (after q (map f xs))
    go true e = refl
    go false e = e

-- the newest of one list that another has
pub newest-common : (ss ds : List RootSnapshot) (here there : List volumes.Snapshot) → map ident_of ss ≡ volumes.idents here → map ident_of ds ≡ volumes.idents there →
    option_map ident_of (find (λ d. list_any (λ s. same_ident s.ident d.ident) ss) (reverse ds)) ≡ option_map volumes.ident_of (common here there)
newest-common ss ds here there e f =
    ap (option_map ident_of) (newest_is (λ (d : RootSnapshot). list_any (λ s. same_ident s.ident d.ident) ss) ds)
    ∙ (last-mapped ident_of (λ d. list_any (λ s. same_ident s.ident d.ident) ss) (has_ident (map ident_of ss)) (λ d. any-mapped ident_of (λ i. same_ident i d.ident) ss) ds
    ∙ (ap (λ is. last_that (has_ident is) (map ident_of ds)) e ∙ (ap (last_that (has_ident (volumes.idents here))) f
    ∙ sym (last-mapped volumes.ident_of (λ d. volumes.has here d.ident) (has_ident (volumes.idents here)) (λ d. any-mapped volumes.ident_of (λ i. same_ident i d.ident) here) there))))

-- what stands after one
pub idents-past : (ds : List RootSnapshot) (there : List volumes.Snapshot) (i : Ident) → map ident_of ds ≡ volumes.idents there → map ident_of (after (λ s. same_ident s.ident i) ds) ≡ volumes.idents (volumes.past i there)
idents-past ds there i e =
    after-mapped ident_of (λ j. same_ident j i) ds ∙ (ap (after (λ j. same_ident j i)) e ∙ sym (after-mapped volumes.ident_of (λ j. same_ident j i) there))
