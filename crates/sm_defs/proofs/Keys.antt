-- Keys of a list still differ after it changed.
use Rattle.std.proofs.Common.{◌≡◌, ℕ, zero, suc, Bool, List, [], ◌∷◌, ◌++◌, map, Some, refl, sym, subst, ◌∙◌, inl, inr}
use Rattle.std.specs.Prelude.{slice_get, slice_set}
use Rattle.std.specs.List.{filter, AllByRecursion}
use Rattle.sm_defs.specs.Words.{Among, KeysDiffer}
use Rattle.sm_defs.proofs.Members.{each_pushed}
use Rattle.sm_defs.proofs.Thinned.{filter_thins, thinned_differ}

pub differ_push : {X K : Type 0} (key : X → K) (xs : List X) (x : X) → KeysDiffer key xs → ((y : X) → Among xs y → ¬ (key y ≡ key x)) → KeysDiffer key (xs ++ x ∷ [])
differ_push key [] x h k = (tt, tt)
differ_push key (y ∷ ys) x h k = (each_pushed (λ z. ¬ (key z ≡ key y)) ys x h.0 (λ e. k y (inl refl) (sym e)), differ_push key ys x h.1 (λ z m. k z (inr m)))

-- of members that are left
pub differ_filter : {X K : Type 0} (key : X → K) (p : X → Bool) (xs : List X) → KeysDiffer key xs → KeysDiffer key (filter p xs)
differ_filter key p xs d = thinned_differ key (filter_thins p xs) d

kept_set : {X K : Type 0} (key : X → K) (k : K) (xs : List X) (i : ℕ) (y : X) → ((x : X) → slice_get xs i ≡ Some x → key y ≡ key x) →
    AllByRecursion (λ z. ¬ (key z ≡ k)) xs → AllByRecursion (λ z. ¬ (key z ≡ k)) (slice_set xs i y)
kept_set key k [] i y e h = h
kept_set key k (x ∷ xs) zero y e h = (λ q. h.0 (sym (e x refl) ∙ q), h.1)
kept_set key k (x ∷ xs) (suc i) y e h = (h.0, kept_set key k xs i y e h.1)

other_key : {X K : Type 0} (key : X → K) (xs : List X) (x y : X) → key y ≡ key x → AllByRecursion (λ z. ¬ (key z ≡ key x)) xs → AllByRecursion (λ z. ¬ (key z ≡ key y)) xs
other_key key [] x y e h = tt
other_key key (z ∷ zs) x y e h = (λ q. h.0 (q ∙ e), other_key key zs x y e h.1)

-- keys still differ after an element was changed that keeps its key
pub differ_set : {X K : Type 0} (key : X → K) (xs : List X) (i : ℕ) (y : X) → ((x : X) → slice_get xs i ≡ Some x → key y ≡ key x) → KeysDiffer key xs → KeysDiffer key (slice_set xs i y)
differ_set key [] i y e h = h
differ_set key (x ∷ xs) zero y e h = (other_key key xs x y (e x refl) h.0, h.1)
differ_set key (x ∷ xs) (suc i) y e h = (kept_set key (key x) xs i y e h.0, differ_set key xs i y e h.1)

pub mapped_each : {X : Type 0} (P : X → Type 0) (f : X → X) (xs : List X) → ((x : X) → P x → P (f x)) → AllByRecursion P xs → AllByRecursion P (map f xs)
mapped_each P f [] h a = tt
mapped_each P f (x ∷ xs) h a = (h x a.0, mapped_each P f xs h a.1)

pub mapped_differ : {X K : Type 0} (key : X → K) (f : X → X) (xs : List X) → ((x : X) → key (f x) ≡ key x) → KeysDiffer key xs → KeysDiffer key (map f xs)
mapped_differ key f [] h d = tt
mapped_differ key f (x ∷ xs) h d = (mapped_each (λ y. ¬ (key y ≡ key (f x))) f xs (λ y n e. n (sym (h y) ∙ e)) (subst (λ k. AllByRecursion (λ y. ¬ (key y ≡ k)) xs) (sym (h x)) d.0), mapped_differ key f xs h d.1)
