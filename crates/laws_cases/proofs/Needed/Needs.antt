-- What is needed stays where lists are thinned of what is not.
use Rattle.std.proofs.Common.{◌≡◌, ◌⊎◌, ◌<◌, ◌≤◌, ℕ, zero, suc, not, Bool, true, false, cond, List, [], ◌∷◌, ◌++◌, map, length, Option, Some, None, refl, sym, ap, subst, inl, inr, arith}
use Rattle.std.specs.Prelude.{slice_set, slice_index_or}
use Rattle.std.proofs.lemmas.Bool.{not_from_false}
use Rattle.sm_base.specs.declared.numbers.Ident.{Ident}
use Rattle.sm_defs.specs.Words.{Among, up_to, after, or_else}
use Rattle.sm_defs.specs.Volume.{Volume, Snapshot, no_volume, has, without}
use Rattle.sm_defs.specs.Relationship.{Relationship}
use Rattle.sm_defs.specs.Needed.{needed, needed_for, holder}
use Rattle.sm_defs.specs.World.{Up, volume_at, with_volume}
use Rattle.sm_defs.proofs.Members.{filter_among}
use Rattle.sm_defs.proofs.Searches.{find_none}
use Rattle.sm_model.specs.OfTransfers.{Holding, first_held, holding}
use Rattle.laws_transfer.proofs.Lists.{copy_from_has, has_from_copy}
use Rattle.laws_cases.specs.Needs.{KeepsNeeded}

pub set_cases : {X : Type 0} (xs : List X) (k v : ℕ) (y d : X) → (slice_index_or (slice_set xs k y) v d ≡ slice_index_or xs v d) ⊎ ((v ≡ k) × (slice_index_or (slice_set xs k y) v d ≡ y))
set_cases [] k v y d = inl refl
set_cases (x ∷ xs) zero zero y d = inr (refl, refl)
set_cases (x ∷ xs) zero (suc v) y d = inl refl
set_cases (x ∷ xs) (suc k) zero y d = inl refl
set_cases (x ∷ xs) (suc k) (suc v) y d = go (set_cases xs k v y d)
  where
    go : (slice_index_or (slice_set xs k y) v d ≡ slice_index_or xs v d) ⊎ ((v ≡ k) × (slice_index_or (slice_set xs k y) v d ≡ y)) →
        (slice_index_or (slice_set xs k y) v d ≡ slice_index_or xs v d) ⊎ ((suc v ≡ suc k) × (slice_index_or (slice_set xs k y) v d ≡ y))
    go (inl e) = inl e
    go (inr (e, f)) = inr (ap suc e, f)

pub keeps_set : (w : Up) (k : ℕ) (u : Volume) → ((i : Ident) → has (volume_at w k).snapshots i ≡ true → needed w k i ≡ true → has u.snapshots i ≡ true) → KeepsNeeded w (with_volume w k u)
keeps_set w k u h v i m n = go (set_cases w.volumes k v u no_volume)
  where
    go : (volume_at (with_volume w k u) v ≡ volume_at w v) ⊎ ((v ≡ k) × (volume_at (with_volume w k u) v ≡ u)) → has (volume_at (with_volume w k u) v).snapshots i ≡ true
    go (inl e) = subst (λ y. has y.snapshots i ≡ true) (sym e) m
    go (inr (e, f)) = subst (λ y. has y.snapshots i ≡ true) (sym f) (h i (subst (λ y. has (volume_at w y).snapshots i ≡ true) e m) (subst (λ y. needed w y i ≡ true) e n))

-- a further element changes none before it
pub push_within : {X : Type 0} (xs : List X) (y d : X) (i : ℕ) → i < length xs → slice_index_or (xs ++ y ∷ []) i d ≡ slice_index_or xs i d
push_within [] y d i h = absurd (omega arith)
push_within (x ∷ xs) y d zero h = refl
push_within (x ∷ xs) y d (suc i) h = push_within xs y d i (omega arith)

pub beyond : {X : Type 0} (xs : List X) (d : X) (i : ℕ) → length xs ≤ i → slice_index_or xs i d ≡ d
beyond [] d i h = refl
beyond (x ∷ xs) d zero h = absurd (omega arith)
beyond (x ∷ xs) d (suc i) h = beyond xs d i (omega arith)

pub within_or_beyond : (i n : ℕ) → (i < n) ⊎ (n ≤ i)
within_or_beyond i zero = inr (omega arith)
within_or_beyond zero (suc n) = inl (omega arith)
within_or_beyond (suc i) (suc n) = go (within_or_beyond i n)
  where
    go : (i < n) ⊎ (n ≤ i) → (suc i < suc n) ⊎ (suc n ≤ suc i)
    go (inl h) = inl (omega arith)
    go (inr h) = inr (omega arith)

-- no snapshot stands where no volume does
pub has_within : (w : Up) (v : ℕ) (i : Ident) → has (volume_at w v).snapshots i ≡ true → v < length w.volumes
has_within w v i h = go (within_or_beyond v (length w.volumes))
  where
    go : (v < length w.volumes) ⊎ (length w.volumes ≤ v) → v < length w.volumes
    go (inl k) = k
    go (inr k) = absurd (let e : has no_volume.snapshots i ≡ true = subst (λ u. has u.snapshots i ≡ true) (beyond w.volumes no_volume v k) h in cc)

pub mapped_at : {X : Type 0} (f : X → X) (xs : List X) (d : X) (i : ℕ) → i < length xs → slice_index_or (map f xs) i d ≡ f (slice_index_or xs i d)
mapped_at f [] d i h = absurd (omega arith)
mapped_at f (x ∷ xs) d zero h = refl
mapped_at f (x ∷ xs) d (suc i) h = mapped_at f xs d i (omega arith)

pub mapped_length : {X : Type 0} (f : X → X) (xs : List X) → length (map f xs) ≡ length xs
mapped_length f [] = refl
mapped_length f (x ∷ xs) = ap suc (mapped_length f xs)

-- a snapshot that does not go is there still
pub without_keeps : (goes : Snapshot → Bool) (v : Volume) (i : Ident) → has v.snapshots i ≡ true → ((s : Snapshot) → s.ident ≡ i → goes s ≡ false) → has (without goes v).snapshots i ≡ true
without_keeps goes v i h k = let (s, m, e) = copy_from_has v.snapshots i h in
    has_from_copy (without goes v).snapshots i (s, filter_among (λ t. not (goes t)) v.snapshots s m (not_from_false _ (k s e)), e)

split_go : {X : Type 0} (z x : X) (xs ys zs : List X) (b : Bool) → (x ≡ z) ⊎ Among xs x → (Among xs x → Among ys x ⊎ Among zs x) → Among (cond b (z ∷ []) (z ∷ ys)) x ⊎ Among (cond b xs zs) x
split_go z x xs ys zs true (inl e) h = inl (inl e)
split_go z x xs ys zs true (inr m) h = inr m
split_go z x xs ys zs false (inl e) h = inl (inl e)
split_go {X} z x xs ys zs false (inr m) h = go (h m)
  where
    go : Among ys x ⊎ Among zs x → Among (z ∷ ys) x ⊎ Among zs x
    go (inl k) = inl (inr k)
    go (inr k) = inr k

pub split_at : {X : Type 0} (p : X → Bool) (xs : List X) (x : X) → Among xs x → Among (up_to p xs) x ⊎ Among (after p xs) x
split_at p [] x m = absurd m
split_at p (z ∷ xs) x m = split_go z x xs (up_to p xs) (after p xs) (p z) m (split_at p xs x)

-- nobody needs what has no holder
pub no_holder : (w : Up) (v : ℕ) (i : Ident) → holder w v i ≡ None → needed w v i ≡ false
no_holder w v i e = find_none (needed_for w v i) w.relations e

none_held_go : (i : Ident) (o : Option Relationship) (p : Option Holding) → or_else (holding i o) p ≡ None → (o ≡ None) × (p ≡ None)
none_held_go i None p e = (refl, e)
none_held_go i (Some r) p e = absurd (cc)

pub none_held : (who : Ident → Option Relationship) (ss : List Snapshot) → first_held who ss ≡ None → (s : Snapshot) → Among ss s → who s.ident ≡ None
none_held who [] e s m = absurd m
none_held who (t ∷ ts) e s (inl i) = subst (λ y. who y.ident ≡ None) (sym i) (none_held_go t.ident (who t.ident) (first_held who ts) e).0
none_held who (t ∷ ts) e s (inr m) = none_held who ts (none_held_go t.ident (who t.ident) (first_held who ts) e).1 s m
