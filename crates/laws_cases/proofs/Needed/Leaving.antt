-- Which snapshots a thinned list has lost.
use Rattle.std.proofs.Common.{◌≡◌, ◌⊎◌, ℕ, not, Bool, true, false, cond, List, [], ◌∷◌, ◌++◌, Some, refl, sym, ap, subst, ◌∙◌, inl, inr, true≢false, Option, None}
use Rattle.std.proofs.lemmas.Bool.{cases_Bool, both_ways, not-true, false_from_ne_true, not_from_false}
use Rattle.sm_base.specs.declared.numbers.Ident.{Ident}
use Rattle.sm_defs.specs.Words.{Among, KeysDiffer, up_to, after}
use Rattle.sm_defs.specs.Volume.{Volume, Snapshot, no_volume, ident_of, has, without}
use Rattle.sm_defs.specs.Relationship.{Rule}
use Rattle.sm_defs.specs.Retention.{retained, keeps}
use Rattle.sm_defs.specs.World.{Up, volume_at, with_volume}
use Rattle.sm_defs.specs.Legs.{after_base}
use Rattle.sm_defs.proofs.Members.{among_append, among_each, among_filter, among_right, filter_among, set_at}
use Rattle.sm_model.specs.Steps.{snapshot_of}
use Rattle.laws_transfer.proofs.Lists.{copy_from_has, has_from_copy}
use Rattle.laws_transfer.proofs.Kept.{begins}
use Rattle.laws_cases.proofs.Steps.Parties.{snapshot_is}
use Rattle.sm_model.proofs.Found.{found_one}
use Rattle.laws_cases.proofs.Needed.Needs.{set_cases, split_at, has_within}

-- v has the identity in the one world and not in the other
abbrev pub Lost : Up → Up → ℕ → Ident → Type 0
Lost old new v i = (has (volume_at old v).snapshots i ≡ true) × (has (volume_at new v).snapshots i ≡ false)

abbrev pub KeepsAll : Up → Up → Type 0
KeepsAll old new = (v : ℕ) (i : Ident) → has (volume_at old v).snapshots i ≡ true → has (volume_at new v).snapshots i ≡ true

pub none_lost : (old new : Up) → KeepsAll old new → (v : ℕ) (i : Ident) → ¬ (Lost old new v i)
none_lost old new k v i (a, b) = true≢false (sym (k v i a) ∙ b)

-- of the one volume that was changed
pub lost_there : (w : Up) (k : ℕ) (u : Volume) (v : ℕ) (i : Ident) → Lost w (with_volume w k u) v i → (v ≡ k) × (has (volume_at w k).snapshots i ≡ true) × (has u.snapshots i ≡ false)
lost_there w k u v i (a, b) = go (set_cases w.volumes k v u no_volume)
  where
    go : (volume_at (with_volume w k u) v ≡ volume_at w v) ⊎ ((v ≡ k) × (volume_at (with_volume w k u) v ≡ u)) → (v ≡ k) × (has (volume_at w k).snapshots i ≡ true) × (has u.snapshots i ≡ false)
    go (inl e) = absurd (true≢false (sym (subst (λ y. has y.snapshots i ≡ true) (sym e) a) ∙ b))
    go (inr (e, f)) = (e, subst (λ y. has (volume_at w y).snapshots i ≡ true) e a, subst (λ y. has y.snapshots i ≡ false) f b)

pub lost_here : (w : Up) (k : ℕ) (u : Volume) (v : ℕ) (i : Ident) → v ≡ k → has (volume_at w k).snapshots i ≡ true → has u.snapshots i ≡ false → Lost w (with_volume w k u) v i
lost_here w k u v i e a b = subst (λ y. Lost w (with_volume w k u) y i) (sym e)
    (a, subst (λ y. has y.snapshots i ≡ false) (sym (set_at w.volumes k u no_volume (has_within w k i a))) b)

-- ---- a filter

pub same_member : {X K : Type 0} (key : X → K) (xs : List X) (x y : X) → KeysDiffer key xs → Among xs x → Among xs y → key x ≡ key y → x ≡ y
same_member key [] x y d m n e = absurd m
same_member key (z ∷ zs) x y d (inl i) (inl j) e = i ∙ sym j
same_member key (z ∷ zs) x y d (inl i) (inr n) e = absurd (among_each (λ q. ¬ (key q ≡ key z)) zs y d.0 n (sym e ∙ ap key i))
same_member key (z ∷ zs) x y d (inr m) (inl j) e = absurd (among_each (λ q. ¬ (key q ≡ key z)) zs x d.0 m (e ∙ ap key j))
same_member key (z ∷ zs) x y d (inr m) (inr n) e = same_member key zs x y d.1 m n e

abbrev pub IsToGo : (Snapshot → Bool) → List Snapshot → Ident → Type 0
IsToGo goes ss i = (s : Snapshot) × (snapshot_of ss (Some i) ≡ Some s) × (goes s ≡ true)

pub without_lost : (goes : Snapshot → Bool) (v : Volume) (i : Ident) → has v.snapshots i ≡ true → has (without goes v).snapshots i ≡ false → IsToGo goes v.snapshots i
without_lost goes v i h k = let (s, e) = found_one v.snapshots i h in (s, e, go s (snapshot_is v.snapshots i s e) (cases_Bool (goes s)))
  where
    go : (s : Snapshot) → Among v.snapshots s × (s.ident ≡ i) → (goes s ≡ true) ⊎ (goes s ≡ false) → goes s ≡ true
    go s m (inl g) = g
    go s m (inr g) = absurd (true≢false (sym (has_from_copy (without goes v).snapshots i (s, filter_among (λ t. not (goes t)) v.snapshots s m.0 (not_from_false _ g), m.1)) ∙ k))

pub goes_lost : (goes : Snapshot → Bool) (v : Volume) (i : Ident) → KeysDiffer ident_of v.snapshots → IsToGo goes v.snapshots i → (has v.snapshots i ≡ true) × (has (without goes v).snapshots i ≡ false)
goes_lost goes v i d (s, e, g) = let m = snapshot_is v.snapshots i s e in (
  has_from_copy v.snapshots i (s, m.0, m.1),
  false_from_ne_true _ (λ h.
      let (t, n, f) = copy_from_has (without goes v).snapshots i h in let q = among_filter (λ t. not (goes t)) v.snapshots t n in
      both_ways (goes t) (not-true _ q.1) (subst (λ y. goes y ≡ true) (same_member ident_of v.snapshots s t d m.0 q.0 (m.1 ∙ sym f)) g)),
)

-- ---- what stands up to a snapshot, and after it

after_go : {X : Type 0} (x z : X) (xs ys : List X) (b : Bool) → (Among ys x → Among xs x) → Among (cond b xs ys) x → (x ≡ z) ⊎ Among xs x
after_go x z xs ys true h m = inr m
after_go x z xs ys false h m = inr (h m)

pub after_among : {X : Type 0} (p : X → Bool) (xs : List X) (x : X) → Among (after p xs) x → Among xs x
after_among p [] x m = absurd m
after_among p (z ∷ xs) x m = after_go x z xs (after p xs) (p z) (after_among p xs x) m

up_to_go : {X : Type 0} (x z : X) (xs ys : List X) (b : Bool) → (Among ys x → Among xs x) → Among (cond b (z ∷ []) (z ∷ ys)) x → (x ≡ z) ⊎ Among xs x
up_to_go x z xs ys true h (inl e) = inl e
up_to_go x z xs ys true h (inr m) = absurd m
up_to_go x z xs ys false h (inl e) = inl e
up_to_go x z xs ys false h (inr m) = inr (h m)

apart_go : {X K : Type 0} (key : X → K) (p : X → Bool) (z : X) (xs : List X) (x y : X) (b : Bool) → KeysDiffer key (z ∷ xs) → Among (cond b (z ∷ []) (z ∷ up_to p xs)) x → Among (cond b xs (after p xs)) y → key x ≡ key y →
    (KeysDiffer key xs → Among (up_to p xs) x → Among (after p xs) y → key x ≡ key y → ⊥) → ⊥
apart_go key p z xs x y true d (inl i) n e ih = among_each (λ q. ¬ (key q ≡ key z)) xs y d.0 n (sym e ∙ ap key i)
apart_go key p z xs x y true d (inr m) n e ih = m
apart_go key p z xs x y false d (inl i) n e ih = among_each (λ q. ¬ (key q ≡ key z)) xs y d.0 (after_among p xs y n) (sym e ∙ ap key i)
apart_go key p z xs x y false d (inr m) n e ih = ih d.1 m n e

pub halves_apart : {X K : Type 0} (key : X → K) (p : X → Bool) (xs : List X) (x y : X) → KeysDiffer key xs → Among (up_to p xs) x → Among (after p xs) y → key x ≡ key y → ⊥
halves_apart key p [] x y d m n e = m
halves_apart key p (z ∷ xs) x y d m n e = apart_go key p z xs x y (p z) d m n e (halves_apart key p xs x y)

pub after_lost : (p : Snapshot → Bool) (ss : List Snapshot) (i : Ident) → has ss i ≡ true → has (up_to p ss) i ≡ false → has (after p ss) i ≡ true
after_lost p ss i h k = let (s, m, e) = copy_from_has ss i h in go s e (split_at p ss s m)
  where
    go : (s : Snapshot) → s.ident ≡ i → Among (up_to p ss) s ⊎ Among (after p ss) s → has (after p ss) i ≡ true
    go s e (inl n) = absurd (true≢false (sym (has_from_copy (up_to p ss) i (s, n, e)) ∙ k))
    go s e (inr n) = has_from_copy (after p ss) i (s, n, e)

pub lost_after : (p : Snapshot → Bool) (ss : List Snapshot) (i : Ident) → KeysDiffer ident_of ss → has (after p ss) i ≡ true → (has ss i ≡ true) × (has (up_to p ss) i ≡ false)
lost_after p ss i d h = let (s, m, e) = copy_from_has (after p ss) i h in (
  has_from_copy ss i (s, after_among p ss s m, e),
  false_from_ne_true _ (λ k.
      let (t, n, f) = copy_from_has (up_to p ss) i k in halves_apart ident_of p ss t s d n m (f ∙ sym e)),
)

-- ---- what a vault keeps has the last

pub last_kept : (rules : List Rule) (class : Snapshot → Option (List ℕ)) (needs : Ident → Bool) (older : List Snapshot) (s : Snapshot) → keeps rules class needs s [] ≡ true → has (retained rules class needs (older ++ s ∷ [])) s.ident ≡ true
last_kept rules class needs older s k =
    let (front, t, e) = begins rules class needs older (s ∷ []) in
    let f : retained rules class needs (older ++ s ∷ []) ≡ front ++ s ∷ [] = e ∙ ap (λ b. front ++ cond b (s ∷ []) []) k in
    subst (λ ss. has ss s.ident ≡ true) (sym f) (has_from_copy (front ++ s ∷ []) s.ident (s, among_right front (s ∷ []) s (inl refl), refl))

pub from_base : (base : Option Ident) (ss : List Snapshot) (s : Snapshot) → Among (after_base base ss) s → Among ss s
from_base None ss s m = m
from_base (Some i) ss s m = after_among _ ss s m

pub lacks_fewer : (ss ts : List Snapshot) (i : Ident) → ((s : Snapshot) → Among ts s → Among ss s) → has ss i ≡ false → has ts i ≡ false
lacks_fewer ss ts i h e = false_from_ne_true (has ts i) (λ k. let (t, m, q) = copy_from_has ts i k in true≢false (sym (has_from_copy ss i (t, h t m, q)) ∙ e))

pub lacks_more : (ss : List Snapshot) (f : Snapshot) (i : Ident) → ¬ (i ≡ f.ident) → has ss i ≡ false → has (ss ++ f ∷ []) i ≡ false
lacks_more ss f i n e = false_from_ne_true _ (λ k. let (t, m, q) = copy_from_has (ss ++ f ∷ []) i k in go t q (among_append ss (f ∷ []) t m))
  where
    go : (t : Snapshot) → t.ident ≡ i → Among ss t ⊎ Among (f ∷ []) t → ⊥
    go t q (inl m) = true≢false (sym (has_from_copy ss i (t, m, q)) ∙ e)
    go t q (inr (inl g)) = n (sym q ∙ ap (λ y. y.ident) g)
    go t q (inr (inr m)) = m
