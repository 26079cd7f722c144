-- The newest snapshot of a name, among those that a disk keeps and among the volume's.
use Rattle.std.proofs.Common.{◌≡◌, ℕ, Bool, true, false, cond, List, [], ◌∷◌, ◌++◌, map, reverse, refl, sym, ap, ◌∙◌, subst, Option, Some, None, inl, inr}
use Rattle.std.specs.Prelude.{option_map}
use Rattle.std.specs.List.{find}
use Rattle.std.specs.Option.{option_or}
use Rattle.std.proofs.lemmas.List.{reverse-append}
use Rattle.std.proofs.lemmas.List.Folds.{find-append}
use Rattle.sm_defs.specs.Words.{Among, KeysDiffer, same_ident, last_that, or_earlier}
use Rattle.sm_defs.specs.Volume.{Snapshot, has, ident_of}
use Rattle.sm_defs.proofs.Members.{any_among, among_each}
use Rattle.sm_defs.proofs.Idents.{same_is, same_self}
use Rattle.sm_root.specs.declared.root.RootSnapshot.{RootSnapshot}
use Rattle.sm_root.specs.Condition as roots
use Rattle.sm_volume.specs.Seen.{kept_snapshot}

ident_by : (b : Bool) (s : Snapshot) (o : Option RootSnapshot) (q : Option Snapshot) → option_map roots.ident_of o ≡ option_map ident_of q → option_map roots.ident_of (or_earlier o b (kept_snapshot s)) ≡ option_map ident_of (or_earlier q b s)
ident_by true s None None e = refl
ident_by false s None None e = refl
ident_by b s None (Some q) e = absurd (cc)
ident_by b s (Some o) None e = absurd (cc)
ident_by b s (Some o) (Some q) e = e

pub newest_kept : (p : List ℕ → Bool) (ss : List Snapshot) → option_map roots.ident_of (last_that (λ (s : RootSnapshot). p s.name) (map kept_snapshot ss)) ≡ option_map ident_of (last_that (λ (s : Snapshot). p s.name) ss)
newest_kept p [] = refl
newest_kept p (s ∷ ss) = ident_by (p s.name) s (last_that (λ (r : RootSnapshot). p r.name) (map kept_snapshot ss)) (last_that (λ (t : Snapshot). p t.name) ss) (newest_kept p ss)

-- ---- it stands on the volume

last_by : {X : Type 0} (b : Bool) (x y : X) (xs : List X) (o : Option X) → ((z : X) → o ≡ Some z → Among xs z) → or_earlier o b x ≡ Some y → Among (x ∷ xs) y
last_by b x y xs (Some z) h e = inr (h y e)
last_by true x y xs None h e = inl (let same : x ≡ y = cc in sym same)
last_by false x y xs None h e = absurd (cc)

pub last_among : {X : Type 0} (p : X → Bool) (xs : List X) (x : X) → last_that p xs ≡ Some x → Among xs x
last_among p [] x e = absurd (cc)
last_among p (y ∷ xs) x e = last_by (p y) y x xs (last_that p xs) (λ z f. last_among p xs z f) e

pub newest_stands : (p : Snapshot → Bool) (ss : List Snapshot) (s : Snapshot) → last_that p ss ≡ Some s → has ss s.ident ≡ true
newest_stands p ss s e = any_among (λ (t : Snapshot). same_ident t.ident s.ident) ss s (last_among p ss s e) (same_self s.ident)

-- ---- no other has its identity

find_by : (b : Bool) (t s : Snapshot) (ss : List Snapshot) (o : Option Snapshot) → same_ident t.ident s.ident ≡ b → o ≡ Some s → ¬ (s.ident ≡ t.ident) → cond b (Some t) o ≡ Some s
find_by true t s ss o e f differ = absurd (differ (sym (same_is t.ident s.ident e)))
find_by false t s ss o e f differ = f

pub found_again : (ss : List Snapshot) (s : Snapshot) → KeysDiffer ident_of ss → Among ss s → find (λ (t : Snapshot). same_ident t.ident s.ident) ss ≡ Some s
found_again [] s d a = absurd a
found_again (t ∷ ss) s d (inl e) =
    let here : same_ident t.ident s.ident ≡ true = subst (λ (x : Snapshot). same_ident t.ident x.ident ≡ true) (sym e) (same_self t.ident) in
    ap (λ (b : Bool). cond b (Some t) (find (λ (x : Snapshot). same_ident x.ident s.ident) ss)) here ∙ ap Some (sym e)
found_again (t ∷ ss) s d (inr a) =
    find_by (same_ident t.ident s.ident) t s ss (find (λ (x : Snapshot). same_ident x.ident s.ident) ss) refl (found_again ss s d.1 a)
    (among_each (λ (x : Snapshot). ¬ (ident_of x ≡ ident_of t)) ss s d.0 a)
