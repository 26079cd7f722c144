-- The volumes of the world at their places.
use Rattle.std.proofs.Common.{◌≡◌, ℕ, zero, suc, ◌≤◌, List, [], ◌∷◌, map, length, refl, ap, ◌∙◌, Some, arith}
use Rattle.std.specs.Prelude.{slice_get, slice_index_or}
use Rattle.sm_base.specs.declared.numbers.VolNo.{VolNo}
use Rattle.sm_defs.specs.Volume.{Snapshot, no_volume, idents}
use Rattle.sm_root.specs.Condition as roots
use Rattle.sm_relation.specs.Shown.{IsRootOf}
use Rattle.sm_volume.specs.Mounted.{Mounted}
use Rattle.sm_volume.specs.Seen.{kept_snapshot, root_of}
use Rattle.sm_catroot.specs.declared.placed.Placed.{Placed}
use Rattle.sm_node.specs.Seats.{Seated}
use Rattle.sm_node.specs.Nodes.{placed, all_placed}

pub all_long : {D : Type 0} (ps : List Placed) (seats : List (Seated D)) → length ps ≡ length seats → length (all_placed ps seats) ≡ length ps
unfolding all_placed
all_long [] seats e = refl
all_long (p ∷ ps) [] e = absurd (omega arith)
all_long (p ∷ ps) (s ∷ seats) e = ap suc (all_long ps seats (omega arith))

-- behind the last of them
pub none_placed : {D : Type 0} (ps : List Placed) (seats : List (Seated D)) (k : ℕ) → length seats ≤ k → slice_index_or (all_placed ps seats) k no_volume ≡ no_volume
unfolding all_placed
none_placed [] seats k h = refl
none_placed (p ∷ ps) [] k h = refl
none_placed (p ∷ ps) (s ∷ seats) zero h = absurd (omega arith)
none_placed (p ∷ ps) (s ∷ seats) (suc k) h = none_placed ps seats k (omega arith)

pub one_placed : {D : Type 0} (ps : List Placed) (seats : List (Seated D)) (k : ℕ) (s : Seated D) → length ps ≡ length seats → slice_get seats k ≡ Some s → (p : Placed) × (slice_get ps k ≡ Some p) × (slice_index_or (all_placed ps seats) k no_volume ≡ placed p s.volume)
unfolding all_placed
one_placed [] [] k s e f = absurd (cc)
one_placed [] (t ∷ seats) k s e f = absurd (omega arith)
one_placed (p ∷ ps) [] k s e f = absurd (cc)
one_placed (p ∷ ps) (t ∷ seats) zero s e f = let same : t ≡ s = cc in (p, refl, ap (λ (x : Seated _). placed p x.volume) same)
one_placed (p ∷ ps) (t ∷ seats) (suc k) s e f = one_placed ps seats k s (omega arith) f

-- by its place in the catalogue
pub path_placed : {D : Type 0} (ps : List Placed) (seats : List (Seated D)) (k : ℕ) (p : Placed) → length ps ≡ length seats → slice_get ps k ≡ Some p → (slice_index_or (all_placed ps seats) k no_volume).path ≡ p.path
unfolding all_placed
path_placed [] seats k p e f = absurd (cc)
path_placed (q ∷ ps) [] k p e f = absurd (omega arith)
path_placed (q ∷ ps) (t ∷ seats) zero p e f = let same : q ≡ p = cc in ap (λ (x : Placed). x.path) same
path_placed (q ∷ ps) (t ∷ seats) (suc k) p e f = path_placed ps seats k p (omega arith) f

-- what a root says of states
idents_kept : (ss : List Snapshot) → map roots.ident_of (map kept_snapshot ss) ≡ idents ss
idents_kept [] = refl
idents_kept (s ∷ ss) = ap (λ is. s.ident ∷ is) (idents_kept ss)

pub is_root_of : {D : Type 0} (number : VolNo) (p : Placed) (m : Mounted D) → IsRootOf (root_of number m.volume) (placed p m)
is_root_of number p m = record { kind = refl; family = refl; snapshots = idents_kept m.volume.snapshots }

pub volume_is : {D : Type 0} (ps : List Placed) (seats : List (Seated D)) (k : ℕ) (p : Placed) (s : Seated D) → slice_get ps k ≡ Some p → slice_get seats k ≡ Some s → slice_index_or (all_placed ps seats) k no_volume ≡ placed p s.volume
unfolding all_placed
volume_is [] seats k p s e f = absurd (cc)
volume_is (q ∷ ps) [] k p s e f = absurd (cc)
volume_is (q ∷ ps) (t ∷ seats) zero p s e f =
    let same_p : q ≡ p = cc in
    let same_s : t ≡ s = cc in
    ap (λ (x : Placed). placed x t.volume) same_p ∙ ap (λ (x : Seated _). placed p x.volume) same_s
volume_is (q ∷ ps) (t ∷ seats) (suc k) p s e f = volume_is ps seats k p s e f
