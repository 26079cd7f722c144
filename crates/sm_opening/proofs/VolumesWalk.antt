-- Volumes are looked at one after the other.
use Rattle.std.proofs.Common.{ℕ, suc, ◌+◌, List, [], ◌∷◌, ◌++◌, length, sym, subst, inl, inr, arith, append_assoc}
use Rattle.std.proofs.lemmas.List.{append-nil}
use Rattle.sm_root.specs.declared.root.Root.{Root}
use Rattle.sm_catroot.specs.declared.placed.Placed.{Placed}
use Rattle.sm_opening.specs.OnDisk.{Disks, Damage, IsVolumeOn, IsVolumeDamage, AreVolumesOn, IsFirstDamage}
use Rattle.sm_opening.proofs.NoFault.{volume_apart}

module _ (d : Disks) where
  at_place : (P : List Placed → ℕ → Type 0) (before : List Placed) (i : ℕ) (x : Placed) (ps : List Placed) → P (before ++ x ∷ ps) (i + suc (length ps)) → P ((before ++ x ∷ []) ++ ps) (suc i + length ps)
  at_place P before i x ps h =
      subst (λ (l : List Placed). P l (suc i + length ps)) (sym (append_assoc before (x ∷ []) ps))
      (subst (λ (n : ℕ). P (before ++ x ∷ ps) n) (omega arith) h)

  -- one more volume
  pub more_volumes : (before : List Placed) (i : ℕ) (ps : List Placed) (rs : List Root) (p : Placed) (r : Root) → AreVolumesOn d before i ps rs → IsVolumeOn d (before ++ ps) (i + length ps) p r → AreVolumesOn d before i (ps ++ p ∷ []) (rs ++ r ∷ [])
  more_volumes before i [] [] p r are on = (subst (λ (n : ℕ). IsVolumeOn d before n p r) (omega arith) (subst (λ (l : List Placed). IsVolumeOn d l (i + 0) p r) (append-nil before) on), tt)
  more_volumes before i [] (s ∷ rs) p r are on = absurd are
  more_volumes before i (x ∷ ps) [] p r are on = absurd are
  more_volumes before i (x ∷ ps) (s ∷ rs) p r are on =
      (are.0, more_volumes (before ++ x ∷ []) (suc i) ps rs p r are.1 (at_place (λ l n. IsVolumeOn d l n p r) before i x ps on))

  -- the first fault stands behind volumes without one
  pub then_fault : (before : List Placed) (i : ℕ) (ps qs : List Placed) (rs : List Root) (p : Placed) (f : Damage) → AreVolumesOn d before i ps rs → IsVolumeDamage d (before ++ ps) (i + length ps) p f → IsFirstDamage d before i (ps ++ p ∷ qs) f
  then_fault before i [] qs [] p f are fault = inl (subst (λ (n : ℕ). IsVolumeDamage d before n p f) (omega arith) (subst (λ (l : List Placed). IsVolumeDamage d l (i + 0) p f) (append-nil before) fault))
  then_fault before i [] qs (s ∷ rs) p f are fault = absurd are
  then_fault before i (x ∷ ps) qs [] p f are fault = absurd are
  then_fault before i (x ∷ ps) qs (s ∷ rs) p f are fault =
      inr (s, are.0, then_fault (before ++ x ∷ []) (suc i) ps qs rs p f are.1 (at_place (λ l n. IsVolumeDamage d l n p f) before i x ps fault))

  -- volumes that are there have no fault
  pub volumes_apart : (before : List Placed) (i : ℕ) (ps : List Placed) (rs : List Root) (f : Damage) → AreVolumesOn d before i ps rs → IsFirstDamage d before i ps f → ⊥
  volumes_apart before i [] rs f are fault = fault
  volumes_apart before i (p ∷ ps) [] f are fault = are
  volumes_apart before i (p ∷ ps) (r ∷ rs) f are (inl fault) = volume_apart d before i p r are.0 f fault
  volumes_apart before i (p ∷ ps) (r ∷ rs) f are (inr (s, on, later)) = volumes_apart (before ++ p ∷ []) (suc i) ps rs f are.1 later
