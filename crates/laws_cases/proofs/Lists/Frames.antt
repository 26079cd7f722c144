-- What a change of one volume leaves.
use Rattle.std.proofs.Common.{◌≡◌, ◌⊎◌, ℕ, [], ◌∷◌, ap, sym, subst, inl, inr, ◌∙◌}
use Rattle.sm_defs.specs.Words.{Among}
use Rattle.sm_defs.specs.Volume.{Volume, Snapshot}
use Rattle.sm_defs.specs.World.{Up, with_volume}
use Rattle.sm_defs.proofs.Members.{among_append, among_set}
use Rattle.sm_model.specs.Standing.{EachVolume, Stands}
use Rattle.sm_model.specs.OfVolumes.{with_new_volume}

pub each_set : (P : Volume → Type 0) (w : Up) (i : ℕ) (v : Volume) → EachVolume P w → P v → EachVolume P (with_volume w i v)
each_set P w i v h k u m = go (among_set w.volumes i v u m)
  where
    go : (u ≡ v) ⊎ Among w.volumes u → P u
    go (inl e) = subst P (sym e) k
    go (inr m) = h u m

-- P of each snapshot that stands, after one volume was changed
pub stands_set : (P : Volume → Snapshot → Type 0) (w : Up) (i : ℕ) (v : Volume) → ((s : Snapshot) → Among v.snapshots s → P v s) → ((u : Volume) (s : Snapshot) → Stands w u s → P u s) →
    (u : Volume) (s : Snapshot) → Stands (with_volume w i v) u s → P u s
stands_set P w i v h k u s (m, n) = go (among_set w.volumes i v u m)
  where
    go : (u ≡ v) ⊎ Among w.volumes u → P u s
    go (inl e) = subst (λ x. P x s) (sym e) (h s (subst (λ x. Among x.snapshots s) e n))
    go (inr m) = k u s (m, n)

-- and after a volume without snapshots came
pub stands_push : (P : Volume → Snapshot → Type 0) (w : Up) (v : Volume) → v.snapshots ≡ [] → ((u : Volume) (s : Snapshot) → Stands w u s → P u s) →
    (u : Volume) (s : Snapshot) → Stands (with_new_volume w v) u s → P u s
stands_push P w v e k u s (m, n) = go (among_append w.volumes (v ∷ []) u m)
  where
    go : Among w.volumes u ⊎ Among (v ∷ []) u → P u s
    go (inl m) = k u s (m, n)
    go (inr (inl f)) = absurd (subst (λ ss. Among ss s) (ap (λ y. y.snapshots) f ∙ e) n)
    go (inr (inr m)) = absurd m

-- ---- keys
