-- Opening again changes nothing.
use Rattle.std.proofs.Common.{◌≡◌, List, [], ◌∷◌, map, refl, ap, ap₂, ◌<◌, ℕ, length}
use Rattle.sm_defs.specs.Relationship.{Relationship}
use Rattle.sm_defs.specs.World.{Up, volume_at}
use Rattle.sm_defs.specs.Volume.{no_volume}
use Rattle.sm_defs.specs.Operations as operations
use Rattle.sm_model.specs.Opened.{opened, rejoined}
use Rattle.sm_model.proofs.Restarts.{restarted_twice}
use Rattle.laws_cases.proofs.Needed.Needs.{mapped_at}

mapped_twice : {X : Type 0} (f : X → X) (xs : List X) → ((x : X) → f (f x) ≡ f x) → map f (map f xs) ≡ map f xs
mapped_twice f [] h = refl
mapped_twice f (x ∷ xs) h = ap₂ (λ y ys. y ∷ ys) (h x) (mapped_twice f xs h)

rejoined_twice : (r : Relationship) → rejoined (rejoined r) ≡ rejoined r
rejoined_twice r = ap (λ t. record r { transfer = t }) (restarted_twice r.transfer)

pub opened_twice : (w : Up) → opened (opened w) ≡ opened w
opened_twice w = ap₂ (λ vs rs. record w { volumes = vs; relations = rs }) (mapped_twice operations.opened w.volumes (λ v. refl)) (mapped_twice rejoined w.relations rejoined_twice)

-- what a restart makes of the volumes
abbrev pub Reopened : Up → Up
Reopened w = record w { volumes = map operations.opened w.volumes }

pub reopened_at : (w : Up) (i : ℕ) → i < length w.volumes → volume_at (Reopened w) i ≡ operations.opened (volume_at w i)
reopened_at w i l = mapped_at operations.opened w.volumes no_volume i l
