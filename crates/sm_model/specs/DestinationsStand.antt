-- A read-only volume stands at one of its snapshots.
use Rattle.std.specs.Prelude.{◌≡◌, ◌≢◌, ℕ, true, List, [], ◌∷◌, Some, if◌then◌else◌}
use Rattle.sm_base.specs.declared.numbers.Ident.{Ident}
use Rattle.sm_base.specs.declared.numbers.Kind.TheVariants.{Dp}
use Rattle.sm_defs.specs.Words.{Among}
use Rattle.sm_defs.specs.Image.{Block, hole}
use Rattle.sm_defs.specs.Volume.{Volume, Snapshot, has}
use Rattle.sm_defs.specs.Relationship.{Relationship, legs_of}
use Rattle.sm_defs.specs.World.{Up, volume_at}
use Rattle.sm_model.specs.Standing.{Stored, EachVolume, EachRelation}

pub record StandsAtSnapshot (v : Volume) : Type 0 where
  pub blank : v.snapshots ≡ [] → (p : ℕ) (b : Block) → Stored v p b → b ≡ hole
  pub still : v.snapshots ≢ [] → v.stable ≡ v.active
  pub at : v.snapshots ≢ [] → (s : Snapshot) × Among v.snapshots s × (v.active ≡ s.image)

-- the first leg, where the volume has it, and the base otherwise
abbrev pub newest_published : List Snapshot → Ident → List Ident → Ident
newest_published ss base [] = base
newest_published ss base (i ∷ is) = if has ss i then i else base

-- a destination shows what was published last
abbrev pub StandsAtBase : Up → Relationship → Type 0
StandsAtBase w r = (base : Ident) (s : Snapshot) → r.destination_half ≡ true → (volume_at w r.destination).kind ≡ Dp → r.base ≡ Some base →
    Among (volume_at w r.destination).snapshots s → s.ident ≡ newest_published (volume_at w r.destination).snapshots base (legs_of r.transfer) → (volume_at w r.destination).active ≡ s.image

pub record DestinationsStand (w : Up) : Type 0 where
  pub volumes : EachVolume (λ v. v.kind ≡ Dp → StandsAtSnapshot v) w
  pub bases : EachRelation (StandsAtBase w) w
