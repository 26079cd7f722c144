-- In one volume a number stands for one place and one block.
use Rattle.std.specs.Prelude.{◌≡◌, ◌≢◌, ℕ, ◌≤◌}
use Rattle.sm_defs.specs.Words.{KeysDiffer}
use Rattle.sm_defs.specs.Image.{Block}
use Rattle.sm_defs.specs.Volume.{Volume, ident_of}
use Rattle.sm_defs.specs.World.{Up}
use Rattle.sm_model.specs.Standing.{Stored, EachVolume}

pub record TagsFitIn (v : Volume) : Type 0 where
  pub one_place : (p q : ℕ) (b c : Block) → Stored v p b → Stored v q c → b.tag ≡ c.tag → b.tag ≢ 0 → (p ≡ q) × (b ≡ c)
  pub in_range : (p : ℕ) (b : Block) → Stored v p b → b.tag ≤ v.physical
  pub idents_differ : KeysDiffer ident_of v.snapshots

abbrev pub TagsFit : Up → Type 0
TagsFit w = EachVolume TagsFitIn w
