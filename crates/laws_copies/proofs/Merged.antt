-- An image comes to a volume.
use Rattle.std.proofs.Common.{◌≡◌, ◌≢◌, ◌⊎◌, ◌≤◌, ℕ, Some, refl, sym, subst, inl, inr}
use Rattle.std.specs.Prelude.{slice_get}
use Rattle.sm_defs.specs.Words.{KeysDiffer}
use Rattle.sm_defs.specs.Image.{Block, Image, hole}
use Rattle.sm_defs.specs.Volume.{Volume, ident_of}
use Rattle.sm_model.specs.Standing.{Stored}
use Rattle.sm_model.specs.TagsFit.{TagsFitIn}

-- each block of u is one of v or stands in the image
abbrev pub StoredIn : Volume → Volume → Image → Type 0
StoredIn v u image = (p : ℕ) (b : Block) → Stored u p b → (slice_get image p ≡ Some b) ⊎ Stored v p b

pub record FitsTo (v : Volume) (image : Image) : Type 0 where
  pub itself : (p q : ℕ) (b c : Block) → slice_get image p ≡ Some b → slice_get image q ≡ Some c → b.tag ≡ c.tag → b.tag ≢ 0 → (p ≡ q) × (b ≡ c)
  pub small : (p : ℕ) (b : Block) → slice_get image p ≡ Some b → b.tag ≤ v.physical
  pub across : (p q : ℕ) (b c : Block) → slice_get image p ≡ Some b → Stored v q c → b.tag ≡ c.tag → b.tag ≢ 0 → (p ≡ q) × (b ≡ c)

pub fits_merged : (v u : Volume) (image : Image) → StoredIn v u image → FitsTo v image → u.physical ≡ v.physical → KeysDiffer ident_of u.snapshots → TagsFitIn v → TagsFitIn u
fits_merged v u image h k e d f = record { one_place = λ p q b c s t. both p q b c (h p b s) (h q c t); in_range = λ p b s. low p b (h p b s); idents_differ = d }
  where
    both : (p q : ℕ) (b c : Block) → (slice_get image p ≡ Some b) ⊎ Stored v p b → (slice_get image q ≡ Some c) ⊎ Stored v q c → b.tag ≡ c.tag → b.tag ≢ 0 → (p ≡ q) × (b ≡ c)
    both p q b c (inl i) (inl j) g n = k.itself p q b c i j g n
    both p q b c (inl i) (inr t) g n = k.across p q b c i t g n
    both p q b c (inr s) (inl j) g n = let z = k.across q p c b j s (sym g) (subst (λ y. y ≢ 0) g n) in (sym z.0, sym z.1)
    both p q b c (inr s) (inr t) g n = f.one_place p q b c s t g n

    low : (p : ℕ) (b : Block) → (slice_get image p ≡ Some b) ⊎ Stored v p b → b.tag ≤ u.physical
    low p b (inl i) = rw e (k.small p b i)
    low p b (inr s) = rw e (f.in_range p b s)

pub hole_tag : hole.tag ≡ 0
unfolding hole
hole_tag = refl
