-- Blocks and images.
use Rattle.std.specs.Prelude.{◌≡◌, ℕ, ◌+◌, ◌==◌, ◌||◌, if◌then◌else◌, Bool, List, [], ◌∷◌, map, flat_map, replicate}
use Rattle.std.specs.List.{list_any}

-- a block's bytes, with the physical number that it lies at, 0 for a hole
pub record Block : Type 0 where
  pub tag : ℕ
  pub bytes : List ℕ

-- no block is there, and it reads as zeros
unfoldable pub hole : Block
hole = record { tag = 0; bytes = replicate 4096 0 }

-- a block of one byte, at a number
unfoldable pub full_block : ℕ → ℕ → Block
full_block tag fill = record { tag = tag; bytes = replicate 4096 fill }

-- the logical blocks of a volume, in order
abbrev pub Image : Type 0
Image = List Block

abbrev pub tag_of : Block → ℕ
tag_of b = b.tag

abbrev pub bytes_of : Block → List ℕ
bytes_of b = b.bytes

abbrev pub tags : Image → List ℕ
tags image = map tag_of image

-- all bytes, block after block
abbrev pub image_bytes : Image → List ℕ
image_bytes image = flat_map bytes_of image

-- the bytes agree at every place
abbrev pub SameContents : Image → Image → Type 0
SameContents x y = map bytes_of x ≡ map bytes_of y

abbrev pub stands : ℕ → List ℕ → Bool
stands t ts = list_any (λ u. u == t) ts

-- how many different numbers but 0 there are
abbrev pub distinct : List ℕ → ℕ
distinct [] = 0
distinct (t ∷ ts) = if (t == 0) || stands t ts then distinct ts else 1 + distinct ts
