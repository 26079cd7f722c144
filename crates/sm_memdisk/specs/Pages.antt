-- The content of a disk, in pages by number; a page that is missing holds zeros.
use Rattle.std.specs.Prelude.{ℕ, ◌+◌, ◌/◌, ◌%◌, ◌<◌, List, slice_index, Option, Some, None, IsSome}
use Rattle.std.specs.Ordering.{nat_cmp}
use Rattle.std.specs.Map.{lookup}
use Rattle.std.specs.BTreeMap.{is_at}
use Rattle.sm_disk.specs.Image.{Image}

-- the entries of a map from numbers to pages
abbrev pub Pages : Type 0
Pages = List (ℕ × List ℕ)

-- the page of this number
abbrev pub page_of : Pages → ℕ → Option (List ℕ)
page_of pages number = lookup (is_at (nat_cmp number)) pages

abbrev pub page_image : List ℕ → Image
page_image bytes k = slice_index bytes k

abbrev pub page_byte : Option (List ℕ) → ℕ → ℕ
page_byte None k = 0
page_byte (Some bytes) k = page_image bytes k

-- the page of a place
abbrev pub page_at : Pages → ℕ → Option (List ℕ)
page_at pages place = page_of pages (place / 4096)

unfoldable pub image_of : Pages → Image
image_of pages place = page_byte (page_at pages place) (place % 4096)

abbrev pub Stands : Pages → ℕ → Type 0
Stands pages number = IsSome (page_of pages number)

-- the pages of n places stand
abbrev pub IsTouched : Pages → ℕ → ℕ → Type 0
IsTouched pages at n = (k : ℕ) → k < n → IsSome (page_at pages (at + k))

-- each page that stands goes on standing
abbrev pub KeepsPages : Pages → Pages → Type 0
KeepsPages old new = (number : ℕ) → Stands old number → Stands new number
