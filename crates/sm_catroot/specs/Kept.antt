-- What a slot of disk 0 spells.
use Rattle.std.specs.Prelude.{◌≡◌, ℕ, length}
use Rattle.sm_fields.specs.Grammar.{FirstFault}
use Rattle.sm_slots.specs.Stored.{Stored, Blank, Record, BadLength}
use Rattle.sm_catroot.specs.Catalog.{Catalog, empty_catalog}
use Rattle.sm_catroot.specs.Condition.{IsCatalog}
use Rattle.sm_catroot.specs.Layout.{catalog_record}
use Rattle.sm_catroot.specs.Spelling.{spelling}

-- a blank slot stands for the empty catalogue
abbrev pub ShowsCatalog : Catalog → Stored → Type 0
ShowsCatalog k Blank = k ≡ empty_catalog
ShowsCatalog k (Record bytes) = IsCatalog k × (bytes ≡ spelling k)
ShowsCatalog k BadLength = ⊥

abbrev pub BreaksCatalog : Stored → ℕ → Type 0
BreaksCatalog Blank at = ⊥
BreaksCatalog (Record bytes) at = FirstFault (catalog_record (length bytes)) bytes at
BreaksCatalog BadLength at = ⊥
