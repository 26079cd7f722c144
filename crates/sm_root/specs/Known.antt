-- A set that has the identities of these snapshots.
use Rattle.std.specs.Prelude.{◌≡◌, List}
use Rattle.std.specs.List.{list_any}
use Rattle.std.specs.declared.hash.FoldHasher.{FoldHasher}
use Rattle.std.specs.declared.hash.BuildHasherDefault.{BuildHasherDefault}
use Rattle.std.specs.HashSet.{HashSet, contains}
use Rattle.sm_base.specs.declared.numbers.Ident.{Ident}
use Rattle.sm_defs.specs.Words.{same_ident}
use Rattle.sm_root.specs.declared.root.RootSnapshot.{RootSnapshot}

abbrev pub Knows : List RootSnapshot → HashSet Ident (BuildHasherDefault FoldHasher) → Type 0
Knows before idents = (i : Ident) → contains same_ident idents i ≡ list_any (λ s. same_ident s.ident i) before
