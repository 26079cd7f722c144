-- Copies of snapshots with their families, by their numbers, and by what is told of them.
use Rattle.std.specs.Prelude.{◌≡◌, ℕ, List, [], ◌∷◌, Bool, ◌&&◌, ◌==◌}
use Rattle.std.specs.List.{flat_map}
use Rattle.sm_base.specs.declared.numbers.Ident.{Ident}
use Rattle.sm_defs.specs.Words.{same_ident}
use Rattle.sm_model.specs.declared.world.WorldVolume.{WorldVolume}
use Rattle.sm_model.specs.declared.world.WorldSnapshot.{WorldSnapshot}
use Rattle.sm_shape.specs.Blank.{blank_snapshot}
use Rattle.sm_shape.specs.Shape.{IsNamedCopy}
use Rattle.sm_shape.specs.Firsts.{Item, Table, TakesItems}
use Rattle.sm_shape.specs.declared.families.CopyKey.{CopyKey}

abbrev pub copy_of : ℕ → WorldSnapshot → Item CopyKey (List ℕ)
copy_of family s = record { key = record { family = family; ident = s.ident }; value = s.map.items }

abbrev pub one_copy : ℕ → WorldSnapshot → List (Item CopyKey (List ℕ))
one_copy family s = copy_of family s ∷ []

abbrev pub copies_of : WorldVolume → List (Item CopyKey (List ℕ))
copies_of v = flat_map (one_copy v.family) v.snapshots.items

abbrev pub same_key : CopyKey → CopyKey → Bool
same_key x y = (x.family == y.family) && same_ident x.ident y.ident

abbrev pub Equal : List ℕ → List ℕ → Type 0
Equal x y = x ≡ y

-- the test of more copies
abbrev pub TakesCopies : Table CopyKey (List ℕ) → Table CopyKey (List ℕ) → List (Item CopyKey (List ℕ)) → Bool → Type 0
TakesCopies old new copies agree = TakesItems CopyKey (List ℕ) same_key Equal old new copies agree

abbrev pub named_copy : WorldSnapshot → Item Ident WorldSnapshot
named_copy s = record { key = s.ident; value = s }

abbrev pub one_named : WorldSnapshot → List (Item Ident WorldSnapshot)
one_named s = named_copy s ∷ []

abbrev pub named_of : WorldVolume → List (Item Ident WorldSnapshot)
named_of v = flat_map one_named v.snapshots.items

abbrev pub Alike : WorldSnapshot → WorldSnapshot → Type 0
Alike s t = IsNamedCopy (blank_snapshot s) (blank_snapshot t)

abbrev pub TakesNamed : Table Ident WorldSnapshot → Table Ident WorldSnapshot → List (Item Ident WorldSnapshot) → Bool → Type 0
TakesNamed old new copies agree = TakesItems Ident WorldSnapshot same_ident Alike old new copies agree
