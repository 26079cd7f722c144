-- The numbers of a snapshot, by its identity.
use Rattle.std.specs.Prelude.{ℕ, List, [], Option, Some, None}
use Rattle.std.specs.List.{find}
use Rattle.sm_base.specs.declared.numbers.Ident.{Ident}
use Rattle.sm_defs.specs.Words.{same_ident}
use Rattle.sm_model.specs.declared.world.WorldSnapshot.{WorldSnapshot}

abbrev pub numbers_in : Option WorldSnapshot → List ℕ
numbers_in None = []
numbers_in (Some s) = s.map.items

-- none where there is no such snapshot
abbrev pub map_of : List WorldSnapshot → Ident → List ℕ
map_of ss i = numbers_in (find (λ s. same_ident s.ident i) ss)

abbrev pub base_map : List WorldSnapshot → Option Ident → List ℕ
base_map ss None = []
base_map ss (Some i) = map_of ss i
