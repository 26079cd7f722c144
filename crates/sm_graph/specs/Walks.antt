-- What is found upstream, breadth first.
use Rattle.std.specs.Prelude.{ℕ, zero, suc, ◌==◌, List, [], map, filter, Option, None, Some, nat_eq, slice_get}
use Rattle.indexmap.specs.IndexSet.{insert_all}
use Rattle.sm_defs.specs.Edges.{Edge}

-- where the edges begin that end at the volume
abbrev pub sources_of : List Edge → ℕ → List ℕ
sources_of es v = map (λ e. e.from) (filter (λ e. e.to == v) es)

-- with the sources of a volume that was found
abbrev pub with_sources : List Edge → List ℕ → Option ℕ → List ℕ
with_sources es found None = found
with_sources es found (Some u) = insert_all nat_eq found (sources_of es u)

-- what is found once so many of the volumes that were found are visited, each in its turn
abbrev pub found_after : List Edge → ℕ → ℕ → List ℕ
found_after es v zero = insert_all nat_eq [] (sources_of es v)
found_after es v (suc n) = with_sources es (found_after es v n) (slice_get (found_after es v n) n)
