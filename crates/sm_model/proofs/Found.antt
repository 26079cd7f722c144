-- A snapshot that is there is found by its identity.
use Rattle.std.proofs.Common.{◌≡◌, true, List, Some}
use Rattle.sm_base.specs.declared.numbers.Ident.{Ident}
use Rattle.sm_defs.specs.Words.{same_ident}
use Rattle.sm_defs.specs.Volume.{Snapshot, has}
use Rattle.sm_defs.proofs.Searches.{find_any}
use Rattle.sm_model.specs.Steps.{snapshot_of}

pub found_one : (ss : List Snapshot) (i : Ident) → has ss i ≡ true → (s : Snapshot) × (snapshot_of ss (Some i) ≡ Some s)
found_one ss i h = find_any (λ s. same_ident s.ident i) ss h
