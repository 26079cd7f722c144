-- Which image a read means.
use Rattle.std.specs.Prelude.{ℕ, List, Option, Some, None, Result, Ok, Err, option_map}
use Rattle.std.specs.Str.{bytes_eq}
use Rattle.sm_base.specs.declared.numbers.Ident.{Ident}
use Rattle.sm_base.specs.declared.refusal.Refusal.{Refusal}
use Rattle.sm_base.specs.declared.refusal.Refusal.TheVariants as refusals
use Rattle.sm_defs.specs.Volume.{Volume, Snapshot, ident_of}
use Rattle.sm_defs.specs.Words.{last_that}
use Rattle.volume_store.specs.declared.io.View.{View}
use Rattle.volume_store.specs.declared.io.View.TheVariants.{Active, Of}

abbrev pub view_of_ident : List ℕ → Option Ident → Result View Refusal
view_of_ident name None = Err (refusals.NoSnapshot name)
view_of_ident name (Some i) = Ok (Of i)

abbrev pub view_of_newest : Volume → List ℕ → Result View Refusal
view_of_newest v name = view_of_ident name (option_map ident_of (last_that (λ (s : Snapshot). bytes_eq s.name name) v.snapshots))

-- the active image, or that of the newest snapshot of the name
abbrev pub view_named : Volume → Option (List ℕ) → Result View Refusal
view_named v None = Ok Active
view_named v (Some name) = view_of_newest v name
