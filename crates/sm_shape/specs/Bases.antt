-- What a destination shows, by its maps.
use Rattle.std.specs.Prelude.{◌≡◌, ℕ, true, List, map, Some}
use Rattle.std.specs.List.{All}
use Rattle.sm_base.specs.declared.numbers.Ident.{Ident}
use Rattle.sm_base.specs.declared.numbers.Kind.TheVariants.{Dp}
use Rattle.sm_defs.specs.Relationship.{Relationship, legs_of}
use Rattle.sm_model.specs.DestinationsStand.{newest_published}
use Rattle.sm_model.specs.declared.world.WorldVolume.{WorldVolume}
use Rattle.sm_model.specs.declared.world.WorldSnapshot.{WorldSnapshot}
use Rattle.sm_shape.specs.Blank.{blank_snapshot}

-- the snapshot has the numbers, if it has the identity
abbrev pub ShowsOne : Ident → List ℕ → WorldSnapshot → Type 0
ShowsOne i numbers s = s.ident ≡ i → numbers ≡ s.map.items

abbrev pub newest_of : Relationship → WorldVolume → Ident → Ident
newest_of r v base = newest_published (map blank_snapshot v.snapshots.items) base (legs_of r.transfer)

abbrev pub ShowsNewest : Relationship → WorldVolume → Ident → Type 0
ShowsNewest r v base = All (ShowsOne (newest_of r v base) v.active.items) v.snapshots.items

abbrev pub ShowsBase : Relationship → WorldVolume → Type 0
ShowsBase r v = (base : Ident) → r.destination_half ≡ true → v.kind ≡ Dp → r.base ≡ Some base → ShowsNewest r v base
