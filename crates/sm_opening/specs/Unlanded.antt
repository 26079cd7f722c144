-- A world in which nothing of any transfer has landed: what opening tests of a world asks for no number that landed.
use Rattle.std.specs.Prelude.{[], map}
use Rattle.std.specs.Option.{option_map}
use Rattle.sm_defs.specs.Relationship.{Relationship, Transfer}
use Rattle.sm_defs.specs.World.{Up}

abbrev pub unlanded_transfer : Transfer → Transfer
unlanded_transfer t = record t { landed = [] }

abbrev pub unlanded_relation : Relationship → Relationship
unlanded_relation r = record r { transfer = option_map unlanded_transfer r.transfer }

abbrev pub unlanded : Up → Up
unlanded w = record w { relations = map unlanded_relation w.relations }
