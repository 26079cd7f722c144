-- What each call makes of a volume's maps.
use Rattle.std.specs.Prelude.{◌≡◌, ℕ, suc, ◌*◌, ◌==◌, not, List, [], ◌∷◌, ◌++◌, cond, Bool, Some, find, map}
use Rattle.std.specs.List.{filter}
use Rattle.sm_base.specs.declared.numbers.Ident.{Ident}
use Rattle.sm_base.specs.declared.numbers.Kind.TheVariants.{Rw, Dp}
use Rattle.sm_defs.specs.Words.{has_ident, same_ident, up_to}
use Rattle.sm_root.specs.declared.root.Root.{Root}
use Rattle.sm_root.specs.declared.root.RootSnapshot.{RootSnapshot}
use Rattle.sm_root.specs.Condition.{map_of}
use Rattle.volume_store.specs.Maps.{Maps}

abbrev pub map_maps : List RootSnapshot → List (List ℕ)
map_maps snapshots = map map_of snapshots

-- a consistency point
abbrev pub settled : Maps → Maps
settled m = record m { root = record m.root { stable = m.active } }

-- a number of a client's snapshot is used up with it
abbrev pub next_after : Root → Ident → ℕ
next_after r i = cond (i.seq == 2 * r.next) (suc r.next) r.next

-- a consistency point with a snapshot behind the others
abbrev pub snapped : Maps → RootSnapshot → Maps
snapped m s = record m { root = record m.root { stable = m.active; next = next_after m.root s.ident; snapshots = m.root.snapshots ++ s ∷ [] } }

-- the snapshots that are not among these
abbrev pub staying : List Ident → List RootSnapshot → List RootSnapshot
staying drops snapshots = filter (λ s. not (has_ident drops s.ident)) snapshots

abbrev pub without : Maps → List Ident → Maps
without m drops = record m { root = record m.root { snapshots = staying drops m.root.snapshots } }

-- the snapshot's map becomes the stable and the active one
abbrev pub adopted : Maps → RootSnapshot → ℕ → List Ident → Maps
adopted m s family drops = record {
  root = record m.root { family = family; stable = s.map; snapshots = staying drops (m.root.snapshots ++ s ∷ []) };
  active = s.map;
}

-- clients write it
abbrev pub writable : Maps → Maps
writable m = record m { root = record m.root { kind = Rw } }

-- a destination with the map of one of its snapshots, and these snapshots
abbrev pub reverted : Maps → List ℕ → ℕ → List RootSnapshot → Maps
reverted m map family snapshots = record {
  root = record m.root { kind = Dp; family = family; stable = map; snapshots = snapshots };
  active = map;
}

-- the map of the snapshot of this identity, with all snapshots or with those up to that one
abbrev pub IsReverted : Maps → Ident → Bool → ℕ → Maps → Type 0
IsReverted m i drop_newer family next =
    (s : RootSnapshot) × (find (λ t. same_ident t.ident i) m.root.snapshots ≡ Some s)
    × (next ≡ reverted m s.map family (cond drop_newer (up_to (λ t. same_ident t.ident i) m.root.snapshots) m.root.snapshots))

-- one snapshot more, with the stable map
abbrev pub IsWith : Root → Root → Type 0
IsWith old new = (s : RootSnapshot) × (new.snapshots ≡ old.snapshots ++ s ∷ []) × (s.map ≡ new.stable)
