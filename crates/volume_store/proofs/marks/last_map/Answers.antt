use Rattle.std.proofs.Common.{◌-◌, inr, List, ℕ, length, map, sym, subst}
use Rattle.sm_defs.specs.Words.{Among}
use Rattle.sm_defs.proofs.Members.{among_map}
use Rattle.sm_root.specs.Condition.{map_of}
use Rattle.volume_store.proofs.MapLemmas.{among_at_place}
use Rattle.volume_store.proofs.marks.last_map.Goals as goal

pub returns-in-Some : goal.returns-in-Some
returns-in-Some c =
    let snapshots = c.args.snapshots.now in
    let s = c.in-Some.snapshot.now in
    inr (subst (λ (x : List ℕ). Among (map map_of snapshots) x) (sym c.as_slice.ensures)
    (among_map map_of snapshots s (among_at_place snapshots (length snapshots - 1) s c.in-Some.ensures.value)))
