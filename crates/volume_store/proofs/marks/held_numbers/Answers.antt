use Rattle.std.proofs.Common.{◌≡◌, ◌⊎◌, inr, ◌<◌, ◌≤◌, ◌||◌, List, [], ℕ, length, get_or, map, take, ◌∙◌, ap, ap₂, subst, arith}
use Rattle.sm_defs.specs.Image.{stands}
use Rattle.sm_defs.specs.Words.{Among}
use Rattle.sm_defs.proofs.Members.{among_map}
use Rattle.sm_root.specs.declared.root.RootSnapshot.{RootSnapshot}
use Rattle.sm_root.specs.Condition.{map_of}
use Rattle.volume_store.proofs.MapLemmas.{among_get, among_map_take, known_beside, uses_next}
use Rattle.volume_store.proofs.marks.held_numbers.Goals as goal

pub mark-requires-clause-inside : goal.mark-requires-clause-inside
mark-requires-clause-inside c = λ i.
    let snapshots = c.args.root.now.snapshots in
    let at = c.loop-at.at in
    let s = get_or snapshots at c.index-snapshots-at.result in
    let less : at < length snapshots = subst (λ (l : List RootSnapshot). at < length l) c.as_slice-snapshots.ensures c.loop-at-test.true in
    let within : get_or s.map i 0 ≤ c.args.root.now.physical = c.requires.maps.within s.map (inr (among_map map_of snapshots s (among_get snapshots at c.index-snapshots-at.result less))) i in
    let read : get_or c.as_slice.result.now i 0 ≡ get_or s.map i 0 =
    ap (λ (xs : List ℕ). get_or xs i 0) (c.as_slice.ensures ∙ ap (λ (l : List RootSnapshot). (get_or l at c.index-snapshots-at.result).map) c.as_slice-snapshots.ensures) in
    omega (arith, within, read, c.loop-at.invariant.long)

pub mark-requires-clause-known : goal.mark-requires-clause-known
mark-requires-clause-known c =
    let snapshots = c.args.root.now.snapshots in
    let at = c.loop-at.at in
    known_beside c.loop-at.set c.args.root.now.physical (map map_of (take at snapshots)) c.last_map.result.now c.loop-at.invariant
    (subst (λ (l : List RootSnapshot). (c.last_map.result.now ≡ []) ⊎ Among (map map_of (take at l)) c.last_map.result.now) c.as_slice-snapshots.ensures c.last_map.ensures)
    (λ y is i. c.requires.maps.within y (inr (among_map_take at snapshots y is)) i)

pub loop-at-preserved : goal.loop-at-preserved
loop-at-preserved c =
    let snapshots = c.args.root.now.snapshots in
    let at = c.loop-at.at in
    let less : at < length snapshots = subst (λ (l : List RootSnapshot). at < length l) c.as_slice-snapshots.ensures c.loop-at-test.true in
    let is : c.as_slice.result.now ≡ (get_or snapshots at c.index-snapshots-at.result).map =
    c.as_slice.ensures ∙ ap (λ (l : List RootSnapshot). (get_or l at c.index-snapshots-at.result).map) c.as_slice-snapshots.ensures in
    record {
      long = c.mark.ensures.long ∙ c.loop-at.invariant.long;
      hole = c.mark.ensures.each 0 ∙ ap (λ b. b || stands 0 c.as_slice.result.now) c.loop-at.invariant.hole;
      each = λ n some within.
          c.mark.ensures.each n ∙ ap₂ (λ a b. a || b) (c.loop-at.invariant.each n some within) (ap (stands n) is)
          ∙ uses_next snapshots at c.index-snapshots-at.result n less;
    }
