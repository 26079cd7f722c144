use Rattle.std.proofs.Common.{◌≡◌, List, ℕ, Bool, length, sym, ◌∙◌, ap, subst}
use Rattle.sm_bits.specs.Places.{union_of}
use Rattle.volume_store.specs.Maps.{all_maps, kept_maps, AreUsed, AreFree, AreMarks}
use Rattle.volume_store.proofs.MapLemmas.{free_are}
use Rattle.volume_store.proofs.MarkLemmas.{kept_marks, used_marks, as_many_used}
use Rattle.volume_store.proofs.state.State.new.Goals as goal

pub united-requires-2 : goal.united-requires-2
united-requires-2 c =
    let m = c.in_ok-marks.marks in
    as_many_used m.held m.settled m.live c.args.root c.args.root.stable c.in_ok-marks.ensures ∙ ap (λ (s : List Bool). length s) (sym c.in_ok-kept.ensures)

pub new-requires : goal.new-requires
new-requires c =
    let m = c.in_ok-marks.marks in
    let is : c.in_ok-used.used ≡ union_of (union_of m.held m.settled) m.live = c.in_ok-used.ensures ∙ ap (λ (s : List Bool). union_of s m.live) c.in_ok-kept.ensures in
    ap (λ (s : List Bool). length s) is ∙ (used_marks m.held m.settled m.live c.args.root c.args.root.stable c.in_ok-marks.ensures).long

pub invariant_of-result : goal.invariant_of-result
invariant_of-result c =
    let m = c.in_ok-marks.marks in
    let root = c.args.root in
    let active = c.args.active.items in
    let marks : AreMarks m.held m.settled m.live root active = subst (λ (a : List ℕ). AreMarks m.held m.settled m.live root a) (sym c.requires.settled) c.in_ok-marks.ensures in
    let is : c.in_ok-used.used ≡ union_of (union_of m.held m.settled) m.live = c.in_ok-used.ensures ∙ ap (λ (s : List Bool). union_of s m.live) c.in_ok-kept.ensures in
    let used : AreUsed c.in_ok-used.used root.physical (all_maps root active) = subst (λ (s : List Bool). AreUsed s root.physical (all_maps root active)) (sym is) (used_marks m.held m.settled m.live root active marks) in
    record {
      maps = c.requires.maps;
      good = c.requires.good;
      marks = marks;
      used = subst (λ (s : List Bool). AreUsed s root.physical (kept_maps root)) (sym c.in_ok-kept.ensures) (kept_marks m.held m.settled m.live root active marks);
      free = subst (λ (s : List Bool). AreFree s root.physical (all_maps root active)) (sym c.in_ok-space.ensures) (free_are c.in_ok-used.used root.physical (all_maps root active) used);
    }
