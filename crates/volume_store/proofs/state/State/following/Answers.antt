use Rattle.std.proofs.Common.{◌≡◌, ◌+◌, List, Bool, length, sym, ◌∙◌, ap, subst}
use Rattle.sm_bits.specs.Places.{union_of}
use Rattle.volume_store.specs.Maps.{Maps, all_maps, kept_maps, AreUsed, AreFree}
use Rattle.volume_store.proofs.MapLemmas.{free_are}
use Rattle.volume_store.proofs.MarkLemmas.{kept_marks, used_marks, as_many_kept, as_many_used}
use Rattle.volume_store.proofs.state.State.following.Goals as goal

pub united-requires : goal.united-requires
united-requires c = as_many_kept c.args.marks.held c.args.marks.settled c.args.marks.live c.args.root c.args.active.items c.requires.marks

pub united-requires-2 : goal.united-requires-2
united-requires-2 c =
    as_many_used c.args.marks.held c.args.marks.settled c.args.marks.live c.args.root c.args.active.items c.requires.marks ∙ ap (λ (s : List Bool). length s) (sym c.in_ok-kept.ensures)

pub reset-requires : goal.reset-requires
reset-requires c =
    let root = c.args.root in
    let is : c.in_ok-used.used ≡ union_of (union_of c.args.marks.held c.args.marks.settled) c.args.marks.live =
    c.in_ok-used.ensures ∙ ap (λ (s : List Bool). union_of s c.args.marks.live) c.in_ok-kept.ensures in
    let used = used_marks c.args.marks.held c.args.marks.settled c.args.marks.live root c.args.active.items c.requires.marks in
    let same : root.physical ≡ c.self.inside.root.physical = c.requires.same ∙ sym (ap (λ (m : Maps). m.root.physical) c.self.view_is) in
    ap (λ (s : List Bool). length s) is ∙ used.long ∙ ap (λ n. n + 1) same ∙ sym c.self.invariant.free.long ∙ ap (λ (s : List Bool). length s) (sym c.in_ok-space.ensures)

pub invariant_of-result : goal.invariant_of-result
invariant_of-result c =
    let root = c.args.root in
    let active = c.args.active.items in
    let is : c.in_ok-used.used ≡ union_of (union_of c.args.marks.held c.args.marks.settled) c.args.marks.live =
    c.in_ok-used.ensures ∙ ap (λ (s : List Bool). union_of s c.args.marks.live) c.in_ok-kept.ensures in
    let used : AreUsed c.in_ok-used.used root.physical (all_maps root active) =
    subst (λ (s : List Bool). AreUsed s root.physical (all_maps root active)) (sym is) (used_marks c.args.marks.held c.args.marks.settled c.args.marks.live root active c.requires.marks) in
    record {
      maps = c.requires.maps;
      good = c.requires.good;
      marks = c.requires.marks;
      used = subst (λ (s : List Bool). AreUsed s root.physical (kept_maps root)) (sym c.in_ok-kept.ensures) (kept_marks c.args.marks.held c.args.marks.settled c.args.marks.live root active c.requires.marks);
      free = subst (λ (s : List Bool). AreFree s root.physical (all_maps root active)) (sym c.reset.ensures) (free_are c.in_ok-used.used root.physical (all_maps root active) used);
    }
