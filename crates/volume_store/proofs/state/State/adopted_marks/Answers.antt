use Rattle.std.proofs.Common.{◌≡◌, ◌+◌, List, [], ◌∷◌, Bool, ℕ, length, refl, sym, ◌∙◌, ap, ap₂, subst, arith}
use Rattle.std.proofs.lemmas.Bool.Decides.{nat_tests}
use Rattle.std.proofs.lemmas.List.{nil_from_length}
use Rattle.sm_bits.specs.Places.{union_of}
use Rattle.volume_store.specs.Maps.{Maps, held_maps, AreUsed}
use Rattle.volume_store.specs.declared.marks.Marks.{Marks}
use Rattle.volume_store.proofs.MarkLemmas.{marks_moved, with_one}
use Rattle.volume_store.proofs.state.State.adopted_marks.Goals as goal

pub united-requires : goal.united-requires
united-requires c =
    let same : c.args.root.now.physical ≡ c.self.inside.root.physical = c.requires.same ∙ sym (ap (λ (m : Maps). m.root.physical) c.self.view_is) in
    c.in_ok-live.ensures.long ∙ ap (λ n. n + 1) same ∙ sym c.self.invariant.marks.of_snapshots.long

pub returns : goal.returns
returns c =
    let root = c.args.root.now in
    let old = c.args.self.now.root in
    let held = c.self.inside.marks.held in
    let none : length c.args.drops.now ≡ 0 = (let a = c.is_empty.ensures in let b = c.if-not-is_empty.false in grind (arith, nat_tests)) in
    let live : AreUsed c.in_ok-live.live root.physical (root.stable ∷ []) = subst (λ (x : List ℕ). AreUsed c.in_ok-live.live root.physical (x ∷ [])) c.as_slice.ensures c.in_ok-live.ensures in
    let of_old : AreUsed held old.physical (held_maps old) = subst (λ (m : Maps). AreUsed held m.root.physical (held_maps m.root)) c.self.view_is c.self.invariant.marks.of_snapshots in
    marks_moved (record { held = c.in_ok-held.held; settled = c.in_ok-copy.field-0; live = c.in_ok-live.live })
    (record { held = union_of held c.in_ok-live.live; settled = c.in_ok-live.live; live = c.in_ok-live.live }) root root root.stable root.stable
    (ap₂ (λ (h s : List Bool). let m : Marks = record { held = h; settled = s; live = c.in_ok-live.live } in m) c.in_ok-held.ensures c.in_ok-copy.ensures) refl refl
    (with_one held c.in_ok-live.live old root c.requires.same of_old live (c.requires.behind (nil_from_length c.args.drops.now none)))
