use Rattle.std.proofs.Common.{◌≡◌, List, ℕ, sym, ◌∙◌, ap, ap₂, subst}
use Rattle.sm_root.specs.declared.root.Root.{Root}
use Rattle.sm_root.specs.declared.root.RootSnapshot.{RootSnapshot}
use Rattle.sm_root.specs.Condition.{IsRoot}
use Rattle.volume_store.specs.Maps.{Maps, AreMapsOf, all_maps}
use Rattle.volume_store.specs.Next.{staying, without}
use Rattle.volume_store.proofs.Sound.{maps_without, good_without, maps_of_root, moved_maps}
use Rattle.volume_store.proofs.state.State.without.Goals as goal

pub following-requires-clause-maps : goal.following-requires-clause-maps
following-requires-clause-maps c =
    let m = c.args.self.now in
    let drops = c.args.drops.now in
    let stable = c.in_ok-copy.ensures ∙ ap (λ (w : Maps). w.root.stable) c.self.view_is in
    let list : c.in_ok-list.list.items ≡ staying drops m.root.snapshots = c.in_ok-list.ensures ∙ ap (staying drops) (c.as_slice.ensures ∙ ap (λ (w : Maps). w.root.snapshots) c.self.view_is) in
    let is : c.root_with-root.result ≡ (without m drops).root =
    c.root_with-root.ensures ∙ ap₂ (λ (xs : List ℕ) (l : List RootSnapshot). (let r : Root = record m.root { stable = xs; snapshots = l } in r)) stable list in
    let good : IsRoot m.root = subst (λ (w : Maps). IsRoot w.root) c.self.view_is c.self.invariant.good in
    let maps : AreMapsOf m.root.logical m.root.physical (all_maps m.root m.active) = subst (λ (w : Maps). AreMapsOf w.root.logical w.root.physical (all_maps w.root w.active)) c.self.view_is c.self.invariant.maps in
    moved_maps c.root_with-root.result (without m drops).root c.in_ok-active_copy.field-0.items m.active is c.in_ok-active_copy.ensures (maps_without m good maps drops)

pub following-requires-clause-good : goal.following-requires-clause-good
following-requires-clause-good c =
    let m = c.args.self.now in
    let drops = c.args.drops.now in
    let stable = c.in_ok-copy.ensures ∙ ap (λ (w : Maps). w.root.stable) c.self.view_is in
    let list : c.in_ok-list.list.items ≡ staying drops m.root.snapshots = c.in_ok-list.ensures ∙ ap (staying drops) (c.as_slice.ensures ∙ ap (λ (w : Maps). w.root.snapshots) c.self.view_is) in
    let is : c.root_with-root.result ≡ (without m drops).root =
    c.root_with-root.ensures ∙ ap₂ (λ (xs : List ℕ) (l : List RootSnapshot). (let r : Root = record m.root { stable = xs; snapshots = l } in r)) stable list in
    let good : IsRoot m.root = subst (λ (w : Maps). IsRoot w.root) c.self.view_is c.self.invariant.good in
    let maps : AreMapsOf m.root.logical m.root.physical (all_maps m.root m.active) = subst (λ (w : Maps). AreMapsOf w.root.logical w.root.physical (all_maps w.root w.active)) c.self.view_is c.self.invariant.maps in
    subst IsRoot (sym is) (good_without m good maps drops)

pub held_numbers-requires-clause-maps : goal.held_numbers-requires-clause-maps
held_numbers-requires-clause-maps c =
    let m = c.args.self.now in
    let drops = c.args.drops.now in
    let stable = c.in_ok-copy.ensures ∙ ap (λ (w : Maps). w.root.stable) c.self.view_is in
    let list : c.in_ok-list.list.items ≡ staying drops m.root.snapshots = c.in_ok-list.ensures ∙ ap (staying drops) (c.as_slice.ensures ∙ ap (λ (w : Maps). w.root.snapshots) c.self.view_is) in
    let is : c.root_with-root.result ≡ (without m drops).root =
    c.root_with-root.ensures ∙ ap₂ (λ (xs : List ℕ) (l : List RootSnapshot). (let r : Root = record m.root { stable = xs; snapshots = l } in r)) stable list in
    let good : IsRoot m.root = subst (λ (w : Maps). IsRoot w.root) c.self.view_is c.self.invariant.good in
    let maps : AreMapsOf m.root.logical m.root.physical (all_maps m.root m.active) = subst (λ (w : Maps). AreMapsOf w.root.logical w.root.physical (all_maps w.root w.active)) c.self.view_is c.self.invariant.maps in
    maps_of_root c.root_with-root.result (subst IsRoot (sym is) (good_without m good maps drops))

pub held_numbers-requires-clause-good : goal.held_numbers-requires-clause-good
held_numbers-requires-clause-good c =
    let m = c.args.self.now in
    let drops = c.args.drops.now in
    let stable = c.in_ok-copy.ensures ∙ ap (λ (w : Maps). w.root.stable) c.self.view_is in
    let list : c.in_ok-list.list.items ≡ staying drops m.root.snapshots = c.in_ok-list.ensures ∙ ap (staying drops) (c.as_slice.ensures ∙ ap (λ (w : Maps). w.root.snapshots) c.self.view_is) in
    let is : c.root_with-root.result ≡ (without m drops).root =
    c.root_with-root.ensures ∙ ap₂ (λ (xs : List ℕ) (l : List RootSnapshot). (let r : Root = record m.root { stable = xs; snapshots = l } in r)) stable list in
    let good : IsRoot m.root = subst (λ (w : Maps). IsRoot w.root) c.self.view_is c.self.invariant.good in
    let maps : AreMapsOf m.root.logical m.root.physical (all_maps m.root m.active) = subst (λ (w : Maps). AreMapsOf w.root.logical w.root.physical (all_maps w.root w.active)) c.self.view_is c.self.invariant.maps in
    subst IsRoot (sym is) (good_without m good maps drops)
