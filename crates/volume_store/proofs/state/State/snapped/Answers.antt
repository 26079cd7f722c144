use Rattle.std.proofs.Common.{◌≡◌, List, ℕ, [], ◌∷◌, ◌++◌, sym, refl, ◌∙◌, ap, ap₂, subst, inl}
use Rattle.sm_root.specs.declared.root.Root.{Root}
use Rattle.sm_root.specs.declared.root.RootSnapshot.{RootSnapshot}
use Rattle.sm_root.specs.Condition.{IsRoot}
use Rattle.volume_store.specs.Maps.{Maps, AreMapsOf, AreMarks, all_maps}
use Rattle.volume_store.specs.Next.{snapped, next_after}
use Rattle.sm_root.specs.Condition.{snapshot_of}
use Rattle.sm_bits.specs.Places.{union_of}
use Rattle.volume_store.proofs.MarkLemmas.{marks_moved, snapped_marks}
use Rattle.volume_store.proofs.Sound.{maps_snapped, good_snapped, moved_maps, next_counted, head_fits}
use Rattle.volume_store.proofs.state.State.snapped.Goals as goal

abbrev remake : Root → ℕ → Root
remake r next = record r { next = next }

pub following-requires-clause-maps : goal.following-requires-clause-maps
following-requires-clause-maps c =
    let m = c.args.self.now in
    let s = snapshot_of c.args.head m.active in
    let next : c.next_after_of-next.result ≡ next_after m.root c.args.head.ident = c.next_after_of-next.ensures ∙ ap (λ (w : Maps). next_after w.root c.args.head.ident) c.self.view_is in
    let list : c.into_vec-list.result.items ≡ m.root.snapshots = c.into_vec-list.ensures ∙ c.in_ok-copy.ensures ∙ ap (λ (w : Maps). w.root.snapshots) c.self.view_is in
    let one : c.with_map.result ≡ s = c.with_map.ensures ∙ ap (snapshot_of c.args.head) (c.in_ok-copy-2.ensures ∙ c.in_ok-map.ensures) in
    let all = c.in_ok-push.ensures.items ∙ ap₂ (λ (xs : List RootSnapshot) (x : RootSnapshot). xs ++ x ∷ []) list one in
    let is : remake c.root_with-root.result c.next_after_of-next.result ≡ (snapped m s).root =
    ap₂ remake (c.root_with-root.ensures ∙ ap₂ (λ (xs : List ℕ) (l : List RootSnapshot). (let r : Root = record m.root { stable = xs; snapshots = l } in r)) c.in_ok-map.ensures all) next in
    let good : IsRoot m.root = subst (λ (w : Maps). IsRoot w.root) c.self.view_is c.self.invariant.good in
    let maps : AreMapsOf m.root.logical m.root.physical (all_maps m.root m.active) = subst (λ (w : Maps). AreMapsOf w.root.logical w.root.physical (all_maps w.root w.active)) c.self.view_is c.self.invariant.maps in
    moved_maps (remake c.root_with-root.result c.next_after_of-next.result) (snapped m s).root c.in_ok-active_copy.field-0.items m.active is c.in_ok-active_copy.ensures
    (maps_snapped m good maps s refl (head_fits c.args.head c.told.ensures m.active m.root.logical (maps.long m.active (inl refl))) c.requires.new c.requires.room (next_counted m good c.args.head.ident c.requires.counted))

pub following-requires-clause-good : goal.following-requires-clause-good
following-requires-clause-good c =
    let m = c.args.self.now in
    let s = snapshot_of c.args.head m.active in
    let next : c.next_after_of-next.result ≡ next_after m.root c.args.head.ident = c.next_after_of-next.ensures ∙ ap (λ (w : Maps). next_after w.root c.args.head.ident) c.self.view_is in
    let list : c.into_vec-list.result.items ≡ m.root.snapshots = c.into_vec-list.ensures ∙ c.in_ok-copy.ensures ∙ ap (λ (w : Maps). w.root.snapshots) c.self.view_is in
    let one : c.with_map.result ≡ s = c.with_map.ensures ∙ ap (snapshot_of c.args.head) (c.in_ok-copy-2.ensures ∙ c.in_ok-map.ensures) in
    let all = c.in_ok-push.ensures.items ∙ ap₂ (λ (xs : List RootSnapshot) (x : RootSnapshot). xs ++ x ∷ []) list one in
    let is : remake c.root_with-root.result c.next_after_of-next.result ≡ (snapped m s).root =
    ap₂ remake (c.root_with-root.ensures ∙ ap₂ (λ (xs : List ℕ) (l : List RootSnapshot). (let r : Root = record m.root { stable = xs; snapshots = l } in r)) c.in_ok-map.ensures all) next in
    let good : IsRoot m.root = subst (λ (w : Maps). IsRoot w.root) c.self.view_is c.self.invariant.good in
    let maps : AreMapsOf m.root.logical m.root.physical (all_maps m.root m.active) = subst (λ (w : Maps). AreMapsOf w.root.logical w.root.physical (all_maps w.root w.active)) c.self.view_is c.self.invariant.maps in
    subst IsRoot (sym is)
    (good_snapped m good maps s refl (head_fits c.args.head c.told.ensures m.active m.root.logical (maps.long m.active (inl refl))) c.requires.new c.requires.room (next_counted m good c.args.head.ident c.requires.counted))

pub following-requires-clause-marks : goal.following-requires-clause-marks
following-requires-clause-marks c =
    let m = c.args.self.now in
    let s = snapshot_of c.args.head m.active in
    let next : c.next_after_of-next.result ≡ next_after m.root c.args.head.ident = c.next_after_of-next.ensures ∙ ap (λ (w : Maps). next_after w.root c.args.head.ident) c.self.view_is in
    let list : c.into_vec-list.result.items ≡ m.root.snapshots = c.into_vec-list.ensures ∙ c.in_ok-copy.ensures ∙ ap (λ (w : Maps). w.root.snapshots) c.self.view_is in
    let one : c.with_map.result ≡ s = c.with_map.ensures ∙ ap (snapshot_of c.args.head) (c.in_ok-copy-2.ensures ∙ c.in_ok-map.ensures) in
    let all = c.in_ok-push.ensures.items ∙ ap₂ (λ (xs : List RootSnapshot) (x : RootSnapshot). xs ++ x ∷ []) list one in
    let is : remake c.root_with-root.result c.next_after_of-next.result ≡ (snapped m s).root =
    ap₂ remake (c.root_with-root.ensures ∙ ap₂ (λ (xs : List ℕ) (l : List RootSnapshot). (let r : Root = record m.root { stable = xs; snapshots = l } in r)) c.in_ok-map.ensures all) next in
    let marks : AreMarks c.self.inside.marks.held c.self.inside.marks.settled c.self.inside.marks.live m.root m.active =
    subst (λ (w : Maps). AreMarks c.self.inside.marks.held c.self.inside.marks.settled c.self.inside.marks.live w.root w.active) c.self.view_is c.self.invariant.marks in
    marks_moved c.in_ok-marks.marks (record { held = union_of c.self.inside.marks.held c.self.inside.marks.live; settled = c.self.inside.marks.live; live = c.self.inside.marks.live })
    (remake c.root_with-root.result c.next_after_of-next.result) (snapped m s).root c.in_ok-active_copy.field-0.items m.active c.in_ok-marks.ensures is c.in_ok-active_copy.ensures
    (snapped_marks c.self.inside.marks.held c.self.inside.marks.settled c.self.inside.marks.live m marks s refl)
