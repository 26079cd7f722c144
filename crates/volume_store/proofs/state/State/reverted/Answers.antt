use Rattle.std.proofs.Common.{◌≡◌, List, ℕ, take, sym, ◌∙◌, ap, ap₂, subst}
use Rattle.sm_base.specs.declared.numbers.Kind.TheVariants.{Dp}
use Rattle.sm_root.specs.declared.root.Root.{Root}
use Rattle.sm_root.specs.declared.root.RootSnapshot.{RootSnapshot}
use Rattle.sm_root.specs.Condition.{IsRoot, ident_of}
use Rattle.volume_store.specs.Maps.{Maps, AreMapsOf, all_maps}
use Rattle.volume_store.specs.Next.{reverted}
use Rattle.sm_defs.proofs.Members.{among_take}
use Rattle.volume_store.proofs.Sound.{maps_reverted, good_reverted, moved_maps, differ_take, length_take_le}
use Rattle.volume_store.proofs.state.State.reverted.Goals as goal

abbrev remake : Root → ℕ → Root
remake r family = record r { kind = Dp; family = family }

pub remade-requires-clause-maps : goal.remade-requires-clause-maps
remade-requires-clause-maps c =
    let m = c.args.self.now in
    let s = c.args.snapshot.now in
    let list = take c.args.count m.root.snapshots in
    let first : c.truncate.new.self.items ≡ take c.args.count m.root.snapshots =
    c.truncate.ensures.items ∙ ap (take c.args.count) (c.into_vec-list.ensures ∙ c.in_ok-copy.ensures ∙ ap (λ (w : Maps). w.root.snapshots) c.self.view_is) in
    let is : remake c.root_with-root.result c.args.family ≡ (reverted m s.map c.args.family list).root =
    ap (λ (r : Root). remake r c.args.family) (c.root_with-root.ensures ∙ ap₂ (λ (xs : List ℕ) (l : List RootSnapshot). (let r : Root = record m.root { stable = xs; snapshots = l } in r)) c.in_ok-copy-2.ensures first) in
    let good : IsRoot m.root = subst (λ (w : Maps). IsRoot w.root) c.self.view_is c.self.invariant.good in
    let maps : AreMapsOf m.root.logical m.root.physical (all_maps m.root m.active) = subst (λ (w : Maps). AreMapsOf w.root.logical w.root.physical (all_maps w.root w.active)) c.self.view_is c.self.invariant.maps in
    moved_maps (remake c.root_with-root.result c.args.family) (reverted m s.map c.args.family list).root c.in_ok-active.active.items s.map is c.in_ok-active.ensures
    (maps_reverted m good maps s c.requires c.args.family c.ranges.family.fits list (λ t is. among_take c.args.count m.root.snapshots t is) (length_take_le c.args.count m.root.snapshots) (differ_take ident_of c.args.count m.root.snapshots good.idents_differ))

pub remade-requires-clause-good : goal.remade-requires-clause-good
remade-requires-clause-good c =
    let m = c.args.self.now in
    let s = c.args.snapshot.now in
    let list = take c.args.count m.root.snapshots in
    let first : c.truncate.new.self.items ≡ take c.args.count m.root.snapshots =
    c.truncate.ensures.items ∙ ap (take c.args.count) (c.into_vec-list.ensures ∙ c.in_ok-copy.ensures ∙ ap (λ (w : Maps). w.root.snapshots) c.self.view_is) in
    let is : remake c.root_with-root.result c.args.family ≡ (reverted m s.map c.args.family list).root =
    ap (λ (r : Root). remake r c.args.family) (c.root_with-root.ensures ∙ ap₂ (λ (xs : List ℕ) (l : List RootSnapshot). (let r : Root = record m.root { stable = xs; snapshots = l } in r)) c.in_ok-copy-2.ensures first) in
    let good : IsRoot m.root = subst (λ (w : Maps). IsRoot w.root) c.self.view_is c.self.invariant.good in
    let maps : AreMapsOf m.root.logical m.root.physical (all_maps m.root m.active) = subst (λ (w : Maps). AreMapsOf w.root.logical w.root.physical (all_maps w.root w.active)) c.self.view_is c.self.invariant.maps in
    subst IsRoot (sym is)
    (good_reverted m good maps s c.requires c.args.family c.ranges.family.fits list (λ t is. among_take c.args.count m.root.snapshots t is) (length_take_le c.args.count m.root.snapshots) (differ_take ident_of c.args.count m.root.snapshots good.idents_differ))
