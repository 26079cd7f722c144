use Rattle.std.proofs.Common.{◌≡◌, ◌≤◌, List, [], ◌∷◌, ◌++◌, ℕ, length, sym, refl, ◌∙◌, ap, subst, inl}
use Rattle.sm_base.specs.declared.limits.TheConstants.{MOST_SNAPSHOTS}
use Rattle.sm_root.specs.declared.root.Root.{Root}
use Rattle.sm_root.specs.declared.root.RootSnapshot.{RootSnapshot}
use Rattle.sm_root.specs.Condition.{IsRoot}
use Rattle.volume_store.specs.Maps.{Maps, AreMapsOf, AreMarks, all_maps}
use Rattle.volume_store.specs.Next.{staying, adopted}
use Rattle.sm_root.specs.Condition.{snapshot_of}
use Rattle.volume_store.proofs.Sound.{maps_adopted, good_adopted, maps_of_root, moved_maps, head_fits}
use Rattle.volume_store.proofs.MarkLemmas.{all_stay}
use Rattle.sm_base.specs.declared.numbers.Ident.{Ident}
use Rattle.volume_store.proofs.state.State.adopted.Goals as goal

abbrev remake : Root → ℕ → List ℕ → List RootSnapshot → Root
remake r family stable snapshots = record r { family = family; stable = stable; snapshots = snapshots }

pub following-requires-clause-maps : goal.following-requires-clause-maps
following-requires-clause-maps c =
    let m = c.args.self.now in
    let s = snapshot_of c.args.head c.args.map in
    let good : IsRoot m.root = subst (λ (w : Maps). IsRoot w.root) c.self.view_is c.self.invariant.good in
    let maps : AreMapsOf m.root.logical m.root.physical (all_maps m.root m.active) = subst (λ (w : Maps). AreMapsOf w.root.logical w.root.physical (all_maps w.root w.active)) c.self.view_is c.self.invariant.maps in
    let is : remake c.self.inside.root c.args.family c.args.map c.from_vec.result ≡ (adopted m s c.args.family c.args.drops.now).root =
    ap (λ (w : Maps). remake w.root c.args.family c.args.map c.from_vec.result) c.self.view_is ∙ ap (remake m.root c.args.family c.args.map) (c.from_vec.ensures ∙ c.requires.list) in
    let long = c.requires.fits.long c.args.map (inl refl) in
    moved_maps (remake c.self.inside.root c.args.family c.args.map c.from_vec.result) (adopted m s c.args.family c.args.drops.now).root c.in_ok-active.active.items s.map is c.in_ok-active.ensures
    (maps_adopted m good maps s c.args.family c.args.drops.now (head_fits c.args.head c.told.ensures c.args.map m.root.logical long) c.requires.new c.ranges.family.fits (subst (λ (xs : List RootSnapshot). length xs ≤ MOST_SNAPSHOTS) c.requires.list c.requires.room) c.requires.fits)

pub following-requires-clause-good : goal.following-requires-clause-good
following-requires-clause-good c =
    let m = c.args.self.now in
    let s = snapshot_of c.args.head c.args.map in
    let good : IsRoot m.root = subst (λ (w : Maps). IsRoot w.root) c.self.view_is c.self.invariant.good in
    let maps : AreMapsOf m.root.logical m.root.physical (all_maps m.root m.active) = subst (λ (w : Maps). AreMapsOf w.root.logical w.root.physical (all_maps w.root w.active)) c.self.view_is c.self.invariant.maps in
    let is : remake c.self.inside.root c.args.family c.args.map c.from_vec.result ≡ (adopted m s c.args.family c.args.drops.now).root =
    ap (λ (w : Maps). remake w.root c.args.family c.args.map c.from_vec.result) c.self.view_is ∙ ap (remake m.root c.args.family c.args.map) (c.from_vec.ensures ∙ c.requires.list) in
    let long = c.requires.fits.long c.args.map (inl refl) in
    subst IsRoot (sym is)
    (good_adopted m good maps s c.args.family c.args.drops.now (head_fits c.args.head c.told.ensures c.args.map m.root.logical long) c.requires.new c.ranges.family.fits (subst (λ (xs : List RootSnapshot). length xs ≤ MOST_SNAPSHOTS) c.requires.list c.requires.room) c.requires.fits)

pub adopted_marks-requires-clause-good : goal.adopted_marks-requires-clause-good
adopted_marks-requires-clause-good c =
    let m = c.args.self.now in
    let s = snapshot_of c.args.head c.args.map in
    let good : IsRoot m.root = subst (λ (w : Maps). IsRoot w.root) c.self.view_is c.self.invariant.good in
    let maps : AreMapsOf m.root.logical m.root.physical (all_maps m.root m.active) = subst (λ (w : Maps). AreMapsOf w.root.logical w.root.physical (all_maps w.root w.active)) c.self.view_is c.self.invariant.maps in
    let is : remake c.self.inside.root c.args.family c.args.map c.from_vec.result ≡ (adopted m s c.args.family c.args.drops.now).root =
    ap (λ (w : Maps). remake w.root c.args.family c.args.map c.from_vec.result) c.self.view_is ∙ ap (remake m.root c.args.family c.args.map) (c.from_vec.ensures ∙ c.requires.list) in
    let long = c.requires.fits.long c.args.map (inl refl) in
    subst IsRoot (sym is)
    (good_adopted m good maps s c.args.family c.args.drops.now (head_fits c.args.head c.told.ensures c.args.map m.root.logical long) c.requires.new c.ranges.family.fits (subst (λ (xs : List RootSnapshot). length xs ≤ MOST_SNAPSHOTS) c.requires.list c.requires.room) c.requires.fits)

pub adopted_marks-requires-clause-maps : goal.adopted_marks-requires-clause-maps
adopted_marks-requires-clause-maps c =
    let m = c.args.self.now in
    let s = snapshot_of c.args.head c.args.map in
    let good : IsRoot m.root = subst (λ (w : Maps). IsRoot w.root) c.self.view_is c.self.invariant.good in
    let maps : AreMapsOf m.root.logical m.root.physical (all_maps m.root m.active) = subst (λ (w : Maps). AreMapsOf w.root.logical w.root.physical (all_maps w.root w.active)) c.self.view_is c.self.invariant.maps in
    let is : remake c.self.inside.root c.args.family c.args.map c.from_vec.result ≡ (adopted m s c.args.family c.args.drops.now).root =
    ap (λ (w : Maps). remake w.root c.args.family c.args.map c.from_vec.result) c.self.view_is ∙ ap (remake m.root c.args.family c.args.map) (c.from_vec.ensures ∙ c.requires.list) in
    let long = c.requires.fits.long c.args.map (inl refl) in
    maps_of_root (remake c.self.inside.root c.args.family c.args.map c.from_vec.result) (subst IsRoot (sym is)
    (good_adopted m good maps s c.args.family c.args.drops.now (head_fits c.args.head c.told.ensures c.args.map m.root.logical long) c.requires.new c.ranges.family.fits (subst (λ (xs : List RootSnapshot). length xs ≤ MOST_SNAPSHOTS) c.requires.list c.requires.room) c.requires.fits))

pub adopted_marks-requires-clause-behind : goal.adopted_marks-requires-clause-behind
adopted_marks-requires-clause-behind c = λ none.
    let m = c.args.self.now in
    let s = snapshot_of c.args.head c.args.map in (
      s,
      c.from_vec.ensures ∙ c.requires.list ∙ ap (λ (d : List Ident). staying d (m.root.snapshots ++ s ∷ [])) none ∙ all_stay (m.root.snapshots ++ s ∷ []),
      refl,
    )

pub following-requires-clause-marks : goal.following-requires-clause-marks
following-requires-clause-marks c =
    let marks = c.in_ok-marks.marks in
    subst (λ (a : List ℕ). AreMarks marks.held marks.settled marks.live (remake c.self.inside.root c.args.family c.args.map c.from_vec.result) a)
    (sym c.in_ok-active.ensures) c.in_ok-marks.ensures
