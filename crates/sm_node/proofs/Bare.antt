-- Volumes and worlds without bytes, as a restart leaves them.
use Rattle.std.proofs.Common.{◌≡◌, ℕ, suc, List, [], ◌∷◌, length, map, refl, sym, ◌∙◌, ap, Some, arith}
use Rattle.std.specs.Prelude.{slice_get}
use Rattle.sm_defs.specs.Image.{Block, Image}
use Rattle.sm_defs.specs.Volume.{Volume, Snapshot}
use Rattle.sm_defs.specs.World.{Up}
use Rattle.sm_shape.specs.Blank.{blank_block}
use Rattle.sm_shape.specs.Blanked.{zeroed, zeroed_snapshot, zeroed_volume, blanked}
use Rattle.sm_model.specs.Opened as model
use Rattle.sm_volume.specs.Mounted.{opened, bare, bare_image, bare_snapshot}
use Rattle.sm_catroot.specs.declared.placed.Placed.{Placed}
use Rattle.sm_catroot.specs.Catalog.{Catalog}
use Rattle.sm_node.specs.Seats.{Seated}
use Rattle.sm_node.specs.Nodes.{placed, all_placed, world_with}
use Rattle.sm_node.specs.Turning.{at_rest}

image_bare : (i : Image) → zeroed (bare_image i) ≡ zeroed i
image_bare [] = refl
image_bare (b ∷ bs) = ap (λ (cs : List Block). blank_block b.tag ∷ cs) (image_bare bs)

snapshots_bare : (ss : List Snapshot) → map zeroed_snapshot (map bare_snapshot ss) ≡ map zeroed_snapshot ss
snapshots_bare [] = refl
snapshots_bare (s ∷ ss) =
    ap (λ (i : Image). let t : Snapshot = record s { image = i } in t ∷ map zeroed_snapshot (map bare_snapshot ss)) (image_bare s.image)
    ∙ ap (λ (ts : List Snapshot). zeroed_snapshot s ∷ ts) (snapshots_bare ss)

pub zeroed_bare : (v : Volume) → zeroed_volume (bare v) ≡ zeroed_volume v
zeroed_bare v =
    let build : Image → Image → List Snapshot → Volume = λ a b ss. record v { active = a; stable = b; snapshots = ss } in
    ap (λ (a : Image). build a (zeroed (bare_image v.stable)) (map zeroed_snapshot (map bare_snapshot v.snapshots))) (image_bare v.active)
    ∙ ap (λ (b : Image). build (zeroed v.active) b (map zeroed_snapshot (map bare_snapshot v.snapshots))) (image_bare v.stable)
    ∙ ap (build (zeroed v.active) (zeroed v.stable)) (snapshots_bare v.snapshots)

pub zeroed_by : (v u : Volume) → bare v ≡ bare u → zeroed_volume v ≡ zeroed_volume u
zeroed_by v u e = sym (zeroed_bare v) ∙ ap zeroed_volume e ∙ zeroed_bare u

pub rest_by : (v u : Volume) → bare v ≡ bare u → at_rest v ≡ at_rest u
rest_by v u e = zeroed_by (opened v) (opened u) (ap opened e)

-- worlds whose volumes are alike without bytes
pub placed_alike : {D : Type 0} (ps : List Placed) (ss ts : List (Seated D)) → length ss ≡ length ts → ((i : ℕ) (s t : Seated D) → slice_get ss i ≡ Some s → slice_get ts i ≡ Some t → at_rest s.volume.volume ≡ at_rest t.volume.volume)
    → map zeroed_volume (map opened (all_placed ps ss)) ≡ map zeroed_volume (map opened (all_placed ps ts))
unfolding all_placed
placed_alike [] ss ts e each = refl
placed_alike (p ∷ ps) [] [] e each = refl
placed_alike (p ∷ ps) [] (t ∷ ts) e each = absurd (omega (arith, e))
placed_alike (p ∷ ps) (s ∷ ss) [] e each = absurd (omega (arith, e))
placed_alike (p ∷ ps) (s ∷ ss) (t ∷ ts) e each =
    ap (λ (v : Volume). let u : Volume = record v { path = p.path; disk = p.disk.0 } in u ∷ map zeroed_volume (map opened (all_placed ps ss))) (each 0 s t refl refl)
    ∙ ap (λ (vs : List Volume). zeroed_volume (opened (placed p t.volume)) ∷ vs) (placed_alike ps ss ts (omega (arith, e)) (λ i x y f g. each (suc i) x y f g))

pub world_alike : {D : Type 0} (k : Catalog) (ss ts : List (Seated D)) (lengths : List ℕ) → length ss ≡ length ts → ((i : ℕ) (s t : Seated D) → slice_get ss i ≡ Some s → slice_get ts i ≡ Some t → at_rest s.volume.volume ≡ at_rest t.volume.volume)
    → blanked (model.opened (world_with k ss lengths)) ≡ blanked (model.opened (world_with k ts lengths))
world_alike k ss ts lengths e each = ap (λ (vs : List Volume). let w : Up = record (model.opened (world_with k ss lengths)) { volumes = vs } in w) (placed_alike k.volumes ss ts e each)
