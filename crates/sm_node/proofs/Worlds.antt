-- The world of a catalogue and volumes.
use Rattle.std.proofs.Common.{◌≡◌, ℕ, zero, suc, ◌≤◌, List, [], ◌∷◌, length, map, Some, None, refl, sym, ◌∙◌, ap, arith}
use Rattle.std.specs.Prelude.{slice_get, slice_set, Option}
use Rattle.sm_disk.specs.Image.{Image}
use Rattle.sm_base.specs.declared.numbers.VolNo.{VolNo}
use Rattle.sm_defs.specs.Volume.{Volume}
use Rattle.sm_defs.specs.Relationship.{Relationship, Transfer}
use Rattle.sm_defs.specs.World.{Up, with_volume}
use Rattle.sm_model.specs.Opened.{rejoined}
use Rattle.sm_model.proofs.Restarts.{restarted_twice}
use Rattle.sm_relation.specs.declared.relation.Relation.{Relation}
use Rattle.sm_catroot.specs.declared.placed.Placed.{Placed}
use Rattle.sm_catroot.specs.Catalog.{Catalog}
use Rattle.sm_volume.specs.Mounted.{Mounted}
use Rattle.sm_volume.specs.Shown.{Shows}
use Rattle.sm_volume.proofs.Placed.{anywhere}
use Rattle.sm_node.specs.Seats.{Seated, moved}
use Rattle.sm_node.specs.Nodes.{placed, all_placed, stopped_relation, world_with}
use Rattle.sm_node.specs.Parts.{place_of, IsCatalogOf}

-- a volume of the world is a mounted one at its place
pub placed_at : {D : Type 0} (ps : List Placed) (seats : List (Seated D)) (i : ℕ) (v : Volume) → slice_get (all_placed ps seats) i ≡ Some v →
    (p : Placed) × (s : Seated D) × (slice_get ps i ≡ Some p) × (slice_get seats i ≡ Some s) × (v ≡ placed p s.volume)
unfolding all_placed
placed_at [] seats i v e = absurd (cc)
placed_at (p ∷ ps) [] i v e = absurd (cc)
placed_at (p ∷ ps) (s ∷ seats) zero v e = (p, s, refl, refl, cc)
placed_at (p ∷ ps) (s ∷ seats) (suc i) v e = placed_at ps seats i v e

-- and the other way round
pub placed_there : {D : Type 0} (ps : List Placed) (seats : List (Seated D)) (i : ℕ) (p : Placed) (s : Seated D) → slice_get ps i ≡ Some p → slice_get seats i ≡ Some s →
    slice_get (all_placed ps seats) i ≡ Some (placed p s.volume)
unfolding all_placed
placed_there [] seats i p s e f = absurd (cc)
placed_there (q ∷ ps) [] i p s e f = absurd (cc)
placed_there (q ∷ ps) (r ∷ seats) zero p s e f = let same_p : q ≡ p = cc in let same_s : r ≡ s = cc in rw (same_p, same_s) refl
placed_there (q ∷ ps) (r ∷ seats) (suc i) p s e f = placed_there ps seats i p s e f

places_kept : {D : Type 0} (ps : List Placed) (seats : List (Seated D)) → length ps ≤ length seats → map place_of (all_placed ps seats) ≡ ps
unfolding all_placed
places_kept [] seats e = refl
places_kept (p ∷ ps) [] e = absurd (omega arith)
places_kept (p ∷ ps) (s ∷ seats) e = ap (λ (qs : List Placed). p ∷ qs) (places_kept ps seats (omega arith))

-- a restart leaves what it left
stopped_again : (r : Relation) → rejoined (stopped_relation r) ≡ stopped_relation r
stopped_again r = let one = stopped_relation r in ap (λ (t : Option Transfer). let x : Relationship = record one { transfer = t } in x) (restarted_twice _)

all_stopped_again : (rs : List Relation) → map stopped_relation rs ≡ map rejoined (map stopped_relation rs)
all_stopped_again [] = refl
all_stopped_again (r ∷ rs) = ap (λ (x : Relationship). x ∷ map stopped_relation rs) (sym (stopped_again r)) ∙ ap (λ (xs : List Relationship). rejoined (stopped_relation r) ∷ xs) (all_stopped_again rs)

-- a catalogue is that of the world that it makes
pub catalog_kept : {D : Type 0} (k : Catalog) (seats : List (Seated D)) (lengths : List ℕ) → length k.volumes ≤ length seats → IsCatalogOf k (world_with k seats lengths)
catalog_kept k seats lengths e = record {
  clock = refl;
  next_relation = refl;
  next_transfer = refl;
  volumes = sym (places_kept k.volumes seats e);
  policies = refl;
  relations = all_stopped_again k.relations;
}

-- one mounted volume is changed
placed_set : {D : Type 0} (ps : List Placed) (seats : List (Seated D)) (i : ℕ) (p : Placed) (s : Seated D) (m : Mounted D) → slice_get ps i ≡ Some p →
    all_placed ps (slice_set seats i (moved s m)) ≡ slice_set (all_placed ps seats) i (placed p m)
unfolding all_placed
placed_set [] seats i p s m e = absurd (cc)
placed_set (q ∷ ps) [] i p s m e = refl
placed_set (q ∷ ps) (r ∷ seats) zero p s m e = ap (λ (x : Placed). placed x m ∷ all_placed ps seats) (let same : q ≡ p = cc in same)
placed_set (q ∷ ps) (r ∷ seats) (suc i) p s m e = ap (λ (vs : List Volume). placed q r.volume ∷ vs) (placed_set ps seats i p s m e)

pub world_set : {D : Type 0} (k : Catalog) (seats : List (Seated D)) (lengths : List ℕ) (i : ℕ) (p : Placed) (s : Seated D) (m : Mounted D) → slice_get k.volumes i ≡ Some p →
    world_with k (slice_set seats i (moved s m)) lengths ≡ with_volume (world_with k seats lengths) i (placed p m)
world_set k seats lengths i p s m e = ap (λ (vs : List Volume). let w : Up = record (world_with k seats lengths) { volumes = vs } in w) (placed_set k.volumes seats i p s m e)

-- an image knows neither the path nor the disk
pub shows_placed : (number : VolNo) (p : Placed) (v : Volume) (c : Image) → Shows number v c → Shows number (record v { path = p.path; disk = p.disk.0 }) c
shows_placed number p v c shown = anywhere.shows number v p.path p.disk.0 c shown

place_set : (vs : List Volume) (i : ℕ) (v u : Volume) → slice_get vs i ≡ Some v → place_of u ≡ place_of v → map place_of (slice_set vs i u) ≡ map place_of vs
place_set [] i v u e f = refl
place_set (x ∷ vs) zero v u e f = ap (λ (p : Placed). p ∷ map place_of vs) (f ∙ ap place_of (let same : v ≡ x = cc in same))
place_set (x ∷ vs) (suc i) v u e f = ap (λ (ps : List Placed). place_of x ∷ ps) (place_set vs i v u e f)

-- a change of a volume at its place leaves the catalogue
pub catalog_set : (k : Catalog) (w : Up) (i : ℕ) (v u : Volume) → slice_get w.volumes i ≡ Some v → place_of u ≡ place_of v → IsCatalogOf k w → IsCatalogOf k (with_volume w i u)
catalog_set k w i v u e f is = record {
  clock = is.clock;
  next_relation = is.next_relation;
  next_transfer = is.next_transfer;
  volumes = is.volumes ∙ sym (place_set w.volumes i v u e f);
  policies = is.policies;
  relations = is.relations;
}
