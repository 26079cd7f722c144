-- The world that a catalogue and roots spell is, but for bytes and for what landed, the same for all images of the disks.
use Rattle.std.proofs.Common.{◌≡◌, ℕ, zero, suc, ◌<◌, List, [], ◌∷◌, ◌++◌, length, get_or, take, map, min, Option, Some, None, Result, Ok, Err, false, refl, sym, ap, subst, ◌∙◌, arith}
use Rattle.std.proofs.lemmas.Simd.{map-map}
use Rattle.std.proofs.lemmas.List.{map-append}
use Rattle.std.specs.Prelude.{IfOk}
use Rattle.sm_base.specs.declared.faults.NoMemory.{NoMemory}
use Rattle.sm_defs.specs.Image.{Block, Image}
use Rattle.sm_defs.specs.Volume.{Volume, Snapshot}
use Rattle.sm_defs.specs.Relationship.{Relationship}
use Rattle.sm_defs.specs.World.{Up}
use Rattle.sm_disk.specs.Image as disk
use Rattle.sm_root.specs.declared.root.Root.{Root}
use Rattle.sm_root.specs.declared.root.RootSnapshot.{RootSnapshot}
use Rattle.volume_store.specs.Opened.{FoundMaps}
use Rattle.sm_volume.specs.Seen.{block_of, image_of, seen_snapshot}
use Rattle.sm_relation.specs.declared.relation.Relation.{Relation}
use Rattle.sm_relation.specs.declared.relation.Standing.{Standing}
use Rattle.sm_relation.specs.Shown.{transfer_of}
use Rattle.sm_model.specs.declared.world.World.{World}
use Rattle.sm_model.specs.declared.world.WorldVolume.{WorldVolume}
use Rattle.sm_model.specs.Opened.{restarted}
use Rattle.sm_catroot.specs.declared.placed.Placed.{Placed}
use Rattle.sm_catroot.specs.Catalog.{Catalog}
use Rattle.std.specs.Option.{option_map}
use Rattle.sm_shape.specs.Blank.{blank, blank_block, blank_image, blank_volume}
use Rattle.sm_shape.specs.Blanked.{zeroed, zeroed_snapshot, zeroed_volume, blanked}
use Rattle.sm_opening.specs.OnDisk.{Disks, image_at, read_relation, read_volume, read_volumes, world_of}
use Rattle.sm_opening.specs.Unlanded.{unlanded_transfer, unlanded_relation, unlanded}
use Rattle.sm_opening.specs.Finding.{root_of}
use Rattle.sm_opening.specs.Bare.{bare_snapshot, bare_volume, bare_volumes, bare_transfer, bare_relation, bare_world}

-- ---- without bytes

image_bare : (c : disk.Image) (numbers : List ℕ) → zeroed (image_of c numbers) ≡ blank_image numbers
image_bare c numbers = map-map (λ (b : Block). blank_block b.tag) (block_of c) numbers

snapshots_bare : (c : disk.Image) (ss : List RootSnapshot) → map zeroed_snapshot (map (seen_snapshot c) ss) ≡ map bare_snapshot ss
snapshots_bare c [] = refl
snapshots_bare c (s ∷ ss) =
    ap (λ (i : Image). let t : Snapshot = record (bare_snapshot s) { image = i } in t ∷ map zeroed_snapshot (map (seen_snapshot c) ss)) (image_bare c s.map)
    ∙ ap (λ (ts : List Snapshot). bare_snapshot s ∷ ts) (snapshots_bare c ss)

volume_bare : (d : Disks) (p : Placed) (r : Root) → zeroed_volume (read_volume d p r) ≡ bare_volume p r
volume_bare d p r =
    let c : disk.Image = image_at d p in
    ap (λ (i : Image). let v : Volume = record (bare_volume p r) { active = i; stable = i; snapshots = map zeroed_snapshot (map (seen_snapshot c) r.snapshots) } in v) (image_bare c r.stable)
    ∙ ap (λ (ss : List Snapshot). let v : Volume = record (bare_volume p r) { snapshots = ss } in v) (snapshots_bare c r.snapshots)

pub volumes_bare : (d : Disks) (ps : List Placed) (rs : List Root) → map zeroed_volume (read_volumes d ps rs) ≡ bare_volumes ps rs
volumes_bare d [] rs = refl
volumes_bare d (p ∷ ps) [] = refl
volumes_bare d (p ∷ ps) (r ∷ rs) =
    ap (λ (v : Volume). v ∷ map zeroed_volume (read_volumes d ps rs)) (volume_bare d p r)
    ∙ ap (λ (vs : List Volume). bare_volume p r ∷ vs) (volumes_bare d ps rs)

-- ---- without what landed

transfer_bare : (o : Option Standing) → option_map unlanded_transfer (restarted (option_map (transfer_of [] false) o)) ≡ option_map bare_transfer o
transfer_bare None = refl
transfer_bare (Some t) = refl

relations_bare : (rs : List Relation) → map unlanded_relation (map read_relation rs) ≡ map bare_relation rs
relations_bare [] = refl
relations_bare (r ∷ rs) =
    ap (λ o. let q : Relationship = record (bare_relation r) { transfer = o } in q ∷ map unlanded_relation (map read_relation rs)) (transfer_bare r.transfer)
    ∙ ap (λ (qs : List Relationship). bare_relation r ∷ qs) (relations_bare rs)

-- ---- the world

pub world_bare : (d : Disks) (sizes : List ℕ) (k : Catalog) (roots : List Root) → d.sizes ≡ sizes → bare_world sizes k roots ≡ unlanded (blanked (world_of d k roots))
world_bare d sizes k roots e =
    let bare : Up = bare_world sizes k roots in
    sym (
    ap (λ (vs : List Volume). let w : Up = record (unlanded (blanked (world_of d k roots))) { volumes = vs } in w) (volumes_bare d k.volumes roots)
    ∙ ap (λ (rs : List Relationship). let w : Up = record bare { relations = rs; disks = d.sizes } in w) (relations_bare k.relations)
    ∙ ap (λ (ns : List ℕ). let w : Up = record bare { disks = ns } in w) e
    )

pub world_read : (sizes : List ℕ) (k : Catalog) (roots : List Root) (result : Result World NoMemory)
    → IfOk result (λ world. blank world ≡ bare_world sizes k roots)
    → IfOk result (λ world. (d : Disks) → d.sizes ≡ sizes → blank world ≡ unlanded (blanked (world_of d k roots)))
world_read sizes k roots (Ok world) bare = λ d e. bare ∙ world_bare d sizes k roots e
world_read sizes k roots (Err e) bare = tt

-- ---- the volumes so far

-- one more has both a place and a root
front_more : (ps : List Placed) (fs : List FoundMaps) (n : ℕ) (p : Placed) (f : FoundMaps) → n < length ps → n < length fs → p ≡ get_or ps n p → f ≡ get_or fs n f
    → bare_volumes (take (suc n) ps) (map root_of (take (suc n) fs)) ≡ bare_volumes (take n ps) (map root_of (take n fs)) ++ bare_volume p (root_of f) ∷ []
front_more [] fs n p f lt lt2 ep ef = absurd (let h : ⊥ = omega (arith, lt) in h)
front_more (q ∷ ps) [] n p f lt lt2 ep ef = absurd (let h : ⊥ = omega (arith, lt2) in h)
front_more (q ∷ ps) (g ∷ fs) zero p f lt lt2 ep ef = ap (λ (x : Placed). bare_volume x (root_of g) ∷ []) (sym ep) ∙ ap (λ (x : FoundMaps). bare_volume p (root_of x) ∷ []) (sym ef)
front_more (q ∷ ps) (g ∷ fs) (suc n) p f lt lt2 ep ef =
    ap (λ (vs : List Volume). bare_volume q (root_of g) ∷ vs) (front_more ps fs n p f (omega (arith, lt)) (omega (arith, lt2)) ep ef)

pub volumes_more : (ps : List Placed) (fs : List FoundMaps) (vs : List WorldVolume) (v : WorldVolume) (n m : ℕ) (p : Placed) (f : FoundMaps)
    → map blank_volume vs ≡ bare_volumes (take n ps) (map root_of (take n fs)) → blank_volume v ≡ bare_volume p (root_of f)
    → n < length ps → n < length fs → p ≡ get_or ps n p → f ≡ get_or fs n f → m ≡ suc n
    → map blank_volume (vs ++ v ∷ []) ≡ bare_volumes (take m ps) (map root_of (take m fs))
volumes_more ps fs vs v n m p f front new lt lt2 ep ef em =
    map-append blank_volume vs (v ∷ [])
    ∙ ap (λ (us : List Volume). us ++ blank_volume v ∷ []) front
    ∙ ap (λ (u : Volume). bare_volumes (take n ps) (map root_of (take n fs)) ++ u ∷ []) new
    ∙ sym (front_more ps fs n p f lt lt2 ep ef)
    ∙ ap (λ k. bare_volumes (take k ps) (map root_of (take k fs))) (sym em)

-- none behind them has
pub volumes_all : (ps : List Placed) (fs : List FoundMaps) (n : ℕ) → n ≡ min (length ps) (length fs) → bare_volumes (take n ps) (map root_of (take n fs)) ≡ bare_volumes ps (map root_of fs)
volumes_all [] fs n e = subst (λ m. bare_volumes (take m []) (map root_of (take m fs)) ≡ []) (let h : 0 ≡ n = omega (arith, e) in h) refl
volumes_all (p ∷ ps) [] n e = subst (λ m. bare_volumes (take m (p ∷ ps)) (map root_of (take m [])) ≡ []) (let h : 0 ≡ n = omega (arith, e) in h) refl
volumes_all (p ∷ ps) (f ∷ fs) zero e = absurd (let h : ⊥ = omega (arith, e) in h)
volumes_all (p ∷ ps) (f ∷ fs) (suc n) e = ap (λ (vs : List Volume). bare_volume p (root_of f) ∷ vs) (volumes_all ps fs n (omega (arith, e)))
