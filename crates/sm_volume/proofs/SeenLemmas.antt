-- What is seen of a volume, and what its maps say.
use Rattle.std.proofs.Common.{◌≡◌, ℕ, suc, Bool, true, false, List, [], ◌∷◌, map, flat_map, length, refl, ap, ◌∙◌, Option, Some, option_map, find, cond}
use Rattle.std.specs.List.{filter, list_any}
use Rattle.sm_base.specs.declared.numbers.Ident.{Ident}
use Rattle.sm_defs.specs.Image.{Image, stands, tags, distinct}
use Rattle.sm_defs.specs.Volume.{Snapshot, has, tags_of, used, images_of, image_of as image_of_snapshot}
use Rattle.sm_defs.specs.Words.{same_ident, up_to}
use Rattle.sm_disk.specs.Image as disk
use Rattle.sm_root.specs.declared.root.Root.{Root}
use Rattle.sm_root.specs.declared.root.RootSnapshot.{RootSnapshot}
use Rattle.sm_root.specs.Condition.{map_of}
use Rattle.volume_store.specs.Maps.{Maps, all_maps, uses}
use Rattle.volume_store.specs.Refusals.{used_of}
use Rattle.volume_store.proofs.MapLemmas.{stands-append}
use Rattle.sm_volume.specs.Seen.{image_of, seen_snapshot, volume_of, kept_snapshot, root_of}

-- the numbers that the images have are those that the maps have
pub tags_seen : (c : disk.Image) (ms : List ℕ) → tags (image_of c ms) ≡ ms
tags_seen c [] = refl
tags_seen c (m ∷ ms) = ap (λ (ts : List ℕ). m ∷ ts) (tags_seen c ms)

pub images_seen : (c : disk.Image) (ss : List RootSnapshot) → map image_of_snapshot (map (seen_snapshot c) ss) ≡ map (image_of c) (map map_of ss)
images_seen c [] = refl
images_seen c (s ∷ ss) = ap (λ (images : List Image). image_of c s.map ∷ images) (images_seen c ss)

pub maps_seen : (c : disk.Image) (maps : List (List ℕ)) → flat_map tags (map (image_of c) maps) ≡ flat_map (λ (numbers : List ℕ). numbers) maps
maps_seen c [] = refl
maps_seen c (ms ∷ maps) = rw (tags_seen c ms, maps_seen c maps) refl

pub tags_of_seen : (path : List ℕ) (number : ℕ) (c : disk.Image) (m : Maps) → tags_of (volume_of path number c m) ≡ flat_map (λ (numbers : List ℕ). numbers) (all_maps m.root m.active)
tags_of_seen path number c m = rw (images_seen c m.root.snapshots) (maps_seen c (all_maps m.root m.active))

pub used_seen : (path : List ℕ) (number : ℕ) (c : disk.Image) (m : Maps) → used (volume_of path number c m) ≡ used_of m
used_seen path number c m = ap distinct (tags_of_seen path number c m)

pub in_maps : (t : ℕ) (maps : List (List ℕ)) → stands t (flat_map (λ (numbers : List ℕ). numbers) maps) ≡ uses maps t
in_maps t [] = refl
in_maps t (ms ∷ maps) = rw (stands-append t ms (flat_map (λ (numbers : List ℕ). numbers) maps), in_maps t maps) refl

pub uses_seen : (path : List ℕ) (number : ℕ) (c : disk.Image) (m : Maps) (t : ℕ) → stands t (tags_of (volume_of path number c m)) ≡ uses (all_maps m.root m.active) t
uses_seen path number c m t = ap (stands t) (tags_of_seen path number c m) ∙ in_maps t (all_maps m.root m.active)

-- what is kept of a snapshot that is seen is that snapshot
kept_seen : (c : disk.Image) (s : RootSnapshot) → kept_snapshot (seen_snapshot c s) ≡ s
kept_seen c s = ap (λ (ms : List ℕ). let r : RootSnapshot = record s { map = ms } in r) (tags_seen c s.map)

all_kept : (c : disk.Image) (ss : List RootSnapshot) → map kept_snapshot (map (seen_snapshot c) ss) ≡ ss
all_kept c [] = refl
all_kept c (s ∷ ss) =
    let here = kept_seen c s in
    let rest = all_kept c ss in
    cc

pub root_seen : (path : List ℕ) (number : ℕ) (c : disk.Image) (m : Maps) → root_of m.root.number (volume_of path number c m) ≡ m.root
root_seen path number c m =
    let stable = tags_seen c m.root.stable in
    let list = all_kept c m.root.snapshots in
    ap (λ (ms : List ℕ). let r : Root = record m.root { stable = ms; snapshots = map kept_snapshot (map (seen_snapshot c) m.root.snapshots) } in r) stable
    ∙ ap (λ (ss : List RootSnapshot). let r : Root = record m.root { snapshots = ss } in r) list

-- tests of the snapshots that look at all but their images
pub any_seen : (c : disk.Image) (p : Snapshot → Bool) (q : RootSnapshot → Bool) → ((s : RootSnapshot) → p (seen_snapshot c s) ≡ q s) → (ss : List RootSnapshot) → list_any p (map (seen_snapshot c) ss) ≡ list_any q ss
any_seen c p q same [] = refl
any_seen c p q same (s ∷ ss) = rw (same s, any_seen c p q same ss) refl

pub has_seen : (c : disk.Image) (ss : List RootSnapshot) (i : Ident) → has (map (seen_snapshot c) ss) i ≡ list_any (λ (s : RootSnapshot). same_ident s.ident i) ss
has_seen c ss i = any_seen c (λ s. same_ident s.ident i) (λ s. same_ident s.ident i) (λ s. refl) ss

pub length_seen : (c : disk.Image) (ss : List RootSnapshot) → length (map (seen_snapshot c) ss) ≡ length ss
length_seen c [] = refl
length_seen c (s ∷ ss) = ap suc (length_seen c ss)

filter_by : (b e : Bool) (c : disk.Image) (s : RootSnapshot) (ts : List RootSnapshot) (us : List Snapshot) → b ≡ e → us ≡ map (seen_snapshot c) ts → cond b (seen_snapshot c s ∷ us) us ≡ map (seen_snapshot c) (cond e (s ∷ ts) ts)
filter_by true true c s ts us h e = ap (λ (vs : List Snapshot). seen_snapshot c s ∷ vs) e
filter_by false false c s ts us h e = e
filter_by true false c s ts us h e = absurd (cc)
filter_by false true c s ts us h e = absurd (cc)

pub filter_seen : (c : disk.Image) (p : Snapshot → Bool) (q : RootSnapshot → Bool) → ((s : RootSnapshot) → p (seen_snapshot c s) ≡ q s) → (ss : List RootSnapshot) → filter p (map (seen_snapshot c) ss) ≡ map (seen_snapshot c) (filter q ss)
filter_seen c p q same [] = refl
filter_seen c p q same (s ∷ ss) = filter_by (p (seen_snapshot c s)) (q s) c s (filter q ss) (filter p (map (seen_snapshot c) ss)) (same s) (filter_seen c p q same ss)

find_by : (b : Bool) (c : disk.Image) (s : RootSnapshot) (o : Option Snapshot) (r : Option RootSnapshot) → o ≡ option_map (seen_snapshot c) r → cond b (Some (seen_snapshot c s)) o ≡ option_map (seen_snapshot c) (cond b (Some s) r)
find_by true c s o r e = refl
find_by false c s o r e = e

pub find_seen : (c : disk.Image) (i : Ident) (ss : List RootSnapshot) → find (λ (s : Snapshot). same_ident s.ident i) (map (seen_snapshot c) ss) ≡ option_map (seen_snapshot c) (find (λ (s : RootSnapshot). same_ident s.ident i) ss)
find_seen c i [] = refl
find_seen c i (s ∷ ss) = find_by (same_ident s.ident i) c s (find (λ (t : Snapshot). same_ident t.ident i) (map (seen_snapshot c) ss)) (find (λ (t : RootSnapshot). same_ident t.ident i) ss) (find_seen c i ss)

up_to_by : (b : Bool) (c : disk.Image) (s : RootSnapshot) (us : List Snapshot) (ts : List RootSnapshot) → us ≡ map (seen_snapshot c) ts → cond b (seen_snapshot c s ∷ []) (seen_snapshot c s ∷ us) ≡ map (seen_snapshot c) (cond b (s ∷ []) (s ∷ ts))
up_to_by true c s us ts e = refl
up_to_by false c s us ts e = ap (λ (vs : List Snapshot). seen_snapshot c s ∷ vs) e

pub up_to_seen : (c : disk.Image) (i : Ident) (ss : List RootSnapshot) → up_to (λ (s : Snapshot). same_ident s.ident i) (map (seen_snapshot c) ss) ≡ map (seen_snapshot c) (up_to (λ (s : RootSnapshot). same_ident s.ident i) ss)
up_to_seen c i [] = refl
up_to_seen c i (s ∷ ss) = up_to_by (same_ident s.ident i) c s (up_to (λ (t : Snapshot). same_ident t.ident i) (map (seen_snapshot c) ss)) (up_to (λ (t : RootSnapshot). same_ident t.ident i) ss) (up_to_seen c i ss)

pub all_images : (path : List ℕ) (number : ℕ) (c : disk.Image) (m : Maps) → images_of (volume_of path number c m) ≡ map (image_of c) (all_maps m.root m.active)
all_images path number c m = ap (λ (images : List Image). image_of c m.active ∷ image_of c m.root.stable ∷ images) (images_seen c m.root.snapshots)

pub all_tags : (path : List ℕ) (number : ℕ) (c : disk.Image) (m : Maps) → map tags (images_of (volume_of path number c m)) ≡ all_maps m.root m.active
all_tags path number c m = ap (map tags) (all_images path number c m) ∙ each (all_maps m.root m.active)
  where
    each : (maps : List (List ℕ)) → map tags (map (image_of c) maps) ≡ maps
    each [] = refl
    each (ms ∷ maps) =
        let here = tags_seen c ms in
        let rest = each maps in
        cc
