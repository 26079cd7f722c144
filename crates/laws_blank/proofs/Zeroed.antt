-- What a volume and a world still tell where their blocks are read as zeros: all but the bytes.
use Rattle.std.proofs.Common.{◌≡◌, ℕ, ◌-◌, ◌==◌, ◌&&◌, ◌||◌, not, Bool, List, ◌∷◌, map, flat_map, sym, ap, ◌∙◌}
use Rattle.std.specs.Prelude.{is_some}
use Rattle.std.specs.List.{filter, find, list_any}
use Rattle.std.proofs.Math.ListN.{get_or-map}
use Rattle.std.proofs.lemmas.List.Folds.{flat_map-map}
use mathlib.Core.Path.{fun_ext}
use mathlib.Core.List.{map-map}
use Rattle.sm_base.specs.declared.numbers.Ident.{Ident}
use Rattle.sm_defs.specs.Words.{same_ident, is_ident, has_ident}
use Rattle.sm_defs.specs.Image.{Block, Image, hole, tags, tag_of, distinct, stands}
use Rattle.sm_defs.specs.Volume.{Volume, Snapshot, is_rw, ident_of, image_of, images_of, tags_of, used, free, free_tags, numbers, idents, has, no_volume}
use Rattle.sm_defs.specs.Relationship.{Relationship, is_mirror, legs_of}
use Rattle.sm_defs.specs.Retention.{labels, label_of}
use Rattle.sm_defs.specs.World.{Up, volume_at, policy_at}
use Rattle.sm_defs.specs.Edges.{edge_of, is_edge, is_mirror_edge, edges, mirror_edges, upstream, state_of, mirror_state, is_snapmirrored}
use Rattle.sm_defs.specs.Needed.{needed_at_source, needed_at_destination, needed_for, needed, holder}
use Rattle.sm_shape.specs.Blank.{blank_block}
use Rattle.sm_shape.specs.Blanked.{zeroed, zeroed_snapshot, zeroed_volume, blanked}
use Rattle.sm_shape.proofs.PlacesLemmas.{hole_is}
use Rattle.laws_blank.proofs.Mapped.{any_mapped, empty_mapped}

-- ---- blocks and images

pub hole_zeroed : blank_block hole.tag ≡ hole
hole_zeroed = ap (λ (b : Block). blank_block b.tag) hole_is ∙ sym hole_is

pub zeroed_tags : (image : Image) → tags (zeroed image) ≡ tags image
zeroed_tags image = map-map tag_of (λ (b : Block). blank_block b.tag) image

-- ---- snapshots

abbrev pub zeroed_list : List Snapshot → List Snapshot
zeroed_list ss = map zeroed_snapshot ss

pub zeroed_has : (ss : List Snapshot) (i : Ident) → has (zeroed_list ss) i ≡ has ss i
zeroed_has ss i = any_mapped zeroed_snapshot (λ s. same_ident s.ident i) ss

pub zeroed_idents : (ss : List Snapshot) → idents (zeroed_list ss) ≡ idents ss
zeroed_idents ss = map-map ident_of zeroed_snapshot ss

pub zeroed_labels : (ss : List Snapshot) → labels (zeroed_list ss) ≡ labels ss
zeroed_labels ss = map-map label_of zeroed_snapshot ss

-- ---- volumes

pub zeroed_images : (v : Volume) → images_of (zeroed_volume v) ≡ map zeroed (images_of v)
zeroed_images v = ap (λ (l : List Image). zeroed v.active ∷ zeroed v.stable ∷ l) (map-map image_of zeroed_snapshot v.snapshots ∙ sym (map-map zeroed image_of v.snapshots))

pub zeroed_tags_of : (v : Volume) → tags_of (zeroed_volume v) ≡ tags_of v
zeroed_tags_of v =
    ap (flat_map tags) (zeroed_images v) ∙ flat_map-map tags zeroed (images_of v)
    ∙ ap (λ (f : Image → List ℕ). flat_map f (images_of v)) (fun_ext zeroed_tags)

pub zeroed_used : (v : Volume) → used (zeroed_volume v) ≡ used v
zeroed_used v = ap distinct (zeroed_tags_of v)

pub zeroed_free : (v : Volume) → free (zeroed_volume v) ≡ free v
zeroed_free v = ap (λ (n : ℕ). v.physical - n) (zeroed_used v)

pub zeroed_free_tags : (v : Volume) → free_tags (zeroed_volume v) ≡ free_tags v
zeroed_free_tags v = ap (λ (ts : List ℕ). filter (λ t. not (stands t ts)) (numbers 1 v.physical)) (zeroed_tags_of v)

pub zeroed_state : (v : Volume) → mirror_state (zeroed_volume v) ≡ mirror_state v
zeroed_state v = ap (λ (e : Bool). state_of (is_rw v.kind) e) (empty_mapped zeroed_snapshot v.snapshots)

-- ---- worlds

pub at_blanked : (w : Up) (i : ℕ) → volume_at (blanked w) i ≡ zeroed_volume (volume_at w i)
at_blanked w i = get_or-map zeroed_volume w.volumes i no_volume

pub has_blanked : (w : Up) (i : ℕ) (j : Ident) → has (volume_at (blanked w) i).snapshots j ≡ has (volume_at w i).snapshots j
has_blanked w i j = ap (λ (v : Volume). has v.snapshots j) (at_blanked w i) ∙ zeroed_has (volume_at w i).snapshots j

pub state_blanked : (w : Up) (i : ℕ) → mirror_state (volume_at (blanked w) i) ≡ mirror_state (volume_at w i)
state_blanked w i = ap mirror_state (at_blanked w i) ∙ zeroed_state (volume_at w i)

is_edge_blanked : (w : Up) → is_edge (blanked w) ≡ is_edge w
is_edge_blanked w = fun_ext (λ (r : Relationship). ap (λ (v : Volume). r.destination_half && (not (is_rw v.kind) || is_some r.transfer)) (at_blanked w r.destination))

pub edges_blanked : (w : Up) → edges (blanked w) ≡ edges w
edges_blanked w = ap (λ (p : Relationship → Bool). map edge_of (filter p w.relations)) (is_edge_blanked w)

is_mirror_edge_blanked : (w : Up) → is_mirror_edge (blanked w) ≡ is_mirror_edge w
is_mirror_edge_blanked w =
    fun_ext (λ (r : Relationship). ap (λ s. r.destination_half && is_mirror (policy_at w r.policy).kind && is_snapmirrored s) (state_blanked w r.destination))

mirror_edges_blanked : (w : Up) → mirror_edges (blanked w) ≡ mirror_edges w
mirror_edges_blanked w = ap (λ (p : Relationship → Bool). map edge_of (filter p w.relations)) (is_mirror_edge_blanked w)

-- as the walks along mirrors are the same
pub needed_at_source_blanked : (w : Up) → needed_at_source (blanked w) ≡ needed_at_source w
needed_at_source_blanked w =
    λ t v i r. r.source_half && (is_ident r.base i || has_ident (legs_of r.transfer) i) && ((r.source == v) || upstream (mirror_edges_blanked w t) v r.source)

pub needed_for_blanked : (w : Up) → needed_for (blanked w) ≡ needed_for w
needed_for_blanked w = λ t v i r. needed_at_source_blanked w t v i r || needed_at_destination w v i r

pub needed_blanked : (w : Up) → needed (blanked w) ≡ needed w
needed_blanked w = λ t v i. list_any (needed_for_blanked w t v i) w.relations

pub holder_blanked : (w : Up) → holder (blanked w) ≡ holder w
holder_blanked w = λ t v i. find (needed_for_blanked w t v i) w.relations
