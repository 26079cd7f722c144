-- The blocks that a volume keeps, by their numbers.
use Rattle.std.proofs.Common.{◌≡◌, ◌≢◌, ℕ, zero, suc, ◌≤◌, ◌==◌, List, [], ◌∷◌, length, map, replicate, refl, sym, ap, subst, ◌∙◌, inl, inr, arith, find}
use Rattle.std.specs.Prelude.{Option, Some, None, slice_get}
use Rattle.std.specs.List.{flat_map, list_any}
use Rattle.std.proofs.lemmas.Bool.{eqb-true, eq-eqb, ne_eqb, cases_eq, cases_lt, both_ways}
use Rattle.std.proofs.lemmas.List.{get_or-replicate, get_or_past, length-replicate}
use Rattle.sm_defs.specs.Words.{Among}
use Rattle.sm_defs.specs.Image.{Block, hole, tags}
use Rattle.sm_defs.specs.Volume.{Volume, Snapshot, images_of, image_of}
use Rattle.sm_defs.specs.Operations.{opened}
use Rattle.sm_defs.proofs.Members.{among_map, any_among, among_flat, from_flat}
use Rattle.sm_defs.proofs.Searches.{find_is, find_none}
use Rattle.sm_disk.specs.Image.{Image}
use Rattle.sm_fields.specs.Place.{IsBytes}
use Rattle.sm_model.specs.Standing.{Stored}
use Rattle.sm_model.specs.Formed.{FormedVolume}
use Rattle.sm_model.specs.TagsFit.{TagsFitIn}
use Rattle.volume_store.specs.Held.{bytes_at, block_at}
use Rattle.sm_base.specs.declared.numbers.VolNo.{VolNo}
use Rattle.sm_volume.specs.Seen.{block_of, seen_snapshot, kept_snapshot, root_of, volume_of}
use Rattle.sm_volume.specs.Seen as seen

-- ---- the blocks of images, and their places

record HasPlace (image : List Block) (b : Block) : Type 0 where
  pub at : ℕ
  pub there : slice_get image at ≡ Some b

place_of : (image : List Block) (b : Block) → Among image b → HasPlace image b
place_of [] b none = absurd none
place_of (c ∷ image) b (inl same) = record { at = 0; there = ap (λ (x : Block). Some x) (sym same) }
place_of (c ∷ image) b (inr later) = let p = place_of image b later in record { at = suc p.at; there = p.there }

-- all blocks of a volume, image after image
abbrev pub all_blocks : Volume → List Block
all_blocks v = flat_map (λ (image : List Block). image) (images_of v)

pub record IsStored (v : Volume) (b : Block) : Type 0 where
  pub at : ℕ
  pub is : Stored v at b

stored_of : (v : Volume) (b : Block) → Among (all_blocks v) b → IsStored v b
stored_of v b among =
    let from = from_flat (λ (image : List Block). image) (images_of v) b among in
    let p = place_of from.0 b from.2 in
    record { at = p.at; is = (from.0, from.1, p.there) }

among_of : (v : Volume) (image : List Block) (b : Block) → Among (images_of v) image → Among image b → Among (all_blocks v) b
among_of v image b is among = among_flat (λ (i : List Block). i) (images_of v) image b is among

-- ---- the bytes of a number

abbrev pub found_bytes : Option Block → List ℕ
found_bytes None = hole.bytes
found_bytes (Some b) = b.bytes

-- those of its first block; no block has a number that no image has
unfoldable pub block_bytes : Volume → ℕ → List ℕ
block_bytes v n = found_bytes (find (λ (b : Block). b.tag == n) (all_blocks v))

small_each : (xs : List ℕ) → ((x : ℕ) → Among xs x → x ≤ 255) → IsBytes xs
small_each [] each i = omega arith
small_each (x ∷ xs) each zero = (let le = each x (inl refl) in omega (arith, le))
small_each (x ∷ xs) each (suc i) = small_each xs (λ y among. each y (inr among)) i

hole_small : IsBytes hole.bytes
unfolding hole
hole_small i = elim (cases_lt i 4096) [
  | inl lt ↦ rw (get_or-replicate {A = ℕ} 4096 i 0 0 lt) (omega arith)
  | inr past ↦ rw (get_or_past {X = ℕ} (replicate 4096 0) i 0 (omega (arith, length-replicate {A = ℕ} 4096 0))) (omega arith)
]

hole_long : length hole.bytes ≡ 4096
unfolding hole
hole_long = length-replicate {A = ℕ} 4096 0

module _ (v : Volume) (formed : FormedVolume v) (fits : TagsFitIn v) where
  pub found_by : (b : Block) → Among (all_blocks v) b → b.tag ≢ 0 → block_bytes v b.tag ≡ b.bytes
  unfolding block_bytes
  found_by b among nz = go (find (λ (x : Block). x.tag == b.tag) (all_blocks v)) refl
    where
      go : (o : Option Block) → find (λ (x : Block). x.tag == b.tag) (all_blocks v) ≡ o → found_bytes o ≡ b.bytes
      go None none = absurd (both_ways (list_any (λ (x : Block). x.tag == b.tag) (all_blocks v)) (find_none (λ (x : Block). x.tag == b.tag) (all_blocks v) none)
          (any_among (λ (x : Block). x.tag == b.tag) (all_blocks v) b among (eq-eqb b.tag b.tag refl)))
      go (Some c) some =
          let is = find_is (λ (x : Block). x.tag == b.tag) (all_blocks v) c some in
          let here = stored_of v c is.0 in
          let there = stored_of v b among in
          let same : b.tag ≡ c.tag = sym (eqb-true c.tag b.tag is.1) in
          ap (λ (x : Block). x.bytes) (sym (fits.one_place there.at here.at b c there.is here.is same nz).1)

  pub bytes_long : (n : ℕ) → length (block_bytes v n) ≡ 4096
  unfolding block_bytes
  bytes_long n = go (find (λ (x : Block). x.tag == n) (all_blocks v)) refl
    where
      go : (o : Option Block) → find (λ (x : Block). x.tag == n) (all_blocks v) ≡ o → length (found_bytes o) ≡ 4096
      go None none = hole_long
      go (Some c) some = let here = stored_of v c (find_is (λ (x : Block). x.tag == n) (all_blocks v) c some).0 in formed.whole here.at c here.is

  pub bytes_small : (n : ℕ) → IsBytes (block_bytes v n)
  unfolding block_bytes
  bytes_small n = go (find (λ (x : Block). x.tag == n) (all_blocks v)) refl
    where
      go : (o : Option Block) → find (λ (x : Block). x.tag == n) (all_blocks v) ≡ o → IsBytes (found_bytes o)
      go None none = hole_small
      go (Some c) some = let here = stored_of v c (find_is (λ (x : Block). x.tag == n) (all_blocks v) c some).0 in small_each c.bytes (formed.bytes here.at c here.is)

  -- ---- an image that has them

  module _ (c : Image) (shown : (n : ℕ) → 1 ≤ n → block_at c n ≡ block_bytes v n) where
    hole_seen : block_of c hole.tag ≡ hole
    unfolding hole
    hole_seen = refl

    read_there : (n : ℕ) → n ≢ 0 → bytes_at c n ≡ block_at c n
    read_there n nz = rw (ne_eqb n 0 nz) refl

    block_seen : (b : Block) → Among (all_blocks v) b → block_of c b.tag ≡ b
    block_seen b among = elim (cases_eq b.tag 0) [
      | inl none ↦ (let here = stored_of v b among in subst (λ (x : Block). block_of c x.tag ≡ x) (sym (formed.holes here.at b here.is none)) hole_seen)
      | inr nz ↦ ap (λ (bytes : List ℕ). let x : Block = record { tag = b.tag; bytes = bytes } in x) (read_there b.tag nz ∙ shown b.tag (omega (arith, nz)) ∙ found_by b among nz)
    ]

    blocks_seen : (bs : List Block) → ((b : Block) → Among bs b → block_of c b.tag ≡ b) → seen.image_of c (tags bs) ≡ bs
    blocks_seen [] each = refl
    blocks_seen (b ∷ bs) each =
        let here = each b (inl refl) in
        let rest = blocks_seen bs (λ x among. each x (inr among)) in
        cc

    pub image_seen : (image : List Block) → Among (images_of v) image → seen.image_of c (tags image) ≡ image
    image_seen image is = blocks_seen image (λ b among. block_seen b (among_of v image b is among))

    snapshot_seen : (s : Snapshot) → Among v.snapshots s → seen_snapshot c (kept_snapshot s) ≡ s
    snapshot_seen s among =
        ap (λ (i : List Block). let x : Snapshot = record s { image = i } in x) (image_seen s.image (inr (inr (among_map image_of v.snapshots s among))))

    snapshots_seen : (ss : List Snapshot) → ((s : Snapshot) → Among ss s → seen_snapshot c (kept_snapshot s) ≡ s) → map (seen_snapshot c) (map kept_snapshot ss) ≡ ss
    snapshots_seen [] each = refl
    snapshots_seen (s ∷ ss) each =
        let here = each s (inl refl) in
        let rest = snapshots_seen ss (λ x among. each x (inr among)) in
        cc

    pub volume_seen : (number : VolNo) → volume_of v.path v.disk c (record { root = root_of number v; active = (root_of number v).stable }) ≡ opened v
    volume_seen number =
        let stable = image_seen v.stable (inr (inl refl)) in
        let snapshots = snapshots_seen v.snapshots snapshot_seen in
        ap (λ (i : List Block). let x : Volume = record v { active = i; stable = i; snapshots = map (seen_snapshot c) (map kept_snapshot v.snapshots) } in x) stable
        ∙ ap (λ (ss : List Snapshot). let x : Volume = record v { active = v.stable; snapshots = ss } in x) snapshots
