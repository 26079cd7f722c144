-- Blocks that a run of calls leaves alone, and the volumes that are seen on them.
use Rattle.std.proofs.Common.{◌≡◌, ◌≢◌, inl, inr, ℕ, ◌+◌, ◌<◌, ◌≤◌, ◌==◌, ◌||◌, nat_lt, cond, Bool, true, false, List, [], ◌∷◌, map, refl, ap, arith}
use Rattle.std.proofs.lemmas.Bool.{or_left, or_right}
use Rattle.std.proofs.lemmas.Bool.Decides.{nat_tests}
use Rattle.std.specs.List.{list_any}
use Rattle.sm_defs.specs.Image.{Block, hole, stands}
use Rattle.sm_defs.specs.Volume.{Snapshot}
use Rattle.sm_disk.specs.Image.{SameAt, IsOutside}
use Rattle.sm_disk.specs.Image as disk
use Rattle.sm_disk.specs.Disk.{DiskState}
use Rattle.sm_disk.specs.Spared.{Spares, IsLike}
use Rattle.sm_disk.proofs.Moments.{weaker}
use Rattle.sm_disk.proofs.Parts.{part-spared}
use Rattle.sm_root.specs.declared.root.RootSnapshot.{RootSnapshot}
use Rattle.sm_root.specs.Condition.{map_of}
use Rattle.sm_slots.specs.Slots.{BehindSlots}
use Rattle.volume_store.specs.Held.{block_at, block_start, bytes_at}
use Rattle.volume_store.specs.Maps.{Maps, all_maps, uses}
use Rattle.sm_volume.specs.Seen.{block_of, image_of, seen_snapshot, volume_of}
use Rattle.sm_volume.specs.Shown.{SameBlocks, IsLikeIn, KeepsBlocks, NoBlock}

-- the places of a block are among those that are spared
abbrev pub HasPlaces : (ℕ → Type 0) → ℕ → Type 0
HasPlaces places n = (place : ℕ) → block_start n ≤ place → place < block_start n + 4096 → places place

pub same_blocks : (places changes : ℕ → Type 0) (c d : disk.Image) → ((n : ℕ) → 1 ≤ n → (changes n → ⊥) → HasPlaces places n) → SameAt places c d → SameBlocks changes c d
unfolding block_at
same_blocks places changes c d has same = λ n from stays. part-spared places c d (block_start n) 4096 same (has n from stays)

pub keeps_blocks : (places changes : ℕ → Type 0) (a b : DiskState) → ((n : ℕ) → 1 ≤ n → (changes n → ⊥) → HasPlaces places n) → Spares places a b → KeepsBlocks changes a b
keeps_blocks places changes a b has p =
    let like : (x : disk.Image) → IsLike places a x → IsLikeIn changes a x = λ x from. (from.0, from.1, same_blocks places changes from.0 x has from.2) in record {
      seen = same_blocks places changes a.seen b.seen has p.seen;
      images = λ x may. like x (p.images x may);
      any_moment = weaker a b (IsLike places a) (IsLikeIn changes a) p.any_moment like;
    }

-- every block lies behind the slots
pub behind : (n : ℕ) → 1 ≤ n → (NoBlock n → ⊥) → HasPlaces BehindSlots n
behind n from stays = λ place after before. omega arith

pub keeps_all : (a b : DiskState) → Spares BehindSlots a b → KeepsBlocks NoBlock a b
keeps_all a b p = keeps_blocks BehindSlots NoBlock a b behind p

-- another block lies outside of this one
far : (k n place : ℕ) (b : Bool) → nat_lt k n ≡ b → k ≢ n → 1 ≤ k → 1 ≤ n → block_start k ≤ place → place < block_start k + 4096 → IsOutside (block_start n) 4096 place
far k n place true e ne p q from below = let less : k < n = grind (arith, nat_tests) in inl (omega arith)
far k n place false e ne p q from below = let more : n ≤ k = grind (arith, nat_tests) in inr (omega arith)

pub outside : (n : ℕ) → 1 ≤ n → (k : ℕ) → 1 ≤ k → (k ≡ n → ⊥) → HasPlaces (IsOutside (block_start n) 4096) k
outside n one k from ne = λ place after before. far k n place (nat_lt k n) refl ne from one after before

pub keeps_others : (n : ℕ) → 1 ≤ n → (a b : DiskState) → Spares (IsOutside (block_start n) 4096) a b → KeepsBlocks (λ k. k ≡ n) a b
keeps_others n one a b p = keeps_blocks (IsOutside (block_start n) 4096) (λ k. k ≡ n) a b (outside n one) p

bytes_by : (c d : disk.Image) (k : ℕ) (b : Bool) → (k == 0) ≡ b → (1 ≤ k → block_at d k ≡ block_at c k) → cond b hole.bytes (block_at d k) ≡ cond b hole.bytes (block_at c k)
bytes_by c d k true e same = refl
bytes_by c d k false e same = same (grind (arith, nat_tests))

pub bytes_same : (c d : disk.Image) (k : ℕ) → (1 ≤ k → block_at d k ≡ block_at c k) → bytes_at d k ≡ bytes_at c k
bytes_same c d k same = bytes_by c d k (k == 0) refl same

same_block : (c d : disk.Image) (k : ℕ) → bytes_at d k ≡ bytes_at c k → block_of d k ≡ block_of c k
same_block c d k e = ap (λ (bs : List ℕ). let b : Block = record { tag = k; bytes = bs } in b) e

pub image_kept : (c d : disk.Image) (ms : List ℕ) → ((k : ℕ) → stands k ms ≡ true → bytes_at d k ≡ bytes_at c k) → image_of d ms ≡ image_of c ms
image_kept c d [] same = refl
image_kept c d (m ∷ ms) same =
    let itself : (m == m) ≡ true = grind (arith, nat_tests) in
    let here : block_of d m ≡ block_of c m = same_block c d m (same m (or_left (m == m) (stands m ms) itself)) in
    let rest : image_of d ms ≡ image_of c ms = image_kept c d ms (λ k h. same k (or_right (m == k) (stands k ms) h)) in
    cc

pub snapshots_kept : (c d : disk.Image) (ss : List RootSnapshot) → ((k : ℕ) → list_any (λ (ms : List ℕ). stands k ms) (map map_of ss) ≡ true → bytes_at d k ≡ bytes_at c k) → map (seen_snapshot d) ss ≡ map (seen_snapshot c) ss
snapshots_kept c d [] same = refl
snapshots_kept c d (s ∷ ss) same =
    let here : seen_snapshot d s ≡ seen_snapshot c s =
    ap (λ image. let t : Snapshot = record (seen_snapshot c s) { image = image } in t) (image_kept c d s.map (λ k h. same k (or_left (stands k s.map) (list_any (λ (ms : List ℕ). stands k ms) (map map_of ss)) h))) in
    let rest : map (seen_snapshot d) ss ≡ map (seen_snapshot c) ss = snapshots_kept c d ss (λ k h. same k (or_right (stands k s.map) (list_any (λ (ms : List ℕ). stands k ms) (map map_of ss)) h)) in
    cc

-- where the blocks that the maps use are the same, so is the volume
pub volume_used : (path : List ℕ) (number : ℕ) (c d : disk.Image) (m : Maps) → ((k : ℕ) → uses (all_maps m.root m.active) k ≡ true → bytes_at d k ≡ bytes_at c k) → volume_of path number d m ≡ volume_of path number c m
volume_used path number c d m same =
    let a : image_of d m.active ≡ image_of c m.active = image_kept c d m.active (λ k h. same k (or_left (stands k m.active) (uses (m.root.stable ∷ map map_of m.root.snapshots) k) h)) in
    let s : image_of d m.root.stable ≡ image_of c m.root.stable =
    image_kept c d m.root.stable (λ k h. same k (or_right (stands k m.active) (uses (m.root.stable ∷ map map_of m.root.snapshots) k) (or_left (stands k m.root.stable) (uses (map map_of m.root.snapshots) k) h))) in
    let t : map (seen_snapshot d) m.root.snapshots ≡ map (seen_snapshot c) m.root.snapshots =
    snapshots_kept c d m.root.snapshots (λ k h. same k (or_right (stands k m.active) (uses (m.root.stable ∷ map map_of m.root.snapshots) k) (or_right (stands k m.root.stable) (uses (map map_of m.root.snapshots) k) h))) in
    rw (a, s, t) refl

pub volume_kept : (path : List ℕ) (number : ℕ) (c d : disk.Image) (m : Maps) → SameBlocks NoBlock c d → volume_of path number d m ≡ volume_of path number c m
volume_kept path number c d m same = volume_used path number c d m (λ k h. bytes_same c d k (λ from. same k from (λ none. none)))
