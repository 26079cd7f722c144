-- What each call makes of the volume that is seen, and why it is refused.
use Rattle.std.proofs.Common.{◌≡◌, ◌≢◌, inl, inr, ℕ, ◌≤◌, ◌==◌, not, zero, suc, Bool, true, false, List, [], ◌∷◌, map, replicate, slice_set, slice_index, slice_index_or, refl, sym, ap, ◌∙◌, subst, arith, Option, Some, None, option_map, find, cond, Result, Ok, Err, OnOk, OnErr, IsTrue, nat_le}
use Rattle.std.proofs.lemmas.Bool.Decides.{nat_tests}
use Rattle.std.proofs.lemmas.List.{map-set, map-append}
use Rattle.std.proofs.Math.ListN.{get_or-map}
use Rattle.std.specs.List.{list_any, list_all}
use Rattle.std.specs.Str.{bytes_eq}
use Rattle.sm_base.specs.declared.numbers.Ident.{Ident}
use Rattle.sm_base.specs.declared.numbers.Kind.{Kind}
use Rattle.sm_base.specs.declared.numbers.VolNo.{VolNo}
use Rattle.sm_defs.specs.Image.{Block, Image, hole, stands}
use Rattle.sm_defs.specs.Volume.{Snapshot, Volume, has, is_rw, new_volume, image_of as image_of_snapshot}
use Rattle.sm_defs.specs.Words.{Among, same_ident, has_ident, up_to}
use Rattle.sm_defs.proofs.Bridges.{least_is}
use Rattle.sm_disk.specs.Image.{IsOutside}
use Rattle.sm_disk.specs.Image as disk
use Rattle.sm_disk.specs.Disk.{DiskState}
use Rattle.sm_disk.specs.Spared.{Spares}
use Rattle.sm_root.specs.declared.root.RootSnapshot.{RootSnapshot}
use Rattle.sm_root.specs.Condition.{map_of}
use Rattle.volume_store.specs.declared.faults.VolumeFault.{VolumeFault}
use Rattle.volume_store.specs.declared.faults.VolumeFault.TheVariants.{DiskFault, ReadOnly, BadBlock, NoSpace}
use Rattle.sm_root.specs.declared.head.Head.{Head}
use Rattle.volume_store.specs.declared.io.View.{View}
use Rattle.volume_store.specs.declared.io.View.TheVariants.{Active, Of}
use Rattle.volume_store.specs.Held.{Held, block_at, block_start, bytes_at}
use Rattle.volume_store.specs.Held as store_held
use Rattle.volume_store.specs.Maps.{Maps, all_maps, uses}
use Rattle.volume_store.specs.Maps as store_maps
use Rattle.volume_store.specs.Next as store
use Rattle.volume_store.specs.Opened.{empty_maps}
use Rattle.volume_store.specs.Refusals.{used_of}
use Rattle.volume_store.specs.Refusals as store_refusals
use Rattle.sm_root.specs.Condition as store_snapshot
use Rattle.volume_store.proofs.FoundLemmas.{nowhere}
use Rattle.sm_volume.specs.Seen.{block_of, image_of, seen_snapshot, volume_of}
use Rattle.sm_volume.specs.Mounted.{Mounted, mounted}
use Rattle.sm_volume.specs.Assigned.{HasBlock, snapped, staying, IsReverted}
use Rattle.sm_defs.specs.Operations.{IsLeastFree, least_free, written, removed, reverted}
use Rattle.sm_defs.proofs.Members.{among_map, from_map as among_map_from}
use Rattle.sm_volume.specs.Refusals.{snapshot_refusal, remove_refusal, write_refusal, read_refusal, revert_refusal, image_seen, unless_seen}
use Rattle.sm_volume.proofs.BlockLemmas.{bytes_same, volume_used, keeps_others}
use Rattle.sm_volume.proofs.SeenLemmas.{used_seen, uses_seen, any_seen, has_seen, length_seen, filter_seen, find_seen, up_to_seen, all_images}

pub new_seen : (c : disk.Image) (i : Ident) (ss : List RootSnapshot) → has (map (seen_snapshot c) ss) i ≡ false → (s : RootSnapshot) → Among ss s → ¬ (s.ident ≡ i)
new_seen c i ss h = nowhere i ss (sym (has_seen c ss i) ∙ h)

-- snapshot
name_seen : (c : disk.Image) (name : List ℕ) (ss : List RootSnapshot) → list_any (λ (s : Snapshot). bytes_eq s.name name) (map (seen_snapshot c) ss) ≡ list_any (λ (s : RootSnapshot). bytes_eq s.name name) ss
name_seen c name ss = any_seen c (λ s. bytes_eq s.name name) (λ s. bytes_eq s.name name) (λ s. refl) ss

pub snapshot_refused : (c : disk.Image) (m : Maps) (i : Ident) (name : List ℕ) → snapshot_refusal (volume_of [] 0 c m) i name ≡ store_refusals.snapshot_refusal m i name
snapshot_refused c m i name = rw (name_seen c name m.root.snapshots, length_seen c m.root.snapshots) refl

pub snapped_seen : (c : disk.Image) (m : Maps) (h : Head) → volume_of [] 0 c (store.snapped m (store_snapshot.snapshot_of h m.active)) ≡ snapped (volume_of [] 0 c m) h
snapped_seen c m h =
    let v = volume_of [] 0 c m in
    ap (λ (ss : List Snapshot). let w : Volume = record v { stable = v.active; next = store.next_after m.root h.ident; snapshots = ss } in w)
    (map-append (seen_snapshot c) m.root.snapshots (store_snapshot.snapshot_of h m.active ∷ []))

-- remove
all_have : (c : disk.Image) (ss : List RootSnapshot) (drops : List Ident) → list_all (has (map (seen_snapshot c) ss)) drops ≡ list_all (store_refusals.has_snapshot ss) drops
all_have c ss [] = refl
all_have c ss (i ∷ is) = rw (has_seen c ss i, all_have c ss is) refl

pub remove_refused : (c : disk.Image) (m : Maps) (drops : List Ident) → remove_refusal (volume_of [] 0 c m) drops ≡ store_refusals.remove_refusal m drops
remove_refused c m drops = rw (all_have c m.root.snapshots drops) refl

pub staying_seen : (c : disk.Image) (drops : List Ident) (ss : List RootSnapshot) → staying drops (map (seen_snapshot c) ss) ≡ map (seen_snapshot c) (store.staying drops ss)
staying_seen c drops ss = filter_seen c (λ s. not (has_ident drops s.ident)) (λ s. not (has_ident drops s.ident)) (λ s. refl) ss

pub without_seen : (c : disk.Image) (m : Maps) (drops : List Ident) → volume_of [] 0 c (store.without m drops) ≡ removed (volume_of [] 0 c m) drops
without_seen c m drops = ap (λ (ss : List Snapshot). let w : Volume = record (volume_of [] 0 c m) { snapshots = ss } in w) (sym (staying_seen c drops m.root.snapshots))

-- revert
pub revert_refused : (c : disk.Image) (m : Maps) (i : Ident) → revert_refusal (volume_of [] 0 c m) i ≡ store_refusals.revert_refusal m i
revert_refused c m i = rw (has_seen c m.root.snapshots i) refl

cut_by : (b : Bool) (c : disk.Image) (i : Ident) (ss : List RootSnapshot) →
    map (seen_snapshot c) (cond b (up_to (λ (t : RootSnapshot). same_ident t.ident i) ss) ss) ≡ cond b (up_to (λ (t : Snapshot). same_ident t.ident i) (map (seen_snapshot c) ss)) (map (seen_snapshot c) ss)
cut_by true c i ss = sym (up_to_seen c i ss)
cut_by false c i ss = refl

pub reverted_seen : (c : disk.Image) (m next : Maps) (i : Ident) (drop_newer : Bool) (family : ℕ) → store.IsReverted m i drop_newer family next → IsReverted (volume_of [] 0 c m) i drop_newer family (volume_of [] 0 c next)
reverted_seen c m next i drop_newer family h =
    let p : RootSnapshot → Bool = λ t. same_ident t.ident i in (
      seen_snapshot c h.0,
      find_seen c i m.root.snapshots ∙ ap (option_map (seen_snapshot c)) h.1,
      ap (volume_of [] 0 c) h.2 ∙ ap (reverted (volume_of [] 0 c m) (image_of c h.0.map) family) (cut_by drop_newer c i m.root.snapshots),
    )

-- write
pub write_refused : (c : disk.Image) (m : Maps) (at : ℕ) → write_refusal (volume_of [] 0 c m) at ≡ store_refusals.write_refusal m at
write_refused c m at = rw (used_seen [] 0 c m) refl

pub least_seen : (c : disk.Image) (m : Maps) (n : ℕ) → store_maps.IsLeastFree m n → IsLeastFree (volume_of [] 0 c m) n
least_seen c m n h = record {
  from_one = h.from_one;
  within = h.within;
  unused = uses_seen [] 0 c m n ∙ h.unused;
  least = λ k p q. uses_seen [] 0 c m k ∙ h.least k p q;
}

pub least_kept : (c : disk.Image) (m : Maps) (n : ℕ) → IsLeastFree (volume_of [] 0 c m) n → store_maps.IsLeastFree m n
least_kept c m n h = record {
  from_one = h.from_one;
  within = h.within;
  unused = sym (uses_seen [] 0 c m n) ∙ h.unused;
  least = λ k p q. sym (uses_seen [] 0 c m k) ∙ h.least k p q;
}

-- a block that no map uses is another than each that one uses
pub used_same : (a b : DiskState) (n : ℕ) (m : Maps) → 1 ≤ n → uses (all_maps m.root m.active) n ≡ false → Spares (IsOutside (block_start n) 4096) a b → (k : ℕ) → uses (all_maps m.root m.active) k ≡ true → bytes_at b.seen k ≡ bytes_at a.seen k
used_same a b n m one unused p k used = bytes_same a.seen b.seen k (λ from.
    (keeps_others n one a b p).seen k from (λ e. let h : uses (all_maps m.root m.active) n ≡ true = ap (uses (all_maps m.root m.active)) (sym e) ∙ used in absurd (cc)))

-- the disk went on, and no block that the volume uses changed
pub moved_used : {D : Type 0} (state : D → DiskState) (h : Held D) (later : D) (up : Bool) → h.after ≡ None → ((k : ℕ) → uses (all_maps h.maps.root h.maps.active) k ≡ true → bytes_at (state later).seen k ≡ bytes_at (state h.disk).seen k)
    → mounted state (record h { disk = later; up = up }) ≡ record (mounted state h) { disk = later; up = up }
moved_used state h later up none same =
    let build : Volume → Option Volume → Mounted _ = λ v after. record { disk = later; number = h.maps.root.number; selected = h.number; volume = v; after = after; up = up } in
    let v = volume_used [] 0 (state h.disk).seen (state later).seen h.maps same in
    ap (λ (x : Volume). build x (option_map (volume_of [] 0 (state later).seen) h.after)) v
    ∙ ap (λ (o : Option Maps). build (volume_of [] 0 (state h.disk).seen h.maps) (option_map (volume_of [] 0 (state later).seen) o)) none
    ∙ ap (λ (o : Option Maps). build (volume_of [] 0 (state h.disk).seen h.maps) (option_map (volume_of [] 0 (state h.disk).seen) o)) (sym none)

written_by : (d : disk.Image) (n : ℕ) (b : Bool) → (n == 0) ≡ b → 1 ≤ n → cond b hole.bytes (block_at d n) ≡ block_at d n
written_by d n true e p = absurd (grind (arith, nat_tests))
written_by d n false e p = refl

pub block_bytes : (d : disk.Image) (n : ℕ) → 1 ≤ n → bytes_at d n ≡ block_at d n
block_bytes d n p = written_by d n (n == 0) refl p

-- the active map has a number more, and no block that the volume used changed
pub written_seen : (c d : disk.Image) (m : Maps) (n at : ℕ) → uses (all_maps m.root m.active) n ≡ false → ((k : ℕ) → uses (all_maps m.root m.active) k ≡ true → bytes_at d k ≡ bytes_at c k)
    → volume_of [] 0 d (record m { active = slice_set m.active at n }) ≡ written (volume_of [] 0 c m) at (block_of d n)
written_seen c d m n at unused same =
    let a : image_of d (slice_set m.active at n) ≡ slice_set (image_of d m.active) at (block_of d n) = map-set (block_of d) m.active at n in
    let v : volume_of [] 0 d m ≡ volume_of [] 0 c m = volume_used [] 0 c d m same in
    ap (λ (image : Image). let w : Volume = record (volume_of [] 0 d m) { active = image } in w) a
    ∙ ap (λ (w : Volume). written w at (block_of d n)) v

-- what a write ensures where it answers Ok
abbrev pub HasWritten : {D : Type 0} → (D → DiskState) → ℕ → List ℕ → Held D → Held D → Type 0
HasWritten state at bytes old new =
    (n : ℕ) × store_maps.IsLeastFree old.maps n × (new ≡ record old { disk = new.disk; maps = record old.maps { active = slice_set old.maps.active at n } })
    × (IsTrue (state old.disk).told → block_at (state new.disk).seen n ≡ bytes)

abbrev pub SeesWritten : {D : Type 0} → (D → DiskState) → ℕ → List ℕ → Mounted D → Mounted D → Type 0
SeesWritten state at bytes old new =
    (b : Block) × IsLeastFree old.volume b.tag × (new ≡ record old { disk = new.disk; volume = written old.volume at b })
    × (IsTrue (state old.disk).told → b.bytes ≡ bytes)
    × (IsTrue (state old.disk).told → block_at (state new.disk).seen b.tag ≡ bytes)
    × (b.tag ≡ least_free old.volume)

module _ {D : Type 0} (state : D → DiskState) (old new : Held D) (at : ℕ) (bytes : List ℕ) (none : old.after ≡ None)
    (spared : (n : ℕ) → store_maps.IsLeastFree old.maps n → Spares (IsOutside (block_start n) 4096) (state old.disk) (state new.disk)) where
  pub sees_written : (r : Result (Unit {0}) VolumeFault) → OnOk r (HasWritten state at bytes old new) → OnOk r (SeesWritten state at bytes (mounted state old) (mounted state new))
  sees_written (Err x) h = tt
  sees_written (Ok u) h =
      let n = h.0 in
      let c = (state old.disk).seen in
      let d = (state new.disk).seen in
      let same = used_same (state old.disk) (state new.disk) n old.maps h.1.from_one h.1.unused (spared n h.1) in
      let build : Volume → Option Volume → Mounted D = λ v after. record { disk = new.disk; number = old.maps.root.number; selected = old.number; volume = v; after = after; up = old.up } in (
        block_of d n,
        least_seen c old.maps n h.1,
        ap (mounted state) h.2 ∙ ap (λ (v : Volume). build v (option_map (volume_of [] 0 d) old.after)) (written_seen c d old.maps n at h.1.unused same)
            ∙ ap (λ (o : Option Maps). build (written (volume_of [] 0 c old.maps) at (block_of d n)) (option_map (volume_of [] 0 d) o)) none
            ∙ ap (λ (o : Option Maps). build (written (volume_of [] 0 c old.maps) at (block_of d n)) (option_map (volume_of [] 0 c) o)) (sym none),
        λ told. block_bytes d n h.1.from_one ∙ h.3 told,
        h.3,
        least_is (volume_of [] 0 c old.maps) n (least_seen c old.maps n h.1),
      )

  -- a write that fails changes no block that the volume uses
  pub write_failed : (n : ℕ) → store_maps.IsLeastFree old.maps n → new ≡ store_held.fallen old new.disk → mounted state new ≡ record (mounted state old) { disk = new.disk; up = false }
  write_failed n least e = ap (mounted state) e ∙ moved_used state old new.disk false none (used_same (state old.disk) (state new.disk) n old.maps least.from_one least.unused (spared n least))

-- a refusal is none where the disk failed
pub not_refused : (o : Option VolumeFault) (r : Result (Unit {0}) VolumeFault) → ((f : VolumeFault) → o ≡ Some f → f ≢ DiskFault) → store_refusals.RefusesOrFails o r → r ≡ Err DiskFault → o ≡ None
not_refused None r other h e = refl
not_refused (Some f) r other h e = absurd (other f refl (let same : Err f ≡ Err DiskFault = sym h ∙ e in cc))

-- read
pub seen_index : (c : disk.Image) (numbers : List ℕ) (at : ℕ) → bytes_at c (slice_index numbers at) ≡ (slice_index_or (image_of c numbers) at hole).bytes
unfolding hole
seen_index c numbers at = sym (ap (λ (b : Block). b.bytes) (get_or-map (block_of c) numbers at 0))

pub map_image : (c : disk.Image) (m : Maps) (view : View) → image_seen (volume_of [] 0 c m) view ≡ option_map (image_of c) (store_refusals.map_seen m view)
map_image c m Active = refl
map_image c m (Of i) = ap (option_map image_of_snapshot) (find_seen c i m.root.snapshots) ∙ by (find (λ (s : RootSnapshot). same_ident s.ident i) m.root.snapshots)
  where
    by : (o : Option RootSnapshot) → option_map image_of_snapshot (option_map (seen_snapshot c) o) ≡ option_map (image_of c) (option_map map_of o)
    by None = refl
    by (Some s) = refl

pub read_refused : (c : disk.Image) (m : Maps) (view : View) (at : ℕ) → read_refusal (volume_of [] 0 c m) view at ≡ store_refusals.read_refusal m view at
read_refused c m view at = rw (map_image c m view) (by (store_refusals.map_seen m view))
  where
    open_refusal : Option VolumeFault
    open_refusal = store_refusals.read_refusal m Active at

    by : (o : Option (List ℕ)) → unless_seen (option_map (image_of c) o) open_refusal ≡ store_refusals.unless_seen o open_refusal
    by None = refl
    by (Some ms) = refl

-- fetch
find_map : (n : ℕ) (maps : List (List ℕ)) → uses maps n ≡ true → (ms : List ℕ) × Among maps ms × (stands n ms ≡ true)
find_map n [] h = absurd (cc)
find_map n (ms ∷ maps) h = by (stands n ms) refl (find_map n maps)
  where
    by : (b : Bool) → stands n ms ≡ b → (uses maps n ≡ true → (x : List ℕ) × Among maps x × (stands n x ≡ true)) → (x : List ℕ) × Among (ms ∷ maps) x × (stands n x ≡ true)
    by true e later = (ms, inl refl, e)
    by false e later = let rest = later (rw e at h) in (rest.0, inr rest.1, rest.2)

has_block : (c : disk.Image) (n : ℕ) (ms : List ℕ) → stands n ms ≡ true → Among (image_of c ms) (block_of c n)
has_block c n [] h = absurd (cc)
has_block c n (m ∷ ms) h = by (m == n) refl (has_block c n ms)
  where
    by : (b : Bool) → (m == n) ≡ b → (stands n ms ≡ true → Among (image_of c ms) (block_of c n)) → Among (image_of c (m ∷ ms)) (block_of c n)
    by true e later = let same : n ≡ m = grind (arith, nat_tests) in inl (ap (block_of c) same)
    by false e later = inr (later (rw e at h))

pub fetched : (c : disk.Image) (m : Maps) (n : ℕ) (bytes : List ℕ) → 1 ≤ n → uses (all_maps m.root m.active) n ≡ true → bytes ≡ block_at c n → HasBlock (volume_of [] 0 c m) (record { tag = n; bytes = bytes })
fetched c m n bytes from used is =
    let found = find_map n (all_maps m.root m.active) used in (
      image_of c found.0,
      subst (λ (images : List Image). Among images (image_of c found.0)) (sym (all_images [] 0 c m)) (among_map (image_of c) (all_maps m.root m.active) found.0 found.1),
      subst (λ (bs : List ℕ). Among (image_of c found.0) (let b : Block = record { tag = n; bytes = bs } in b)) (block_bytes c n from ∙ sym is) (has_block c n found.0 found.2),
    )

-- the disk reads as the volume's blocks
pub kept_blocks : (c : disk.Image) (m : Maps) (b : Block) → HasBlock (volume_of [] 0 c m) b → 1 ≤ b.tag → block_at c b.tag ≡ b.bytes
kept_blocks c m b has from =
    let image = among_map_from (image_of c) (all_maps m.root m.active) has.0 (subst (λ (images : List Image). Among images has.0) (all_images [] 0 c m) has.1) in
    let number = among_map_from (block_of c) image.0 b (subst (λ (i : Image). Among i b) image.2 has.2) in
    let tag : b.tag ≡ number.0 = ap (λ (x : Block). x.tag) number.2 in
    ap (block_at c) tag ∙ sym (block_bytes c number.0 (subst (λ (n : ℕ). 1 ≤ n) tag from)) ∙ sym (ap (λ (x : Block). x.bytes) number.2)

-- create
map_replicate : {X Y : Type 0} (f : X → Y) (n : ℕ) (x : X) → map f (replicate n x) ≡ replicate n (f x)
map_replicate f zero x = refl
map_replicate f (suc n) x = ap (λ (ys : List _). f x ∷ ys) (map_replicate f n x)

hole_of : (c : disk.Image) → block_of c 0 ≡ hole
unfolding hole
hole_of c = refl

pub created : (c : disk.Image) (number : VolNo) (kind : Kind) (logical physical : ℕ) → volume_of [] 0 c (empty_maps number kind logical physical) ≡ new_volume [] 0 kind number.0 logical physical
created c number kind logical physical =
    let image : image_of c (replicate logical 0) ≡ replicate logical hole = map_replicate (block_of c) logical 0 ∙ ap (replicate logical) (hole_of c) in
    ap (λ (i : Image). let v : Volume = record (new_volume [] 0 kind number.0 logical physical) { active = i; stable = i } in v) image

-- a block of number 0 is the hole
pub kept_holes : (c : disk.Image) (m : Maps) (b : Block) → HasBlock (volume_of [] 0 c m) b → b.tag ≡ 0 → b ≡ hole
kept_holes c m b has none =
    let image = among_map_from (image_of c) (all_maps m.root m.active) has.0 (subst (λ (images : List Image). Among images has.0) (all_images [] 0 c m) has.1) in
    let number = among_map_from (block_of c) image.0 b (subst (λ (i : Image). Among i b) image.2 has.2) in
    let tag : b.tag ≡ number.0 = ap (λ (x : Block). x.tag) number.2 in
    number.2 ∙ ap (block_of c) (sym tag ∙ none) ∙ hole_of c

-- a write that is not refused has a free number
pub free_seen : (c : disk.Image) (m : Maps) → (n : ℕ) × store_maps.IsLeastFree m n → IsLeastFree (volume_of [] 0 c m) (least_free (volume_of [] 0 c m))
free_seen c m free =
    let is = least_seen c m free.0 free.1 in
    subst (IsLeastFree (volume_of [] 0 c m)) (least_is (volume_of [] 0 c m) free.0 is) is

-- why a write that fails was not refused
pub write_not_refused : (m : Maps) (at : ℕ) (r : Result (Unit {0}) VolumeFault) → store_refusals.RefusesOrFails (store_refusals.write_refusal m at) r → r ≡ Err DiskFault → store_refusals.write_refusal m at ≡ None
write_not_refused m at r h e = not_refused (store_refusals.write_refusal m at) r (λ f is bad. by_kind (is_rw m.root.kind) (nat_le m.root.logical at) (used_of m == m.root.physical) f is bad) h e
  where
    by_kind : (rw_kind beyond full : Bool) (f : VolumeFault) → cond rw_kind (cond beyond (Some BadBlock) (cond full (Some NoSpace) None)) (Some ReadOnly) ≡ Some f → f ≡ DiskFault → ⊥
    by_kind true true full f is bad = cc
    by_kind true false true f is bad = cc
    by_kind true false false f is bad = cc
    by_kind false beyond full f is bad = cc

-- land
module _ {D : Type 0} (state : D → DiskState) (old new : Held D) (n : ℕ) (one : 1 ≤ n) (unused : uses (all_maps old.maps.root old.maps.active) n ≡ false) (none : old.after ≡ None)
    (spared : Spares (IsOutside (block_start n) 4096) (state old.disk) (state new.disk)) (up : old.up ≡ true) where
  same_used : (k : ℕ) → uses (all_maps old.maps.root old.maps.active) k ≡ true → bytes_at (state new.disk).seen k ≡ bytes_at (state old.disk).seen k
  same_used = used_same (state old.disk) (state new.disk) n old.maps one unused spared

  pub landed_ok : (r : Result (Unit {0}) VolumeFault) → OnOk r (new ≡ store_held.on_disk old new.disk) → OnOk r (mounted state new ≡ record (mounted state old) { disk = new.disk })
  landed_ok (Err x) h = tt
  landed_ok (Ok u) h = ap (mounted state) h ∙ moved_used state old new.disk old.up none same_used

  pub landed_fault : (r : Result (Unit {0}) VolumeFault) → OnErr r (new ≡ store_held.fallen old new.disk) → OnErr r (mounted state new ≡ record (mounted state old) { disk = new.disk; up = false })
  landed_fault (Err x) h = ap (mounted state) h ∙ moved_used state old new.disk false none same_used
  landed_fault (Ok u) h = tt

pub fetched_ok : {D : Type 0} (state : D → DiskState) (old : Held D) (n : ℕ) (bytes : List ℕ) → 1 ≤ n → uses (all_maps old.maps.root old.maps.active) n ≡ true → (r : Result (Unit {0}) VolumeFault)
    → OnOk r (IsTrue (state old.disk).told → bytes ≡ block_at (state old.disk).seen n) → OnOk r (IsTrue (state old.disk).told → HasBlock (mounted state old).volume (record { tag = n; bytes = bytes }))
fetched_ok state old n bytes one used (Ok u) h = λ told. fetched (state old.disk).seen old.maps n bytes one used (h told)
fetched_ok state old n bytes one used (Err x) h = tt

pub read_bytes : {D : Type 0} (state : D → DiskState) (old : Held D) (view : View) (at : ℕ) (bytes : List ℕ) (r : Result (Unit {0}) VolumeFault)
    → OnOk r (IsTrue (state old.disk).told → (numbers : List ℕ) × (store_refusals.map_seen old.maps view ≡ Some numbers) × (bytes ≡ bytes_at (state old.disk).seen (slice_index numbers at)))
    → OnOk r (IsTrue (state old.disk).told → (image : Image) × (image_seen (mounted state old).volume view ≡ Some image) × (bytes ≡ (slice_index_or image at hole).bytes))
read_bytes state old view at bytes (Err x) h = tt
read_bytes state old view at bytes (Ok u) h = λ told.
    let c = (state old.disk).seen in
    let found = h told in
    (image_of c found.0, map_image c old.maps view ∙ ap (option_map (image_of c)) found.1, found.2 ∙ seen_index c found.0 at)
