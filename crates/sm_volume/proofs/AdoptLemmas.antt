-- Which maps can be adopted, and what becomes of the volume.
use Rattle.std.proofs.Common.{◌≡◌, inr, ⊎_elim, ℕ, ◌<◌, ◌≤◌, nat_lt, not, cond, List, [], ◌∷◌, ◌++◌, map, slice_index, length, sym, ap, ◌∙◌, subst, Some, None}
use Rattle.sm_base.specs.declared.numbers.Ident.{Ident}
use Rattle.sm_defs.specs.Image.{tags}
use Rattle.sm_base.specs.declared.limits.TheConstants.{MOST_SNAPSHOTS}
use Rattle.sm_defs.specs.Volume.{Snapshot, Volume}
use Rattle.sm_defs.specs.Words.{Among, has_ident}
use Rattle.sm_disk.specs.Image as disk
use Rattle.sm_root.specs.declared.root.RootSnapshot.{RootSnapshot}
use Rattle.sm_root.specs.Condition.{map_of}
use Rattle.std.proofs.lemmas.List.{map-append}
use Rattle.sm_defs.proofs.Members.{among_map, from_map as among_map_from}
use Rattle.volume_store.specs.declared.faults.VolumeFault.TheVariants.{SnapFull}
use Rattle.sm_root.specs.declared.head.Head.{Head}
use Rattle.volume_store.specs.Maps.{Maps, AreMapsOf, all_maps}
use Rattle.volume_store.specs.Next as store
use Rattle.volume_store.specs.Refusals as store_refusals
use Rattle.sm_root.specs.Condition as store_snapshot
use Rattle.volume_store.proofs.Sound.{among_filter}
use Rattle.sm_volume.specs.Seen.{image_of, seen_snapshot, volume_of}
use Rattle.sm_volume.specs.Assigned.{CanAdopt, snapshot_of, adopted, staying}
use Rattle.sm_volume.specs.Refusals.{adopt_refusal}
use Rattle.sm_volume.proofs.SeenLemmas.{tags_seen, length_seen}
use Rattle.sm_volume.proofs.CallLemmas.{staying_seen}

module _ (c : disk.Image) (m : Maps) (ms : List ℕ) (drops : List Ident) (maps : AreMapsOf m.root.logical m.root.physical (all_maps m.root m.active)) (can : CanAdopt (volume_of [] 0 c m) ms drops) where
  left : List RootSnapshot
  left = store.staying drops m.root.snapshots

  -- a map of a snapshot that stays is one of the volume's
  is_old : (x : List ℕ) → Among (store.map_maps left) x → Among (all_maps m.root m.active) x
  unfolding left
  is_old x is =
      let from = among_map_from map_of left x is in
      let old = among_filter (λ (s : RootSnapshot). not (has_ident drops s.ident)) m.root.snapshots from.0 from.1 in
      inr (inr (subst (Among (map map_of m.root.snapshots)) (sym from.2) (among_map map_of m.root.snapshots from.0 old)))

  new_with_old : (x : List ℕ) (i j : ℕ) → Among (store.map_maps left) x → slice_index ms i ≡ slice_index x j → 0 < slice_index ms i → i ≡ j
  unfolding left
  new_with_old x i j is same some =
      let from = among_map_from map_of left x is in
      let seen : Among (staying drops (map (seen_snapshot c) m.root.snapshots)) (seen_snapshot c from.0) =
      subst (λ (ss : List Snapshot). Among ss (seen_snapshot c from.0)) (sym (staying_seen c drops m.root.snapshots)) (among_map (seen_snapshot c) left from.0 from.1) in
      let numbers : x ≡ tags (image_of c from.0.map) = from.2 ∙ sym (tags_seen c from.0.map) in
      can.one_place (seen_snapshot c from.0) seen i j (same ∙ ap (λ (xs : List ℕ). slice_index xs j) numbers) some

  pub adopt_fits : AreMapsOf m.root.logical m.root.physical (ms ∷ store.map_maps (store.staying drops m.root.snapshots))
  unfolding left
  adopt_fits = record {
    long = λ x is. ⊎_elim (λ e. ap length e ∙ can.long) (λ old. maps.long x (is_old x old)) is;
    within = λ x is i. ⊎_elim (λ e. subst (λ (xs : List ℕ). slice_index xs i ≤ m.root.physical) (sym e) (can.within i)) (λ old. maps.within x (is_old x old) i) is;
    one_place = λ x y i j is_x is_y same some. ⊎_elim
        (λ ex. ⊎_elim
        (λ ey. can.once i j (ap (λ (xs : List ℕ). slice_index xs i) (sym ex) ∙ same ∙ ap (λ (xs : List ℕ). slice_index xs j) ey) (subst (λ (xs : List ℕ). 0 < slice_index xs i) ex some))
        (λ old. new_with_old y i j old (ap (λ (xs : List ℕ). slice_index xs i) (sym ex) ∙ same) (subst (λ (xs : List ℕ). 0 < slice_index xs i) ex some))
        is_y)
        (λ old. ⊎_elim
        (λ ey. let back : slice_index ms j ≡ slice_index x i = ap (λ (xs : List ℕ). slice_index xs j) (sym ey) ∙ sym same in
        sym (new_with_old x j i old back (subst (λ (k : ℕ). 0 < k) (sym back) some)))
        (λ old_y. maps.one_place x y i j (is_old x old) (is_old y old_y) same some)
        is_y)
        is_x;
  }

with_new_seen : (c : disk.Image) (drops : List Ident) (ss : List RootSnapshot) (t : RootSnapshot) → staying drops (map (seen_snapshot c) ss ++ seen_snapshot c t ∷ []) ≡ map (seen_snapshot c) (store.staying drops (ss ++ t ∷ []))
with_new_seen c drops ss t = ap (staying drops) (sym (map-append (seen_snapshot c) ss (t ∷ []))) ∙ staying_seen c drops (ss ++ t ∷ [])

pub adopt_refused : (c : disk.Image) (m : Maps) (h : Head) (ms : List ℕ) (drops : List Ident) → adopt_refusal (volume_of [] 0 c m) (snapshot_of h (image_of c ms)) drops ≡ store_refusals.adopt_refusal m (store_snapshot.snapshot_of h ms) drops
adopt_refused c m h ms drops =
    let t = store_snapshot.snapshot_of h ms in
    ap (λ (n : ℕ). cond (nat_lt MOST_SNAPSHOTS n) (Some SnapFull) None) (ap length (with_new_seen c drops m.root.snapshots t) ∙ length_seen c (store.staying drops (m.root.snapshots ++ t ∷ [])))

pub adopted_seen : (c : disk.Image) (m : Maps) (h : Head) (ms : List ℕ) (family : ℕ) (drops : List Ident) →
    volume_of [] 0 c (store.adopted m (store_snapshot.snapshot_of h ms) family drops) ≡ adopted (volume_of [] 0 c m) (snapshot_of h (image_of c ms)) family drops
adopted_seen c m h ms family drops =
    ap (λ (ss : List Snapshot). let w : Volume = record (volume_of [] 0 c m) { family = family; active = image_of c ms; stable = image_of c ms; snapshots = ss } in w)
    (sym (with_new_seen c drops m.root.snapshots (store_snapshot.snapshot_of h ms)))
