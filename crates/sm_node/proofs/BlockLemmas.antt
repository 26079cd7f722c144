-- Events change no block but those that only the world after uses.
use Rattle.std.proofs.Common.{◌≡◌, ⊎_elim, inl, ℕ, zero, suc, ◌<◌, true, false, List, [], ◌∷◌, ◌++◌, length, map, refl, sym, ◌∙◌, ap, subst, Option, Some, None, arith}
use Rattle.std.specs.Prelude.{slice_get, slice_set, nat_eq}
use Rattle.std.proofs.lemmas.Bool.{or_left, or_right}
use Rattle.std.proofs.lemmas.List.{length-map}
use Rattle.std.proofs.lemmas.Option.{slice_get_within}
use Rattle.sm_disk.specs.Image.{Image}
use Rattle.sm_disk.specs.Disk.{DiskState, GoesOn, IsQuiet}
use Rattle.sm_disk.proofs.Moments.{begun, weaker}
use Rattle.sm_defs.specs.Image as model
use Rattle.sm_defs.specs.Image.{Block, tags, stands, full_block}
use Rattle.sm_defs.specs.Operations.{least_free, IsLeastFree}
use Rattle.sm_defs.specs.Volume.{Volume}
use Rattle.sm_defs.specs.World.{Up, with_volume}
use Rattle.sm_defs.proofs.Members.{any_left, get_set}
use Rattle.sm_defs.proofs.Bridges.{least_is}
use Rattle.sm_model.specs.OfVolumes as answers
use Rattle.volume_store.specs.Held.{block_at}
use Rattle.sm_catroot.specs.declared.placed.Placed.{Placed}
use Rattle.sm_volume.specs.Mounted.{Mounted}
use Rattle.sm_volume.specs.Shown.{IsLikeIn, KeepsBlocks, NoBlock}
use Rattle.sm_node.specs.Seats.{Seated, device, moved}
use Rattle.sm_node.specs.Nodes.{Node, placed}
use Rattle.sm_node.specs.Moves.{at_place}
use Rattle.sm_node.specs.Blocks.{IsNewIn, ChangesNewBlocks}
use Rattle.sm_seats.proofs.Lists.{one_value, last_or}
use Rattle.sm_node.proofs.Lists.{get_set_same}

-- ---- of one disk

module _ (changes : ℕ → Type 0) where
  pub keeps_same : (a : DiskState) → KeepsBlocks changes a a
  keeps_same a = record {
    seen = λ n from stays. refl;
    images = λ c may. (c, may, λ n from stays. refl);
    any_moment = begun a (IsLikeIn changes a);
  }

  pub keeps_fewer : (P : ℕ → Type 0) → ((n : ℕ) → P n → changes n) → (a b : DiskState) → KeepsBlocks P a b → KeepsBlocks changes a b
  keeps_fewer P within a b kept =
      let like : (c : Image) → IsLikeIn P a c → IsLikeIn changes a c = λ c from. (from.0, from.1, λ n one stays. from.2 n one (λ h. stays (within n h))) in
      record {
        seen = λ n one stays. kept.seen n one (λ h. stays (within n h));
        images = λ c may. like c (kept.images c may);
        any_moment = weaker a b (IsLikeIn P a) (IsLikeIn changes a) kept.any_moment like;
      }

  -- a call that only reads
  pub keeps_quiet : (a b : DiskState) → IsQuiet a b → GoesOn a b a.may_leave → KeepsBlocks changes a b
  keeps_quiet a b quiet goes =
      let like : (c : Image) → a.may_leave c → IsLikeIn changes a c = λ c may. (c, may, λ n one stays. refl) in
      record {
        seen = λ n one stays. ap (λ (x : Image). block_at x n) quiet.seen;
        images = λ c may. like c (quiet.no_more c may);
        any_moment = weaker a b a.may_leave (IsLikeIn changes a) goes like;
      }

-- ---- of a node

none_behind : {X : Type 0} (xs : List X) (x : X) → slice_get xs (length xs) ≡ Some x → ⊥
none_behind xs x e = let within = slice_get_within xs (length xs) x e in absurd (omega (arith, within))

module _ {D : Type 0} (state : D → DiskState) (before after : Up) (n : Node D) where
  pub none_changed : (m : Node D) → m.seats ≡ n.seats → ChangesNewBlocks state before after n m
  none_changed m same = record {
    seats = λ i s t was is.
        let one : s ≡ t = one_value (slice_get n.seats i) s t was (ap (λ (ss : List (Seated D)). slice_get ss i) (sym same) ∙ is) in
        subst (λ (x : Seated D). KeepsBlocks (IsNewIn before after i) (state (device s)) (state (device x))) one (keeps_same (IsNewIn before after i) (state (device s)));
    joined = λ t is. absurd (none_behind n.seats t (ap (λ (ss : List (Seated D)). slice_get ss (length n.seats)) (sym same) ∙ is));
  }

  pub one_changed : (at : ℕ) (s : Seated D) (m : Mounted D) → slice_get n.seats at ≡ Some s → KeepsBlocks (IsNewIn before after at) (state (device s)) (state m.disk)
      → ChangesNewBlocks state before after n (record n { seats = slice_set n.seats at (moved s m) })
  one_changed at s m was kept = record {
    seats = λ i x y old new. ⊎_elim
        (λ here.
        let same : s ≡ x = one_value (slice_get n.seats at) s x was (ap (λ (j : ℕ). slice_get n.seats j) (sym here.0) ∙ old) in
        subst (λ (j : ℕ). KeepsBlocks (IsNewIn before after j) (state (device x)) (state (device y))) (sym here.0)
        (subst (λ (z : Seated D). KeepsBlocks (IsNewIn before after at) (state (device x)) (state (device z))) (sym here.1)
        (subst (λ (z : Seated D). KeepsBlocks (IsNewIn before after at) (state (device z)) (state m.disk)) same kept)))
        (λ there.
        let same : x ≡ y = one_value (slice_get n.seats i) x y old there in
        subst (λ (z : Seated D). KeepsBlocks (IsNewIn before after i) (state (device x)) (state (device z))) same (keeps_same (IsNewIn before after i) (state (device x))))
        (get_set n.seats at (moved s m) i y new);
    joined = λ t is. absurd (⊎_elim
        (λ here. let within = slice_get_within n.seats at s was in let last : length n.seats ≡ at = here.0 in omega (arith, within, last))
        (λ there. none_behind n.seats t there)
        (get_set n.seats at (moved s m) (length n.seats) t is));
  }

  pub one_joined : (seat : Seated D) (x : D) → slice_get n.spares seat.disk ≡ Some (Some x) → KeepsBlocks NoBlock (state x) (state (device seat))
      → (m : Node D) → m.seats ≡ n.seats ++ seat ∷ [] → ChangesNewBlocks state before after n m
  one_joined seat x there kept m same = record {
    seats = λ i s t was is. ⊎_elim
        (λ old.
        let one : s ≡ t = one_value (slice_get n.seats i) s t was old.1 in
        subst (λ (y : Seated D). KeepsBlocks (IsNewIn before after i) (state (device s)) (state (device y))) one (keeps_same (IsNewIn before after i) (state (device s))))
        (λ last. absurd (let within = slice_get_within n.seats i s was in let end : i ≡ length n.seats = last.0 in omega (arith, within, end)))
        (last_or n.seats seat i t (ap (λ (ss : List (Seated D)). slice_get ss i) (sym same) ∙ is));
    joined = λ t is. ⊎_elim
        (λ old. absurd (let within = old.0 in omega (arith, within)))
        (λ last. subst (λ (y : Seated D). (z : D) × (slice_get n.spares y.disk ≡ Some (Some z)) × KeepsBlocks NoBlock (state z) (state (device y))) last.1 (x, there, kept))
        (last_or n.seats seat (length n.seats) t (ap (λ (ss : List (Seated D)). slice_get ss (length n.seats)) (sym same) ∙ is));
  }

-- ---- a write

stands_set : (image : model.Image) (at : ℕ) (b : Block) → at < length image → stands b.tag (tags (slice_set image at b)) ≡ true
stands_set [] at b within = absurd (omega arith)
stands_set (x ∷ xs) zero b within = or_left (nat_eq b.tag b.tag) (stands b.tag (tags xs)) (grind arith)
stands_set (x ∷ xs) (suc at) b within = or_right (nat_eq x.tag b.tag) (stands b.tag (tags (slice_set xs at b))) (stands_set xs at b (omega arith))

-- the least free number is the only one that a write uses anew
pub write_is_new : (w : Up) (at : ℕ) (p : Placed) (v : Volume) (block fill : ℕ) → slice_get w.volumes at ≡ Some (at_place p v) → block < length v.active → IsLeastFree v (least_free v)
    → (k : ℕ) → k ≡ least_free v → IsNewIn w (with_volume w at (at_place p (answers.written v block fill))) at k
unfolding full_block
write_is_new w at p v block fill there within free k is = subst (λ (j : ℕ). IsNewIn w (with_volume w at (at_place p (answers.written v block fill))) at j) (sym is) (record {
  old = at_place p v;
  new = at_place p (answers.written v block fill);
  was = there;
  is = get_set_same w.volumes at (at_place p (answers.written v block fill)) (slice_get_within w.volumes at (at_place p v) there);
  free = free.unused;
  used = any_left (λ (u : ℕ). nat_eq u (least_free v)) (tags (slice_set v.active block (full_block (least_free v) fill))) _ (stands_set v.active block (full_block (least_free v) fill) within);
})
