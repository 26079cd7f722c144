-- What the images of a volume's disk show after its calls.
use Rattle.std.proofs.Common.{◌≡◌, ◌⊎◌, inl, inr, ⊎_elim, ℕ, ◌+◌, ◌-◌, ◌<◌, ◌≤◌, List, Bool, true, false, Some, None, IsTrue, refl, sym, ◌∙◌, ap, subst, arith}
use Rattle.std.proofs.lemmas.Bool.{cases_order, false≢true}
use Rattle.sm_disk.specs.Image.{Image, SameAt, SameOutside, IsOutside}
use Rattle.sm_disk.specs.Disk.{DiskState, GoesOn, Steps, IsQuiet, IsSynced, Wrote}
use Rattle.sm_disk.specs.Spared.{Spares}
use Rattle.sm_disk.proofs.Parts.{part-same}
use Rattle.sm_disk.proofs.Moments.{weaker, joined}
use Rattle.sm_disk.proofs.Calls.{seen_shows, image_told}
use Rattle.sm_root.specs.declared.root.Root.{Root}
use Rattle.sm_root.specs.Condition.{IsRoot, maps_of}
use Rattle.sm_root.specs.Spelling.{spelling}
use Rattle.sm_slots.proofs.Settled.{selects_spared}
use Rattle.sm_slots.specs.Stored.{Record, stored, slot_of}
use Rattle.sm_slots.specs.Slots.{BehindSlots, Selects, IsSettled, IsCommitted, IsBeforeOrAfter}
use Rattle.volume_store.specs.Maps.{Maps, uses}
use Rattle.volume_store.specs.Held.{Held, block_at, block_start, Shows, ShowsAfter, ShowsEither, IsAsLarge, IsHeld, need}

pub block-same : (c d : Image) (n : ℕ) → SameAt BehindSlots c d → block_at d n ≡ block_at c n
unfolding block_at
block-same c d n same = part-same c d (block_start n) 4096 (λ place from below. same place (omega arith))

-- the same root, seen against another image with the same blocks
pub shows_against : (number : ℕ) (root : Root) (d e c : Image) → SameAt BehindSlots d e → Shows number root d c → Shows number root e c
shows_against number root d e c same shown = record {
  good = shown.good;
  selects = shown.selects;
  blocks = λ n one is. shown.blocks n one is ∙ sym (block-same d e n same);
}

module _ (s : DiskState) (number : ℕ) (root : Root) (firm : (c : Image) → s.may_leave c → Shows number root s.seen c) where
  seen_is : IsTrue s.told → Shows number root s.seen s.seen
  seen_is told = seen_shows s (λ c. Shows number root s.seen c) firm told

  -- the slots of a volume that is up
  pub settled_of : IsSettled s number
  settled_of = record {
    selected = λ told. sym (seen_is told).selects.slot;
    images = λ c may.
        let told = image_told s c may in record {
          slot = (firm c may).selects.slot ∙ sym (seen_is told).selects.slot;
          stored = (firm c may).selects.stored ∙ sym (seen_is told).selects.stored;
        };
  }

  -- the images of a commit
  pub shows_commit : (bytes : List ℕ) (next : Root) → IsRoot next → bytes ≡ spelling next → (c : Image) → IsBeforeOrAfter s number bytes c → Shows number root s.seen c ⊎ Shows (1 - number) next s.seen c
  shows_commit bytes next good is c (inl before) =
      let from = before.behind in
      let told = image_told s from.0 from.1 in
      inl (record {
        good = (seen_is told).good;
        selects = record { slot = before.selects.slot; stored = before.selects.stored ∙ (seen_is told).selects.stored };
        blocks = λ n one used. block-same from.0 c n from.2 ∙ (firm from.0 from.1).blocks n one used;
      })
  shows_commit bytes next good is c (inr after) = inr (record {
    good = good;
    selects = record { slot = after.selects.slot; stored = after.selects.stored ∙ ap Record is };
    blocks = λ n one used. block-same s.seen c n after.behind;
  })

-- a volume that is up is on each image
pub firm_of : {D : Type 0} (state : D → DiskState) (v : Held D) → IsHeld state v → v.up ≡ true → (c : Image) → (state v.disk).may_leave c → Shows v.number v.maps.root (state v.disk).seen c
firm_of state v held up c may =
    let none = held.decided up in
    ⊎_elim (λ shown. shown) (λ after. absurd (subst (λ a. ShowsAfter v.number a (state v.disk).seen c) none after)) (held.images c may)

-- after a commit that failed the images show one of the two
module _ {D : Type 0} (state : D → DiskState) (v : Held D) (held : IsHeld state v) (up : v.up ≡ true) (next : Maps) (good : IsRoot next.root) (bytes : List ℕ) (is : bytes ≡ spelling next.root)
    (logical : next.root.logical ≡ v.maps.root.logical) (physical : next.root.physical ≡ v.maps.root.physical) (numbered : next.root.number ≡ v.maps.root.number)
    (later : D) (spared : Spares BehindSlots (state v.disk) (state later)) (left : (c : Image) → (state later).may_leave c → IsBeforeOrAfter (state v.disk) v.number bytes c) where
  either_left : (c : Image) → (state later).may_leave c → ShowsEither v.number v.maps (Some next) (state later).seen c
  either_left c may = ⊎_elim
      (λ before. inl (shows_against v.number v.maps.root (state v.disk).seen (state later).seen c spared.seen before))
      (λ after. inr (shows_against (1 - v.number) next.root (state v.disk).seen (state later).seen c spared.seen after))
      (shows_commit (state v.disk) v.number v.maps.root (firm_of state v held up) bytes next.root good is c (left c may))

  pub held_failed : (number : ℕ) → number ≡ v.number → IsHeld state (record { disk = later; number = number; maps = v.maps; after = Some next; up = false })
  held_failed number same = record {
    room = rw (spared.any_moment.size) held.room;
    one_of_two = rw same held.one_of_two;
    as_large = (logical, physical, numbered);
    decided = λ yes. absurd (false≢true yes);
    images = λ c may. subst (λ n. ShowsEither n v.maps (Some next) (state later).seen c) (sym same) (either_left c may);
  }

apart : (k n place : ℕ) → 1 ≤ n → 1 ≤ k → (n ≡ k → ⊥) → block_start n ≤ place → place < block_start n + 4096 → IsOutside (block_start k) 4096 place
apart k n place one_n one_k other from below = elim (cases_order n k) [
  | inl same ↦ absurd (other same)
  | inr (inl less) ↦ inl (omega arith)
  | inr (inr more) ↦ inr (omega arith)
]

pub block-outside : (c d : Image) (k n : ℕ) → 1 ≤ n → 1 ≤ k → (n ≡ k → ⊥) → SameOutside (block_start k) 4096 c d → block_at d n ≡ block_at c n
unfolding block_at
block-outside c d k n one_n one_k other outside = part-same c d (block_start n) 4096 (λ place from below. outside place (apart k n place one_n one_k other from below))

-- a write of a block that the root does not use
module _ (s w : DiskState) (number : ℕ) (root : Root) (k : ℕ) (one_k : 1 ≤ k) (unused : uses (maps_of root) k ≡ false) (wrote : Wrote s (block_start k) 4096 w) where
  other_than : (n : ℕ) → uses (maps_of root) n ≡ true → n ≡ k → ⊥
  other_than n used same = false≢true (sym unused ∙ ap (uses (maps_of root)) (sym same) ∙ used)

  pub shows_wrote : (d c : Image) → SameOutside (block_start k) 4096 d c → Shows number root s.seen d → Shows number root s.seen c
  shows_wrote d c outside shown =
      let same : Selects c (slot_of d) (stored d) = selects_spared d c (λ place at. outside place (inl (omega arith))) in record {
        good = shown.good;
        selects = record { slot = same.slot ∙ shown.selects.slot; stored = same.stored ∙ shown.selects.stored };
        blocks = λ n one used. block-outside d c k n one one_k (other_than n used) outside ∙ shown.blocks n one used;
      }

  -- the same against what is read afterwards
  pub shows_read : (c : Image) → Shows number root s.seen c → Shows number root w.seen c
  shows_read c shown = record {
    good = shown.good;
    selects = shown.selects;
    blocks = λ n one used. shown.blocks n one used ∙ sym (block-outside s.seen w.seen k n one one_k (other_than n used) wrote.seen);
  }

module _ {D : Type 0} (state : D → DiskState) (v : Held D) (held : IsHeld state v) (up : v.up ≡ true) (k : ℕ) (one_k : 1 ≤ k) (unused : uses (maps_of v.maps.root) k ≡ false)
    (later : D) (wrote : Wrote (state v.disk) (block_start k) 4096 (state later)) (time : Steps (state v.disk) (state later)) where
  shown_later : (c : Image) → (state later).may_leave c → Shows v.number v.maps.root (state v.disk).seen c
  shown_later c may =
      let from = wrote.images c may in
      shows_wrote (state v.disk) (state later) v.number v.maps.root k one_k unused wrote from.0 c from.2 (firm_of state v held up from.0 from.1)

  pub held_wrote : (up' : Bool) → IsHeld state (record { disk = later; number = v.number; maps = v.maps; after = v.after; up = up' })
  held_wrote up' = record {
    room = rw time.size held.room;
    one_of_two = held.one_of_two;
    as_large = held.as_large;
    decided = λ yes. held.decided up;
    images = λ c may. inl (shows_read (state v.disk) (state later) v.number v.maps.root k one_k unused wrote c (shown_later c may));
  }

  pub wrote_any_moment : GoesOn (state v.disk) (state later) (Shows v.number v.maps.root (state v.disk).seen)
  wrote_any_moment = weaker (state v.disk) (state later) (state later).may_leave (Shows v.number v.maps.root (state v.disk).seen) time shown_later

-- a disk on which all stands shows what it reads
pub held_made : {D : Type 0} (state : D → DiskState) (disk : D) (number : ℕ) (maps : Maps) → IsRoot maps.root → need maps.root.physical ≤ (state disk).size → number < 2
    → IsSynced (state disk) → (IsTrue (state disk).told → Selects (state disk).seen number (Record (spelling maps.root)))
    → IsHeld state (record { disk = disk; number = number; maps = maps; after = None; up = true })
held_made state disk number maps good room small synced selects = record {
  room = room;
  one_of_two = small;
  as_large = tt;
  decided = λ yes. refl;
  images = λ c may.
      let same : c ≡ (state disk).seen = synced c may in
      inl (record {
        good = good;
        selects = subst (λ (x : Image). Selects x number (Record (spelling maps.root))) (sym same) (selects (image_told (state disk) c may));
        blocks = λ n one used. ap (λ (x : Image). block_at x n) same;
      });
}

-- the next maps are on the disk
pub held_next : {D : Type 0} (state : D → DiskState) (v : Held D) → IsHeld state v → v.up ≡ true → (next : Maps) → IsRoot next.root → (bytes : List ℕ) → bytes ≡ spelling next.root
    → next.root.physical ≡ v.maps.root.physical → (later : D) → Spares BehindSlots (state v.disk) (state later) → (number : ℕ) → number ≡ 1 - v.number → IsCommitted (state v.disk) (state later) number bytes
    → IsHeld state (record { disk = later; number = number; maps = next; after = v.after; up = v.up })
held_next state v held up next good bytes is physical later spared number other committed =
    let none = held.decided up in
    let told = spared.any_moment.told in
    let room : need next.root.physical ≤ (state later).size = rw (physical, spared.any_moment.size) held.room in
    let small : number < 2 = omega (arith, other) in
    let made = held_made state later number next good room small committed.synced (λ yes. subst (λ (b : List ℕ). Selects (state later).seen number (Record b)) is (committed.selects (subst IsTrue told yes))) in
    record {
      room = room;
      one_of_two = small;
      as_large = subst (λ a. IsAsLarge a next.root) (sym none) tt;
      decided = held.decided;
      images = λ c may. ⊎_elim (λ shown. inl shown) (λ after. absurd after) (made.images c may);
    }

-- a restart, and a read after it
pub restart_steps : (a b c : DiskState) → Steps a b → Steps b c → IsQuiet b c → Steps a c
restart_steps a b c first second quiet = joined a b c c.may_leave (weaker a b b.may_leave c.may_leave first (λ x may. quiet.no_less x may)) second
