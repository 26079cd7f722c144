-- What a restart may leave while a record is being selected.
use Rattle.std.proofs.Common.{◌≡◌, ◌⊎◌, inl, inr, ⊎_elim, ℕ, ◌+◌, ◌-◌, ◌%◌, ◌<◌, ◌≤◌, List, [], ◌∷◌, length, IsTrue, sym, ◌∙◌, ap, subst, arith}
use Rattle.std.proofs.lemmas.Bool.{cases_eq}
use Rattle.sm_disk.specs.Image.{Image, part, IsOutside, SameOutside, SameWithin}
use Rattle.sm_disk.specs.Disk.{DiskState, GoesOn, IsSynced}
use Rattle.sm_disk.specs.Spared.{IsLike, Spares}
use Rattle.sm_disk.proofs.Parts.{part-same, part_one}
use Rattle.sm_disk.proofs.Moments.{joined, weaker}
use Rattle.sm_disk.proofs.Calls.{image_told}
use Rattle.sm_disk.proofs.SparedLemmas.{like_fewer, spares_fewer, spares_joined}
use Rattle.sm_slots.specs.Stored.{Record, stored_at, stored, IsFramed, slot_len, slot_start, slot_of}
use Rattle.sm_slots.specs.Slots.{Selects, IsSettled, IsCommitted, BehindSlots, IsBefore, IsBeforeOrAfter}
use Rattle.sm_slots.proofs.Spelled.{stored_at-same, stored_at_record}

-- the two slots are apart
apart : (now next len place : ℕ) → now < 2 → next ≡ 1 - now → len ≤ slot_len → slot_start now ≤ place → place < slot_start now + slot_len → (place < slot_start next) ⊎ (slot_start next + len ≤ place)
apart now next len place small other fits from below = elim (cases_eq now 0) [
  | inl is ↦ inl (omega arith)
  | inr not ↦ inr (omega arith)
]

-- where the selected slot has the same bytes, it spells the same
selects-same : (c d : Image) (number : ℕ) → slot_of c ≡ number → slot_of d ≡ number → SameWithin (slot_start number) slot_len c d → Selects d number (stored c)
selects-same c d number is_c is_d same = record {
  slot = is_d;
  stored = ap (λ (n : ℕ). stored_at d (slot_start n)) is_d ∙ stored_at-same c d (slot_start number) same ∙ sym (ap (λ (n : ℕ). stored_at c (slot_start n)) is_c);
}

module _ (next : ℕ) (small : next < 2) (bytes : List ℕ) (fits : length bytes ≤ slot_len) where
  -- what is behind the slots is outside of a record in a slot
  behind_record : (place : ℕ) → BehindSlots place → IsOutside (slot_start next) (length bytes) place
  behind_record place far = inr (omega arith)

  -- and outside of the selector
  behind_selector : (place : ℕ) → BehindSlots place → IsOutside 0 1 place
  behind_selector place far = inr (omega arith)

  -- the new record is the selected one where the selector names its slot
  selects_new : (a x : Image) → IsFramed bytes → part a (slot_start next) (length bytes) ≡ bytes → SameOutside 0 1 a x → slot_of x ≡ next → Selects x next (Record bytes)
  selects_new a x framed holds rest flipped = record {
    slot = flipped;
    stored = ap (λ (n : ℕ). stored_at x (slot_start n)) flipped ∙ stored_at_record x (slot_start next) bytes framed fits
        (part-same a x (slot_start next) (length bytes) (λ place above below. rest place (inr (omega arith))) ∙ holds);
  }

  module _ (now : ℕ) (was : now < 2) (other : next ≡ 1 - now) where
    -- bytes in the other slot leave the selected one
    selects_old : (c x : Image) → slot_of c ≡ now → SameOutside (slot_start next) (length bytes) c x → Selects x now (stored c)
    selects_old c x is outside = selects-same c x now is (ap (λ (b : ℕ). b % 2) (outside 0 (inl (omega arith))) ∙ is)
        (λ place from below. outside place (apart now next (length bytes) place was other fits from below))

    -- with the new record in its slot, any byte of the selector selects the old record or the new one
    selects_either : (c a x : Image) → slot_of c ≡ now → SameOutside (slot_start next) (length bytes) c a → IsFramed bytes → part a (slot_start next) (length bytes) ≡ bytes → SameOutside 0 1 a x
        → Selects x now (stored c) ⊎ Selects x (1 - now) (Record bytes)
    selects_either c a x is outside framed holds rest = elim (cases_eq (x 0 % 2) now) [
      | inl same ↦ inl (selects-same c x now is same (λ place from below. rest place (inr (omega arith)) ∙ outside place (apart now next (length bytes) place was other fits from below)))
      | inr differs ↦ inr (subst (λ (n : ℕ). Selects x n (Record bytes)) other (selects_new a x framed holds rest (omega arith)))
    ]

-- a record is written into a slot of s, which gives a, and is then selected, which gives e
module _ (s : DiskState) (next : ℕ) (small : next < 2) (bytes : List ℕ) (framed : IsFramed bytes) (fits : length bytes ≤ slot_len) (a : DiskState)
    (written : Spares (IsOutside (slot_start next) (length bytes)) s a) where
  pub written_behind : Spares BehindSlots s a
  written_behind = spares_fewer (IsOutside (slot_start next) (length bytes)) BehindSlots (behind_record next small bytes fits) s a written

  -- while the record is written, the old one is selected
  module _ (now : ℕ) (was : now < 2) (other : next ≡ 1 - now) (settled : IsSettled s now) where
    written_before : (x : Image) → IsLike (IsOutside (slot_start next) (length bytes)) s x → IsBefore s now x
    written_before x like =
        let from = settled.images like.0 like.1 in
        let is : now ≡ slot_of s.seen = settled.selected (image_told s like.0 like.1) in
        let old = selects_old next small bytes fits now was other like.0 x (from.slot ∙ sym is) like.2 in record {
          selects = record { slot = old.slot; stored = old.stored ∙ from.stored };
          behind = like_fewer (IsOutside (slot_start next) (length bytes)) BehindSlots (behind_record next small bytes fits) s x like;
        }

    pub to_record : GoesOn s a (IsBeforeOrAfter s now bytes)
    to_record = weaker s a _ _ written.any_moment (λ x like. inl (written_before x like))

  -- the record stands in its slot, on the medium
  module _ (holds : IsTrue s.told → part a.seen (slot_start next) (length bytes) ≡ bytes) (synced : IsSynced a) (e : DiskState) (chosen : Spares (IsOutside 0 1) a e) where
    pub selected_behind : Spares BehindSlots s e
    selected_behind = spares_joined BehindSlots s a e written_behind (spares_fewer (IsOutside 0 1) BehindSlots (behind_selector next small bytes fits) a e chosen)

    -- the new record is the selected one
    pub committed : IsSynced e → (IsTrue s.told → part e.seen 0 1 ≡ next ∷ []) → IsCommitted s e next bytes
    committed durable selector = record {
      selects = λ told.
          let first : e.seen 0 ≡ next = (let p : e.seen 0 ∷ [] ≡ next ∷ [] = sym (part_one e.seen 0) ∙ selector told in cc) in
          selects_new next small bytes fits a.seen e.seen framed (holds told) chosen.seen (omega arith);
      synced = durable;
    }

    module _ (now : ℕ) (was : now < 2) (other : next ≡ 1 - now) (settled : IsSettled s now) where
      -- what the write of the selector leaves is what was read but for the selector
      from_read : (x : Image) → IsLike (IsOutside 0 1) a x → SameOutside 0 1 a.seen x
      from_read x like place out = like.2 place out ∙ ap (λ (c : Image). c place) (synced like.0 like.1)

      -- and behind the slots some image at the start had it
      from_old : (x : Image) → IsLike (IsOutside 0 1) a x → IsLike BehindSlots s x
      from_old x like =
          let old = written_behind.images like.0 like.1 in
          (old.0, old.1, λ place far. like.2 place (inr (omega arith)) ∙ old.2 place far)

      selected_either : (x : Image) → IsLike (IsOutside 0 1) a x → IsBeforeOrAfter s now bytes x
      selected_either x like =
          let told : IsTrue s.told = subst IsTrue written.any_moment.told (image_told a like.0 like.1) in
          ⊎_elim
          (λ old. inl (record { selects = old; behind = from_old x like }))
          (λ new. inr (record { selects = new; behind = λ place far. from_read x like place (inr (omega arith)) ∙ written_behind.seen place far }))
          (selects_either next small bytes fits now was other s.seen a.seen x (sym (settled.selected told)) written.seen framed (holds told) (from_read x like))

      pub to_selector : GoesOn s e (IsBeforeOrAfter s now bytes)
      to_selector = joined s a e _ (to_record now was other settled) (weaker a e _ _ chosen.any_moment selected_either)
