-- What slots spell.
use Rattle.std.proofs.Common.{◌≡◌, inl, inr, ℕ, ◌+◌, ◌-◌, ◌<◌, ◌≤◌, List, length, get_or, take, drop, Bool, true, false, cond, leb, sym, ◌∙◌, ap, arith}
use Rattle.std.proofs.lemmas.Bool.{le-leb, lt-leb}
use Rattle.std.proofs.lemmas.Bool.Decides.{leb_tells}
use Rattle.std.specs.Int.{from_be_bytes, w32}
use Rattle.sm_disk.specs.Image.{Image, part, SameWithin}
use Rattle.sm_disk.proofs.Parts.{part-same, take-part, drop-part, part_one}
use Rattle.sm_slots.specs.Stored.{Blank, Record, BadLength, stored_at, stored, is_blank, IsFramed, slot_len, slot_start, slot_of}

-- with the same head, and the same bytes as far as a slot goes
chosen : (blank : Bool) (n : ℕ) (xs ys : List ℕ) → (n ≤ slot_len → xs ≡ ys) → cond blank Blank (cond (leb n slot_len) (Record xs) BadLength) ≡ cond blank Blank (cond (leb n slot_len) (Record ys) BadLength)
chosen blank n xs ys same = elim (leb_tells n slot_len) [
  | inl t ↦ ap (λ (l : List ℕ). cond blank Blank (cond (leb n slot_len) (Record l) BadLength)) (same t.1)
  | inr f ↦ ap (λ b. cond blank Blank (cond b (Record xs) BadLength)) f.0 ∙ sym (ap (λ b. cond blank Blank (cond b (Record ys) BadLength)) f.0)
]

pub stored_at-same : (c d : Image) (at : ℕ) → SameWithin at slot_len c d → stored_at d at ≡ stored_at c at
unfolding stored_at
stored_at-same c d at same =
    let magic : part d at 8 ≡ part c at 8 = part-same c d at 8 (λ place from below. same place from (omega arith)) in
    let len : part d (at + 8) 4 ≡ part c (at + 8) 4 = part-same c d (at + 8) 4 (λ place from below. same place (omega arith) (omega arith)) in
    let n = 12 + from_be_bytes w32 (part c (at + 8) 4) in
    rw (magic, len) (chosen (is_blank (part c at 8)) n (part d at n) (part c at n) (λ fits. part-same c d at n (λ place from below. same place from (omega arith))))

-- a record that stands there is what the slot spells
pub stored_at_record : (c : Image) (at : ℕ) (bytes : List ℕ) → IsFramed bytes → length bytes ≤ slot_len → part c at (length bytes) ≡ bytes → stored_at c at ≡ Record bytes
unfolding stored_at
stored_at_record c at bytes framed fits is =
    let head = framed.head in
    let magic : part c at 8 ≡ take 8 bytes = sym (take-part c at (length bytes) 8 (omega arith)) ∙ ap (λ (l : List ℕ). take 8 l) is in
    let len : part c (at + 8) 4 ≡ take 4 (drop 8 bytes) =
    sym (take-part c (at + 8) (length bytes - 8) 4 (omega arith)) ∙ ap (λ (l : List ℕ). take 4 l) (sym (drop-part c at (length bytes) 8 (length bytes - 8) (omega arith)) ∙ ap (λ (l : List ℕ). drop 8 l) is) in
    let n : 12 + from_be_bytes w32 (take 4 (drop 8 bytes)) ≡ length bytes = sym framed.body in
    let not_blank = framed.magic in
    let fitting : leb (length bytes) slot_len ≡ true = le-leb _ _ fits in
    rw (magic, len, n, not_blank, fitting, is)

-- what the first twelve bytes of a slot tell
module _ (c : Image) (at : ℕ) (head : List ℕ) (is : head ≡ part c at 12) where
  magic_of : part c at 8 ≡ take 8 head
  magic_of = sym (take-part c at 12 8 (omega arith)) ∙ ap (λ (l : List ℕ). take 8 l) (sym is)

  len_of : part c (at + 8) 4 ≡ take 4 (drop 8 head)
  len_of = sym (take-part c (at + 8) 4 4 (omega arith)) ∙ ap (λ (l : List ℕ). take 4 l) (sym (drop-part c at 12 8 4 (omega arith)) ∙ ap (λ (l : List ℕ). drop 8 l) (sym is))

  pub reads_blank : is_blank (take 8 head) ≡ true → stored_at c at ≡ Blank
  unfolding stored_at
  reads_blank blank = rw (magic_of, blank)

  pub reads_long : is_blank (take 8 head) ≡ false → slot_len < 12 + from_be_bytes w32 (take 4 (drop 8 head)) → stored_at c at ≡ BadLength
  unfolding stored_at
  reads_long blank long = let no : leb (12 + from_be_bytes w32 (take 4 (drop 8 head))) slot_len ≡ false = lt-leb _ _ long in rw (magic_of, blank, len_of, no)

  pub reads_record : (n : ℕ) → is_blank (take 8 head) ≡ false → n ≡ 12 + from_be_bytes w32 (take 4 (drop 8 head)) → n ≤ slot_len → stored_at c at ≡ Record (part c at n)
  unfolding stored_at
  reads_record n blank is_n fits =
      let yes : leb n slot_len ≡ true = le-leb _ _ fits in
      rw (magic_of, blank, len_of, ← is_n, yes)

-- the byte that was read
pub byte_read : (c : Image) (into : List ℕ) → into ≡ part c 0 1 → get_or into 0 0 ≡ c 0
byte_read c into is = ap (λ (l : List ℕ). get_or l 0 0) (is ∙ part_one c 0)

-- what the selected slot spells, where that slot begins
pub stored_from : (c : Image) (start slot : ℕ) → start ≡ slot_start slot → slot ≡ slot_of c → stored c ≡ stored_at c start
stored_from c start slot at is = ap (λ (n : ℕ). stored_at c (slot_start n)) (sym is) ∙ ap (λ (n : ℕ). stored_at c n) (sym at)
