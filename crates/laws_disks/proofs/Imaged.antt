-- An image that has a record in its first slot and blocks behind the slots.
use Rattle.std.proofs.Common.{◌≡◌, ℕ, ◌+◌, ◌-◌, ◌*◌, ◌/◌, ◌%◌, ◌<◌, ◌≤◌, Bool, true, false, List, length, get_or, refl, sym, ap, subst, ◌∙◌, arith}
use Rattle.std.specs.Prelude.{nat_lt, if◌then◌else◌}
use Rattle.std.proofs.lemmas.Bool.{lt-ltb, le-ltb}
use Rattle.sm_base.specs.declared.limits.TheConstants.{BLOCKS_START}
use Rattle.sm_disk.specs.Image.{Image, part}
use Rattle.sm_disk.proofs.Parts.{part_each}
use Rattle.sm_fields.specs.Place.{IsBytes}
use Rattle.sm_slots.specs.Stored.{Record, stored, stored_at, slot_len, slot_of, slot_start, IsFramed}
use Rattle.sm_slots.proofs.Spelled.{stored_at_record}
use Rattle.volume_store.specs.Held.{block_at, block_start}

-- the byte at a place of the blocks
abbrev block_byte : (ℕ → List ℕ) → ℕ → ℕ
block_byte blocks behind = get_or (blocks (behind / 4096 + 1)) (behind % 4096) 0

-- the first slot is selected, and the other is blank
unfoldable pub imaged : List ℕ → (ℕ → List ℕ) → Image
imaged bytes blocks place =
    if nat_lt place 4096 then 0 else
    if nat_lt place BLOCKS_START then get_or bytes (place - 4096) 0 else block_byte blocks (place - BLOCKS_START)

module _ (bytes : List ℕ) (blocks : ℕ → List ℕ) where
  front : (place : ℕ) → place < 4096 → imaged bytes blocks place ≡ 0
  unfolding imaged
  front place lt = rw (lt-ltb place 4096 lt) refl

  in_slot : (place : ℕ) → 4096 ≤ place → place < BLOCKS_START → imaged bytes blocks place ≡ get_or bytes (place - 4096) 0
  unfolding imaged
  in_slot place from below = rw (le-ltb place 4096 from, lt-ltb place BLOCKS_START below) refl

  in_blocks : (place : ℕ) → BLOCKS_START ≤ place → imaged bytes blocks place ≡ block_byte blocks (place - BLOCKS_START)
  unfolding imaged
  in_blocks place from = rw (le-ltb place 4096 (omega arith), le-ltb place BLOCKS_START from) refl

  first_slot : slot_of (imaged bytes blocks) ≡ 0
  first_slot = ap (λ (n : ℕ). n % 2) (front 0 (omega arith))

  record_there : length bytes ≤ slot_len → bytes ≡ part (imaged bytes blocks) 4096 (length bytes)
  record_there short = part_each (imaged bytes blocks) 4096 bytes (λ j lt.
      let e : 4096 + j - 4096 ≡ j = omega arith in
      sym (in_slot (4096 + j) (omega arith) (omega arith) ∙ ap (λ (k : ℕ). get_or bytes k 0) e))

  pub stores : IsFramed bytes → length bytes ≤ slot_len → stored (imaged bytes blocks) ≡ Record bytes
  stores framed short =
      ap (λ (n : ℕ). stored_at (imaged bytes blocks) (slot_start n)) first_slot
      ∙ stored_at_record (imaged bytes blocks) 4096 bytes framed short (sym (record_there short))

  pub block_there : (n : ℕ) → 1 ≤ n → length (blocks n) ≡ 4096 → block_at (imaged bytes blocks) n ≡ blocks n
  unfolding block_at
  block_there n one long = subst (λ (k : ℕ). part (imaged bytes blocks) (block_start n) k ≡ blocks n) long (sym (part_each (imaged bytes blocks) (block_start n) (blocks n) each))
    where
      each : (j : ℕ) → j < length (blocks n) → get_or (blocks n) j 0 ≡ imaged bytes blocks (block_start n + j)
      each j lt =
          let behind : block_start n + j - BLOCKS_START ≡ 4096 * (n - 1) + j = omega arith in
          let number : (4096 * (n - 1) + j) / 4096 + 1 ≡ n = omega arith in
          let place : (4096 * (n - 1) + j) % 4096 ≡ j = omega arith in
          sym (in_blocks (block_start n + j) (omega arith) ∙ ap (block_byte blocks) behind ∙ ap (λ (k : ℕ). get_or (blocks k) ((4096 * (n - 1) + j) % 4096) 0) number ∙ ap (λ (k : ℕ). get_or (blocks n) k 0) place)

  pub are_bytes : IsBytes bytes → ((n : ℕ) → IsBytes (blocks n)) → (place : ℕ) → imaged bytes blocks place < 256
  unfolding imaged
  are_bytes small each place = go (nat_lt place 4096) (nat_lt place BLOCKS_START)
    where
      go : (a b : Bool) → (if a then 0 else if b then get_or bytes (place - 4096) 0 else block_byte blocks (place - BLOCKS_START)) < 256
      go true b = omega arith
      go false true = small (place - 4096)
      go false false = each ((place - BLOCKS_START) / 4096 + 1) ((place - BLOCKS_START) % 4096)
