-- The body of a root fits its stated length.
use Rattle.std.proofs.Common.{◌≡◌, ℕ, ◌+◌, ◌*◌, ◌≤◌, true, List, [], ◌∷◌, ◌++◌, length, refl, ap, inl, inr, arith, length-append}
use Rattle.std.specs.Prelude.{◌&&◌, nat_le, nat_lt, Option, Some, None}
use Rattle.std.specs.List.{flat_map, list_all}
use Rattle.std.proofs.lemmas.List.Concat.{flat_map-cons}
use Rattle.std.proofs.lemmas.Bool.{leb-true, and_parts}
use Rattle.sm_base.specs.Name.{is_snapshot_name, word_byte}
use Rattle.sm_defs.specs.Words.{Among}
use Rattle.sm_fields.specs.Format.{bits8, bits32, bits64}
use Rattle.sm_fields.specs.Grammar.{digits, with_length, identity_digits}
use Rattle.sm_fields.proofs.Sizes.{length-identity_digits, length-digits}
use Rattle.sm_root.specs.declared.parts.Sizes.{Sizes}
use Rattle.sm_root.specs.declared.head.Head.{Head}
use Rattle.sm_root.specs.declared.root.Root.{Root}
use Rattle.sm_root.specs.declared.root.RootSnapshot.{RootSnapshot}
use Rattle.sm_root.specs.Condition.{IsLabel, IsSnapshot, IsRoot}
use Rattle.sm_root.specs.Spelling.{kind_number, label_text, map_bytes, words_digits, head_of, snapshot_bytes, sizes_digits, sizes_of, body_bytes}

pub name_short : (t : List ℕ) → is_snapshot_name t ≡ true → length t ≤ 64
name_short t e =
    let tests = and_parts (nat_lt 0 (length t) && nat_le (length t) 64) (list_all word_byte t) e in
    leb-true (length t) 64 (and_parts (nat_lt 0 (length t)) (nat_le (length t) 64) tests.0).1

pub label_short : (l : Option (List ℕ)) → IsLabel l → length (label_text l) ≤ 31
label_short None e = omega arith
label_short (Some t) e =
    let tests = and_parts (nat_lt 0 (length t) && nat_le (length t) 31) (list_all word_byte t) e in
    leb-true (length t) 31 (and_parts (nat_lt 0 (length t)) (nat_le (length t) 31) tests.0).1

length-map_bytes : (ns : List ℕ) → length (map_bytes ns) ≡ 4 * length ns
unfolding map_bytes
length-map_bytes [] = refl
length-map_bytes (n ∷ ns) = omega (arith, ap length (flat_map-cons (digits bits32) n ns), length-append (digits bits32 n) (flat_map (digits bits32) ns), length-digits bits32 n, length-map_bytes ns)

length-words_digits : (w : Head) → length (words_digits w) ≡ length w.name + length (label_text w.label) + 14
unfolding words_digits
length-words_digits w = omega (arith, length-append (with_length w.name) (with_length (label_text w.label) ++ (digits bits64 w.time ++ digits bits32 w.made)), length-append (with_length (label_text w.label)) (digits bits64 w.time ++ digits bits32 w.made), length-append (digits bits64 w.time) (digits bits32 w.made), length-digits bits64 w.time, length-digits bits32 w.made)

snapshot_short : (logical : ℕ) (s : RootSnapshot) → logical ≤ 4096 → IsSnapshot logical s → length (snapshot_bytes s) ≤ 16505
unfolding snapshot_bytes
snapshot_short logical s few is = omega (arith, length-append (identity_digits s.ident) (words_digits (head_of s) ++ map_bytes s.map), length-append (words_digits (head_of s)) (map_bytes s.map), length-identity_digits s.ident, length-words_digits (head_of s), length-map_bytes s.map, name_short s.name is.name, label_short s.label is.label, is.long)

snapshots_short : (logical : ℕ) (ss : List RootSnapshot) → logical ≤ 4096 → ((s : RootSnapshot) → Among ss s → IsSnapshot logical s) → length (flat_map snapshot_bytes ss) ≤ 16505 * length ss
snapshots_short logical [] few each = omega arith
snapshots_short logical (s ∷ ss) few each = omega (arith, ap length (flat_map-cons snapshot_bytes s ss), length-append (snapshot_bytes s) (flat_map snapshot_bytes ss), snapshot_short logical s few (each s (inl refl)), snapshots_short logical ss few (λ x among. each x (inr among)))

length-sizes_digits : (s : Sizes) → length (sizes_digits s) ≡ 29
unfolding sizes_digits
length-sizes_digits s =
    let e = digits bits32 s.physical ++ digits bits64 s.next in
    let d = digits bits32 s.logical ++ e in
    let c = digits bits64 s.family ++ d in
    let b = digits bits8 (kind_number s.kind) ++ c in
    omega (
      arith,
      length-append (digits bits32 s.number.0) b,
      length-append (digits bits8 (kind_number s.kind)) c,
      length-append (digits bits64 s.family) d,
      length-append (digits bits32 s.logical) e,
      length-append (digits bits32 s.physical) (digits bits64 s.next),
      length-digits bits32 s.number.0,
      length-digits bits8 (kind_number s.kind),
      length-digits bits64 s.family,
      length-digits bits32 s.logical,
      length-digits bits32 s.physical,
      length-digits bits64 s.next,
    )

-- at most 12 bytes less than the longest record
pub body_short : (r : Root) → IsRoot r → length (body_bytes r) ≤ 4225192
unfolding body_bytes
body_short r is =
    let list = flat_map snapshot_bytes r.snapshots in
    let n = digits bits32 (length r.snapshots) in
    omega (arith, length-append (sizes_digits (sizes_of r)) (map_bytes r.stable ++ (n ++ list)), length-append (map_bytes r.stable) (n ++ list), length-append n list, length-sizes_digits (sizes_of r), length-map_bytes r.stable, length-digits bits32 (length r.snapshots), snapshots_short r.logical r.snapshots is.few_blocks is.snapshots, is.few, is.few_blocks, is.long)
