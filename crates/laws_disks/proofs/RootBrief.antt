-- The spelling of a root is one of bytes, and short.
use Rattle.std.proofs.Common.{◌≡◌, ℕ, suc, ◌^◌, ◌<◌, ◌≤◌, List, [], ◌∷◌, ◌++◌, length, refl, sym, inl, inr, arith, lit<}
use Rattle.std.specs.Prelude.{Option, Some, None, slice_index}
use Rattle.std.specs.List.{flat_map}
use Rattle.sm_base.specs.declared.numbers.Kind.{Kind}
use Rattle.sm_base.specs.declared.numbers.Kind.TheVariants.{Rw, Dp}
use Rattle.sm_defs.specs.Words.{Among}
use Rattle.sm_defs.proofs.Members.{among_map}
use Rattle.sm_fields.specs.Format.{bits8, bits32, bits64}
use Rattle.sm_fields.specs.Grammar.{digits, with_length, identity_digits}
use Rattle.sm_root.specs.declared.root.Root.{Root}
use Rattle.sm_root.specs.declared.root.RootSnapshot.{RootSnapshot}
use Rattle.sm_root.specs.declared.TheConstants.{MAGIC}
use Rattle.sm_root.specs.Condition.{IsLabel, map_of, maps_of, IsRoot}
use Rattle.sm_root.specs.Spelling.{kind_number, label_text, map_bytes, words_digits, snapshot_bytes, sizes_digits, sizes_of, body_bytes, spelling}
use Rattle.laws_disks.proofs.Pieces.{Brief, both, few_pieces, digits_brief, identity_brief, no_text, label_brief, name_brief}

-- ---- maps

record Place (map : List ℕ) (n : ℕ) : Type 0 where
  at : ℕ
  in_range : at < length map
  here : slice_index map at ≡ n

place_of : (map : List ℕ) (n : ℕ) → Among map n → Place map n
place_of [] n none = absurd none
place_of (m ∷ map) n (inl same) = record { at = 0; in_range = omega arith; here = sym same }
place_of (m ∷ map) n (inr later) = let p = place_of map n later in record { at = suc p.at; in_range = (let lt = p.in_range in omega (arith, lt)); here = p.here }

module _ (r : Root) (is : IsRoot r) where
  number_small : (map : List ℕ) → Among (maps_of r) map → (n : ℕ) → Among map n → n < 2 ^ 32
  number_small map there n among =
      let p = place_of map n among in
      let le : n ≤ r.physical = is.at_most n p.at (record { in_map = map; is_map = there; in_range = p.in_range; here = p.here }) in
      let most = is.few_places in
      omega (arith, le, most)

  map_brief : (map : List ℕ) → Among (maps_of r) map → length map ≡ r.logical → Brief (map_bytes map) 16384
  unfolding map_bytes
  map_brief map there long =
      let few = is.few_blocks in
      few_pieces (digits bits32) 4 4096 map (omega (arith, long, few)) (λ n among. digits_brief bits32 n (number_small map there n among))

  -- ---- snapshots

  label_text_brief : (label : Option (List ℕ)) → IsLabel label → Brief (with_length (label_text label)) 32
  label_text_brief None none = no_text 31 (omega arith)
  label_text_brief (Some label) given = label_brief label given

  snapshot_brief : (s : RootSnapshot) → Among r.snapshots s → Brief (snapshot_bytes s) 16505
  unfolding snapshot_bytes words_digits
  snapshot_brief s among =
      let f = is.snapshots s among in
      let words = with_length s.name ++ (with_length (label_text s.label) ++ (digits bits64 s.time ++ digits bits32 s.made)) in
      both (identity_digits s.ident) (words ++ map_bytes s.map) 12 16493 (identity_brief s.ident f.ident)
      (both words (map_bytes s.map) 109 16384
      (both (with_length s.name) (with_length (label_text s.label) ++ (digits bits64 s.time ++ digits bits32 s.made)) 65 44 (name_brief s.name f.name)
      (both (with_length (label_text s.label)) (digits bits64 s.time ++ digits bits32 s.made) 32 12 (label_text_brief s.label f.label)
      (both (digits bits64 s.time) (digits bits32 s.made) 8 4 (digits_brief bits64 s.time f.time) (digits_brief bits32 s.made f.made))))
      (map_brief s.map (inr (among_map map_of r.snapshots s among)) f.long))

  -- ---- the whole

  kind_small : (k : Kind) → kind_number k < 2 ^ 8
  kind_small Rw = omega arith
  kind_small Dp = omega arith

  sizes_brief : Brief (sizes_digits (sizes_of r)) 29
  unfolding sizes_digits
  sizes_brief =
      let e = digits bits32 r.physical ++ digits bits64 r.next in
      let d = digits bits32 r.logical ++ e in
      let c = digits bits64 r.family ++ d in
      let b = digits bits8 (kind_number r.kind) ++ c in
      let logical : r.logical < 2 ^ 32 = (let few = is.few_blocks in omega (arith, few)) in
      let physical : r.physical < 2 ^ 32 = (let few = is.few_places in omega (arith, few)) in
      let next : r.next < 2 ^ 64 = (let last = is.counted.1 in omega (arith, last)) in
      both (digits bits32 r.number.0) b 4 25 (digits_brief bits32 r.number.0 is.number)
      (both (digits bits8 (kind_number r.kind)) c 1 24 (digits_brief bits8 (kind_number r.kind) (kind_small r.kind))
      (both (digits bits64 r.family) d 8 16 (digits_brief bits64 r.family is.family)
      (both (digits bits32 r.logical) e 4 12 (digits_brief bits32 r.logical logical)
      (both (digits bits32 r.physical) (digits bits64 r.next) 4 8 (digits_brief bits32 r.physical physical) (digits_brief bits64 r.next next)))))

  body_brief : Brief (body_bytes r) 4225192
  unfolding body_bytes
  body_brief =
      let list = flat_map snapshot_bytes r.snapshots in
      let count = digits bits32 (length r.snapshots) in
      let few : length r.snapshots ≤ 255 = is.few in
      both (sizes_digits (sizes_of r)) (map_bytes r.stable ++ (count ++ list)) 29 4225163 sizes_brief
      (both (map_bytes r.stable) (count ++ list) 16384 4208779 (map_brief r.stable (inl refl) is.long)
      (both count list 4 4208775 (digits_brief bits32 (length r.snapshots) (omega (arith, few))) (few_pieces snapshot_bytes 16505 255 r.snapshots few snapshot_brief)))

  magic_brief : Brief MAGIC 8
  unfolding digits
  magic_brief = both (digits bits32 1397576271) (digits bits32 1330917425) 4 4 (digits_brief bits32 1397576271 (lit< tt)) (digits_brief bits32 1330917425 (lit< tt))

  pub spelling_brief : Brief (spelling r) 4225204
  spelling_brief =
      let b = body_brief in
      let small : length (body_bytes r) < 2 ^ 32 = (let s = b.short in omega (arith, s)) in
      both MAGIC (digits bits32 (length (body_bytes r)) ++ body_bytes r) 8 4225196 magic_brief
      (both (digits bits32 (length (body_bytes r))) (body_bytes r) 4 4225192 (digits_brief bits32 (length (body_bytes r)) small) b)
