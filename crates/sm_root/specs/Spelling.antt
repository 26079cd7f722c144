-- The one spelling of a root, version 1.
use Rattle.std.specs.Prelude.{ℕ, List, [], ◌++◌, length, Option, None, Some}
use Rattle.std.specs.List.{flat_map}
use Rattle.sm_base.specs.declared.numbers.Kind.{Kind}
use Rattle.sm_base.specs.declared.numbers.Kind.TheVariants.{Rw, Dp}
use Rattle.sm_fields.specs.Format.{bits8, bits32, bits64}
use Rattle.sm_fields.specs.Grammar.{digits, with_length, identity_digits}
use Rattle.sm_root.specs.declared.root.Root.{Root}
use Rattle.sm_root.specs.declared.root.RootSnapshot.{RootSnapshot}
use Rattle.sm_root.specs.declared.parts.Sizes.{Sizes}
use Rattle.sm_root.specs.declared.head.Head.{Head}
use Rattle.sm_root.specs.declared.TheConstants.{MAGIC}

abbrev pub kind_number : Kind → ℕ
kind_number Rw = 0
kind_number Dp = 1

-- no label is a text of no bytes
abbrev pub label_text : Option (List ℕ) → List ℕ
label_text None = []
label_text (Some label) = label

unfoldable pub map_bytes : List ℕ → List ℕ
map_bytes numbers = flat_map (digits bits32) numbers

-- what stands of a snapshot between its identity and its map
unfoldable pub words_digits : Head → List ℕ
words_digits h = with_length h.name ++ (with_length (label_text h.label) ++ (digits bits64 h.time ++ digits bits32 h.made))

abbrev pub head_of : RootSnapshot → Head
head_of s = record { ident = s.ident; name = s.name; label = s.label; time = s.time; made = s.made }

unfoldable pub snapshot_bytes : RootSnapshot → List ℕ
snapshot_bytes s = identity_digits s.ident ++ (words_digits (head_of s) ++ map_bytes s.map)

-- the sizes and numbers of a root
unfoldable pub sizes_digits : Sizes → List ℕ
sizes_digits s = digits bits32 s.number.0 ++ (digits bits8 (kind_number s.kind) ++ (digits bits64 s.family ++ (digits bits32 s.logical ++ (digits bits32 s.physical ++ digits bits64 s.next))))

abbrev pub sizes_of : Root → Sizes
sizes_of r = record { number = r.number; kind = r.kind; family = r.family; logical = r.logical; physical = r.physical; next = r.next }

unfoldable pub body_bytes : Root → List ℕ
body_bytes r = sizes_digits (sizes_of r) ++ (map_bytes r.stable ++ (digits bits32 (length r.snapshots) ++ flat_map snapshot_bytes r.snapshots))

-- the magic word, the number of bytes behind, and these
abbrev pub spelling : Root → List ℕ
spelling r = MAGIC ++ (digits bits32 (length (body_bytes r)) ++ body_bytes r)
