-- The one spelling of a catalogue.
use Rattle.std.specs.Prelude.{ℕ, ◌+◌, ◌==◌, Bool, true, false, List, [], ◌++◌, length, take, drop, Option, None, Some, position}
use Rattle.std.specs.List.{flat_map}
use Rattle.sm_base.specs.declared.numbers.PolicyKind.{PolicyKind}
use Rattle.sm_base.specs.declared.numbers.PolicyKind.TheVariants.{AsyncMirror, Vault}
use Rattle.sm_base.specs.declared.numbers.TransferKind.{TransferKind}
use Rattle.sm_base.specs.declared.numbers.TransferKind.TheVariants.{Initialize, Update, Resync}
use Rattle.sm_defs.specs.Relationship.{Policy, Rule}
use Rattle.sm_fields.specs.Format.{bits8, bits32, bits64}
use Rattle.sm_fields.specs.Grammar.{digits, with_length, truth_digits, identity_digits, option_digits}
use Rattle.sm_relation.specs.declared.relation.Relation.{Relation}
use Rattle.sm_relation.specs.declared.relation.Standing.{Standing}
use Rattle.sm_catroot.specs.declared.placed.Placed.{Placed}
use Rattle.sm_catroot.specs.declared.parts.Numbers.{Numbers}
use Rattle.sm_catroot.specs.declared.parts.Halves.{Halves}
use Rattle.sm_catroot.specs.declared.parts.RelationHead.{RelationHead}
use Rattle.sm_catroot.specs.declared.parts.TransferHead.{TransferHead}
use Rattle.sm_catroot.specs.declared.TheConstants.{MAGIC}
use Rattle.sm_catroot.specs.Catalog.{Catalog}

unfoldable pub numbers_digits : Numbers → List ℕ
numbers_digits n = digits bits64 n.clock ++ (digits bits32 n.next_relation ++ digits bits64 n.next_transfer)

-- ---- volumes

abbrev pub before_at : List ℕ → Option ℕ → List ℕ
before_at text None = text
before_at text (Some at) = take at text

abbrev pub behind_at : List ℕ → Option ℕ → List ℕ
behind_at text None = []
behind_at text (Some at) = drop (at + 1) text

abbrev pub colon : List ℕ → Option ℕ
colon text = position (λ b. b == 58) text

-- what stands before the first colon, and what stands behind it
abbrev pub first_part : List ℕ → List ℕ
first_part path = before_at path (colon path)

abbrev pub second_part : List ℕ → List ℕ
second_part path = behind_at path (colon path)

unfoldable pub path_digits : List ℕ → List ℕ
path_digits path = with_length (first_part path) ++ with_length (second_part path)

unfoldable pub placed_digits : Placed → List ℕ
placed_digits v = path_digits v.path ++ digits bits32 v.disk.0

-- ---- policies

abbrev pub policy_kind_number : PolicyKind → ℕ
policy_kind_number AsyncMirror = 0
policy_kind_number Vault = 1

unfoldable pub rule_digits : Rule → List ℕ
rule_digits r = with_length r.label ++ (digits bits32 r.keep ++ truth_digits r.preserve)

unfoldable pub policy_digits : Policy → List ℕ
policy_digits p = with_length p.name ++ (digits bits8 (policy_kind_number p.kind) ++ (digits bits32 (length p.rules) ++ flat_map rule_digits p.rules))

-- ---- relationships

abbrev pub transfer_kind_number : TransferKind → ℕ
transfer_kind_number Initialize = 0
transfer_kind_number Update = 1
transfer_kind_number Resync = 2

abbrev pub half : ℕ → Bool → ℕ
half n true = n
half n false = 0

-- 1 for the source's half, 2 for the destination's, their sum for both
abbrev pub halves_number : Halves → ℕ
halves_number h = half 1 h.source + half 2 h.destination

unfoldable pub transfer_head_digits : TransferHead → List ℕ
transfer_head_digits h = digits bits64 h.number ++ (digits bits8 (transfer_kind_number h.kind) ++ (truth_digits h.reserved ++ digits bits32 h.checkpoint))

abbrev pub transfer_head_of : Standing → TransferHead
transfer_head_of t = record { number = t.number; kind = t.kind; reserved = t.reserved; checkpoint = t.checkpoint }

-- whether it runs is not told
unfoldable pub transfer_digits : Standing → List ℕ
transfer_digits t = transfer_head_digits (transfer_head_of t) ++ (digits bits32 (length t.legs) ++ flat_map identity_digits t.legs)

unfoldable pub relation_head_digits : RelationHead → List ℕ
relation_head_digits h = digits bits32 h.number.0 ++ (digits bits32 h.source.0 ++ (digits bits32 h.destination.0 ++ (digits bits32 h.policy ++ (digits bits8 (halves_number h.halves) ++ truth_digits h.quiesced))))

abbrev pub relation_head_of : Relation → RelationHead
relation_head_of r = record { number = r.number; source = r.source; destination = r.destination; policy = r.policy; halves = record { source = r.source_half; destination = r.destination_half }; quiesced = r.quiesced }

unfoldable pub relation_digits : Relation → List ℕ
relation_digits r = relation_head_digits (relation_head_of r) ++ (option_digits identity_digits r.base ++ option_digits transfer_digits r.transfer)

-- ---- the whole

abbrev pub numbers_of : Catalog → Numbers
numbers_of k = record { clock = k.clock; next_relation = k.next_relation; next_transfer = k.next_transfer }

unfoldable pub volumes_bytes : List Placed → List ℕ
volumes_bytes vs = digits bits32 (length vs) ++ flat_map placed_digits vs

unfoldable pub policies_bytes : List Policy → List ℕ
policies_bytes ps = digits bits32 (length ps) ++ flat_map policy_digits ps

unfoldable pub relations_bytes : List Relation → List ℕ
relations_bytes rs = digits bits32 (length rs) ++ flat_map relation_digits rs

unfoldable pub body_bytes : Catalog → List ℕ
body_bytes k = numbers_digits (numbers_of k) ++ (volumes_bytes k.volumes ++ (policies_bytes k.policies ++ relations_bytes k.relations))

-- the magic word, the number of bytes behind, and these
abbrev pub spelling : Catalog → List ℕ
spelling k = MAGIC ++ (digits bits32 (length (body_bytes k)) ++ body_bytes k)
