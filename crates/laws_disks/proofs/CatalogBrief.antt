-- The spelling of a catalogue is one of bytes, and short.
use Rattle.std.proofs.Common.{◌≡◌, ℕ, ◌^◌, ◌<◌, ◌≤◌, Bool, true, false, List, ◌++◌, length, arith, lit<}
use Rattle.std.specs.Prelude.{Option, Some, None, IfSome}
use Rattle.std.specs.List.{flat_map}
use Rattle.std.proofs.lemmas.Bool.{and_parts}
use Rattle.sm_base.specs.Name.{is_part, is_label, is_path_at}
use Rattle.sm_base.specs.declared.limits.TheConstants.{MOST_RULES}
use Rattle.sm_base.specs.declared.numbers.Ident.{Ident}
use Rattle.sm_base.specs.declared.numbers.PolicyKind.{PolicyKind}
use Rattle.sm_base.specs.declared.numbers.PolicyKind.TheVariants.{AsyncMirror, Vault}
use Rattle.sm_base.specs.declared.numbers.TransferKind.{TransferKind}
use Rattle.sm_base.specs.declared.numbers.TransferKind.TheVariants.{Initialize, Update, Resync}
use Rattle.sm_defs.specs.Relationship.{Policy, Rule}
use Rattle.sm_defs.specs.Words.{Among}
use Rattle.sm_fields.specs.Format.{bits8, bits32, bits64}
use Rattle.sm_fields.specs.Grammar.{digits, with_length, truth_digits, identity_digits, option_digits}
use Rattle.sm_relation.specs.declared.relation.Relation.{Relation}
use Rattle.sm_relation.specs.declared.relation.Standing.{Standing}
use Rattle.sm_catroot.specs.declared.placed.Placed.{Placed}
use Rattle.sm_catroot.specs.declared.parts.Numbers.{Numbers}
use Rattle.sm_catroot.specs.declared.parts.Halves.{Halves}
use Rattle.sm_catroot.specs.declared.parts.RelationHead.{RelationHead}
use Rattle.sm_catroot.specs.declared.parts.TransferHead.{TransferHead}
use Rattle.sm_catroot.specs.declared.TheConstants.{MAGIC}
use Rattle.sm_catroot.specs.Catalog.{Catalog}
use Rattle.sm_catroot.specs.Condition.{IsPlaced, IsTransfer, IsRelation, IsCatalog}
use Rattle.sm_catroot.specs.Spelling.{numbers_digits, numbers_of, before_at, behind_at, colon, first_part, second_part, path_digits, placed_digits, policy_kind_number, rule_digits, policy_digits, transfer_kind_number, half, halves_number, transfer_head_digits, transfer_head_of, transfer_digits, relation_head_digits, relation_head_of, relation_digits, volumes_bytes, policies_bytes, relations_bytes, body_bytes, spelling}
use Rattle.laws_disks.proofs.Pieces.{Brief, both, few_pieces, digits_brief, truth_brief, identity_brief, option_brief, part_brief, label_brief}

-- ---- volumes

parts_at : (text : List ℕ) (at : Option ℕ) → is_path_at text at ≡ true → (is_part (before_at text at) ≡ true) × (is_part (behind_at text at) ≡ true)
parts_at text None is = absurd cc
parts_at text (Some at) is = and_parts _ _ is

placed_brief : (v : Placed) → IsPlaced v → Brief (placed_digits v) 134
unfolding placed_digits path_digits
placed_brief v is =
    let p = parts_at v.path (colon v.path) is.path in
    both (with_length (first_part v.path) ++ with_length (second_part v.path)) (digits bits32 v.disk.0) 130 4
    (both (with_length (first_part v.path)) (with_length (second_part v.path)) 65 65 (part_brief (first_part v.path) p.0) (part_brief (second_part v.path) p.1))
    (digits_brief bits32 v.disk.0 is.disk)

-- ---- policies

pub record FitsRule (r : Rule) : Type 0 where
  pub label : is_label r.label ≡ true
  pub keep : r.keep < 2 ^ 32

rule_brief : (r : Rule) → FitsRule r → Brief (rule_digits r) 37
unfolding rule_digits
rule_brief r is =
    both (with_length r.label) (digits bits32 r.keep ++ truth_digits r.preserve) 32 5 (label_brief r.label is.label)
    (both (digits bits32 r.keep) (truth_digits r.preserve) 4 1 (digits_brief bits32 r.keep is.keep) (truth_brief r.preserve))

kind_small : (k : PolicyKind) → policy_kind_number k < 2 ^ 8
kind_small AsyncMirror = omega arith
kind_small Vault = omega arith

pub record FitsPolicy (p : Policy) : Type 0 where
  pub name : is_part p.name ≡ true
  pub few : length p.rules ≤ MOST_RULES
  pub rules : (r : Rule) → Among p.rules r → FitsRule r

policy_brief : (p : Policy) → FitsPolicy p → Brief (policy_digits p) 440
unfolding policy_digits
policy_brief p is =
    let list = flat_map rule_digits p.rules in
    both (with_length p.name) (digits bits8 (policy_kind_number p.kind) ++ (digits bits32 (length p.rules) ++ list)) 65 375 (part_brief p.name is.name)
    (both (digits bits8 (policy_kind_number p.kind)) (digits bits32 (length p.rules) ++ list) 1 374 (digits_brief bits8 (policy_kind_number p.kind) (kind_small p.kind))
    (both (digits bits32 (length p.rules)) list 4 370 (digits_brief bits32 (length p.rules) (let f = is.few in omega (arith, f)))
    (few_pieces rule_digits 37 10 p.rules is.few (λ r among. rule_brief r (is.rules r among)))))

-- ---- relationships

transfer_kind_small : (k : TransferKind) → transfer_kind_number k < 2 ^ 8
transfer_kind_small Initialize = omega arith
transfer_kind_small Update = omega arith
transfer_kind_small Resync = omega arith

transfer_head_brief : (h : TransferHead) → h.number < 2 ^ 64 → h.checkpoint < 2 ^ 32 → Brief (transfer_head_digits h) 14
unfolding transfer_head_digits
transfer_head_brief h number checkpoint =
    both (digits bits64 h.number) (digits bits8 (transfer_kind_number h.kind) ++ (truth_digits h.reserved ++ digits bits32 h.checkpoint)) 8 6 (digits_brief bits64 h.number number)
    (both (digits bits8 (transfer_kind_number h.kind)) (truth_digits h.reserved ++ digits bits32 h.checkpoint) 1 5 (digits_brief bits8 (transfer_kind_number h.kind) (transfer_kind_small h.kind))
    (both (truth_digits h.reserved) (digits bits32 h.checkpoint) 1 4 (truth_brief h.reserved) (digits_brief bits32 h.checkpoint checkpoint)))

transfer_brief : (source : ℕ) (t : Standing) → IsTransfer source t → Brief (transfer_digits t) 3090
unfolding transfer_digits
transfer_brief source t is =
    let list = flat_map identity_digits t.legs in
    let few : length t.legs ≤ 256 = is.few in
    both (transfer_head_digits (transfer_head_of t)) (digits bits32 (length t.legs) ++ list) 14 3076 (transfer_head_brief (transfer_head_of t) is.number is.checkpoint)
    (both (digits bits32 (length t.legs)) list 4 3072 (digits_brief bits32 (length t.legs) (omega (arith, few)))
    (few_pieces identity_digits 12 256 t.legs few (λ i among. identity_brief i (is.legs i among))))

halves_small : (h : Halves) → halves_number h < 2 ^ 8
halves_small h = omega (arith, half_small 1 h.source (omega arith), half_small 2 h.destination (omega arith))
  where
    half_small : (n : ℕ) (b : Bool) → n ≤ 2 → half n b ≤ 2
    half_small n true le = le
    half_small n false le = omega arith

pub record FitsHead (h : RelationHead) : Type 0 where
  pub number : h.number.0 < 2 ^ 32
  pub source : h.source.0 < 2 ^ 32
  pub destination : h.destination.0 < 2 ^ 32
  pub policy : h.policy < 2 ^ 32

relation_head_brief : (h : RelationHead) → FitsHead h → Brief (relation_head_digits h) 18
unfolding relation_head_digits
relation_head_brief h is =
    let d = digits bits8 (halves_number h.halves) ++ truth_digits h.quiesced in
    let c = digits bits32 h.policy ++ d in
    let b = digits bits32 h.destination.0 ++ c in
    let a = digits bits32 h.source.0 ++ b in
    both (digits bits32 h.number.0) a 4 14 (digits_brief bits32 h.number.0 is.number)
    (both (digits bits32 h.source.0) b 4 10 (digits_brief bits32 h.source.0 is.source)
    (both (digits bits32 h.destination.0) c 4 6 (digits_brief bits32 h.destination.0 is.destination)
    (both (digits bits32 h.policy) d 4 2 (digits_brief bits32 h.policy is.policy)
    (both (digits bits8 (halves_number h.halves)) (truth_digits h.quiesced) 1 1 (digits_brief bits8 (halves_number h.halves) (halves_small h.halves)) (truth_brief h.quiesced)))))

base_brief : (o : Option Ident) → IfSome o (λ i. (i.origin < 2 ^ 32) × (i.seq < 2 ^ 64)) → Brief (option_digits identity_digits o) 13
base_brief None is = option_brief identity_digits 12 None tt
base_brief (Some i) is = option_brief identity_digits 12 (Some i) (identity_brief i is)

optional_brief : (source : ℕ) (o : Option Standing) → IfSome o (IsTransfer source) → Brief (option_digits transfer_digits o) 3091
optional_brief source None is = option_brief transfer_digits 3090 None tt
optional_brief source (Some t) is = option_brief transfer_digits 3090 (Some t) (transfer_brief source t is)

relation_brief : (r : Relation) → IsRelation r → Brief (relation_digits r) 3122
unfolding relation_digits
relation_brief r is =
    let t = option_digits transfer_digits r.transfer in
    let b = option_digits identity_digits r.base in
    let head : FitsHead (relation_head_of r) = record { number = is.number.1; source = is.source; destination = is.destination; policy = is.policy } in
    both (relation_head_digits (relation_head_of r)) (b ++ t) 18 3104 (relation_head_brief (relation_head_of r) head)
    (both b t 13 3091 (base_brief r.base is.base) (optional_brief r.source.0 r.transfer is.transfer))

-- ---- the whole

numbers_brief : (n : Numbers) → n.clock < 2 ^ 64 → n.next_relation < 2 ^ 32 → n.next_transfer < 2 ^ 64 → Brief (numbers_digits n) 20
unfolding numbers_digits
numbers_brief n clock relation transfer =
    both (digits bits64 n.clock) (digits bits32 n.next_relation ++ digits bits64 n.next_transfer) 8 12 (digits_brief bits64 n.clock clock)
    (both (digits bits32 n.next_relation) (digits bits64 n.next_transfer) 4 8 (digits_brief bits32 n.next_relation relation) (digits_brief bits64 n.next_transfer transfer))

pub body_brief : (k : Catalog) → IsCatalog k → ((p : Policy) → Among k.policies p → FitsPolicy p) → Brief (body_bytes k) 218208
unfolding body_bytes volumes_bytes policies_bytes relations_bytes
body_brief k is made =
    let vs = digits bits32 (length k.volumes) ++ flat_map placed_digits k.volumes in
    let ps = digits bits32 (length k.policies) ++ flat_map policy_digits k.policies in
    let rs = digits bits32 (length k.relations) ++ flat_map relation_digits k.relations in
    let few_v : length k.volumes ≤ 32 = is.few_volumes in
    let few_p : length k.policies ≤ 32 = is.few_policies in
    let few_r : length k.relations ≤ 64 = is.few_relations in
    let clock : k.clock < 2 ^ 64 = (let c = is.clock in omega (arith, c)) in
    let transfer : k.next_transfer < 2 ^ 64 = (let t = is.next_transfer.1 in omega (arith, t)) in
    both (numbers_digits (numbers_of k)) (vs ++ (ps ++ rs)) 20 218188 (numbers_brief (numbers_of k) clock is.next_relation.1 transfer)
    (both vs (ps ++ rs) 4292 213896
    (both (digits bits32 (length k.volumes)) (flat_map placed_digits k.volumes) 4 4288 (digits_brief bits32 (length k.volumes) (omega (arith, few_v))) (few_pieces placed_digits 134 32 k.volumes few_v (λ v among. placed_brief v (is.volumes v among))))
    (both ps rs 14084 199812
    (both (digits bits32 (length k.policies)) (flat_map policy_digits k.policies) 4 14080 (digits_brief bits32 (length k.policies) (omega (arith, few_p))) (few_pieces policy_digits 440 32 k.policies few_p (λ p among. policy_brief p (made p among))))
    (both (digits bits32 (length k.relations)) (flat_map relation_digits k.relations) 4 199808 (digits_brief bits32 (length k.relations) (omega (arith, few_r))) (few_pieces relation_digits 3122 64 k.relations few_r (λ r among. relation_brief r (is.relations r among))))))

pub spelling_brief : (k : Catalog) → IsCatalog k → ((p : Policy) → Among k.policies p → FitsPolicy p) → Brief (spelling k) 218220
unfolding digits
spelling_brief k is made =
    let body = body_bytes k in
    let b = body_brief k is made in
    let small : length body < 2 ^ 32 = (let s = b.short in omega (arith, s)) in
    both MAGIC (digits bits32 (length body) ++ body) 8 218212 magic_brief (both (digits bits32 (length body)) body 4 218208 (digits_brief bits32 (length body) small) b)
  where
    magic_brief : Brief MAGIC 8
    magic_brief = both (digits bits32 1397572417) (digits bits32 1414279217) 4 4 (digits_brief bits32 1397572417 (lit< tt)) (digits_brief bits32 1414279217 (lit< tt))
