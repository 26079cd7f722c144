-- The spelling of a catalogue is short.
use Rattle.std.proofs.Common.{◌≡◌, ◌⊎◌, ℕ, ◌*◌, ◌≤◌, Bool, true, false, List, [], ◌∷◌, ◌++◌, length, refl, sym, ap, subst, inl, inr, arith, length-append, lit≤}
use Rattle.std.specs.Prelude.{Option, Some, None, IfSome}
use Rattle.std.specs.List.{flat_map}
use Rattle.std.proofs.lemmas.List.Concat.{flat_map-cons}
use Rattle.sm_base.specs.Name.{is_label}
use Rattle.sm_base.specs.declared.numbers.Ident.{Ident}
use Rattle.sm_base.specs.declared.numbers.PolicyKind.{PolicyKind}
use Rattle.sm_base.specs.declared.numbers.PolicyKind.TheVariants.{AsyncMirror, Vault}
use Rattle.sm_defs.specs.Relationship.{Policy, Rule}
use Rattle.sm_defs.specs.Rules.{first_rules, new_policy}
use Rattle.sm_defs.specs.Words.{Among}
use Rattle.sm_defs.proofs.Members.{among_append}
use Rattle.sm_fields.specs.Format.{bits8, bits32, bits64}
use Rattle.sm_fields.specs.Grammar.{digits, with_length, truth_digits, identity_digits, option_digits}
use Rattle.sm_fields.proofs.Sizes.{length-identity_digits, length-digits, length-truth_digits}
use Rattle.sm_relation.specs.declared.relation.Relation.{Relation}
use Rattle.sm_relation.specs.declared.relation.Standing.{Standing}
use Rattle.sm_catroot.specs.declared.placed.Placed.{Placed}
use Rattle.sm_catroot.specs.declared.parts.Numbers.{Numbers}
use Rattle.sm_catroot.specs.declared.parts.RelationHead.{RelationHead}
use Rattle.sm_catroot.specs.declared.parts.TransferHead.{TransferHead}
use Rattle.sm_catroot.specs.declared.TheConstants.{MAGIC}
use Rattle.sm_catroot.specs.Catalog.{Catalog}
use Rattle.sm_catroot.specs.Condition.{IsPlaced, IsAdded, IsMade, HasFewLegs, IsTransfer, IsRelation, IsCatalog}
use Rattle.sm_catroot.specs.Spelling.{numbers_digits, numbers_of, first_part, second_part, path_digits, placed_digits, policy_kind_number, rule_digits, policy_digits, transfer_kind_number, halves_number, transfer_head_digits, transfer_head_of, transfer_digits, relation_head_digits, relation_head_of, relation_digits, volumes_bytes, policies_bytes, relations_bytes, body_bytes, spelling}
use Rattle.sm_catroot.proofs.CatalogFits.{label_short}
use Rattle.sm_catroot.proofs.Differ.{each_of}
use Rattle.sm_catroot.proofs.PathSpelled.{parts_of, part_short}

length-numbers : (n : Numbers) → length (numbers_digits n) ≡ 20
unfolding numbers_digits
length-numbers n = omega (arith, length-append (digits bits64 n.clock) (digits bits32 n.next_relation ++ digits bits64 n.next_transfer), length-append (digits bits32 n.next_relation) (digits bits64 n.next_transfer), length-digits bits64 n.clock, length-digits bits32 n.next_relation, length-digits bits64 n.next_transfer)

placed_short : (v : Placed) → IsPlaced v → length (placed_digits v) ≤ 134
unfolding placed_digits path_digits
placed_short v is =
    let p = parts_of v.path is.path in
    omega (arith, length-append (with_length (first_part v.path) ++ with_length (second_part v.path)) (digits bits32 v.disk.0), length-append (with_length (first_part v.path)) (with_length (second_part v.path)), part_short (first_part v.path) p.first, part_short (second_part v.path) p.second, length-digits bits32 v.disk.0)

rule_short : (r : Rule) → length r.label ≤ 31 → length (rule_digits r) ≤ 37
unfolding rule_digits
rule_short r few = omega (arith, length-append (with_length r.label) (digits bits32 r.keep ++ truth_digits r.preserve), length-append (digits bits32 r.keep) (truth_digits r.preserve), length-digits bits32 r.keep, length-truth_digits r.preserve, few)

first_label : (kind : PolicyKind) (r : Rule) → Among (first_rules kind) r → length r.label ≤ 31
first_label AsyncMirror r (inl same) = subst (λ (x : Rule). length x.label ≤ 31) (sym same) (lit≤ tt)
first_label AsyncMirror r (inr none) = absurd none
first_label Vault r none = absurd none

rule_label : (p : Policy) → IsMade p → (r : Rule) → Among p.rules r → length r.label ≤ 31
rule_label p is r among = go (among_append (first_rules p.kind) is.rules r (subst (λ (rs : List Rule). Among rs r) (ap (λ (x : Policy). x.rules) is.is) among))
  where
    go : Among (first_rules p.kind) r ⊎ Among is.rules r → length r.label ≤ 31
    go (inl first) = first_label p.kind r first
    go (inr later) = label_short r.label (each_of (IsAdded (new_policy p.name p.kind)) (λ x. is_label x.label ≡ true) (λ before x a. a.label) [] is.rules is.added r later)

rules_short : (xs : List Rule) → ((x : Rule) → Among xs x → length (rule_digits x) ≤ 37) → length (flat_map rule_digits xs) ≤ 37 * length xs
rules_short [] each = omega arith
rules_short (x ∷ xs) each = omega (arith, ap length (flat_map-cons rule_digits x xs), length-append (rule_digits x) (flat_map rule_digits xs), each x (inl refl), rules_short xs (λ y among. each y (inr among)))

idents_short : (xs : List Ident) → ((x : Ident) → Among xs x → length (identity_digits x) ≤ 12) → length (flat_map identity_digits xs) ≤ 12 * length xs
idents_short [] each = omega arith
idents_short (x ∷ xs) each = omega (arith, ap length (flat_map-cons identity_digits x xs), length-append (identity_digits x) (flat_map identity_digits xs), each x (inl refl), idents_short xs (λ y among. each y (inr among)))

volumes_short : (xs : List Placed) → ((x : Placed) → Among xs x → length (placed_digits x) ≤ 134) → length (flat_map placed_digits xs) ≤ 134 * length xs
volumes_short [] each = omega arith
volumes_short (x ∷ xs) each = omega (arith, ap length (flat_map-cons placed_digits x xs), length-append (placed_digits x) (flat_map placed_digits xs), each x (inl refl), volumes_short xs (λ y among. each y (inr among)))

policy_short : (p : Policy) → IsMade p → length (policy_digits p) ≤ 440
unfolding policy_digits
policy_short p is =
    let list = flat_map rule_digits p.rules in
    let few = is.few in
    omega (arith, length-append (with_length p.name) (digits bits8 (policy_kind_number p.kind) ++ (digits bits32 (length p.rules) ++ list)), length-append (digits bits8 (policy_kind_number p.kind)) (digits bits32 (length p.rules) ++ list), length-append (digits bits32 (length p.rules)) list, part_short p.name is.name, length-digits bits8 (policy_kind_number p.kind), length-digits bits32 (length p.rules), rules_short p.rules (λ r among. rule_short r (rule_label p is r among)), few)

policies_short : (xs : List Policy) → ((x : Policy) → Among xs x → length (policy_digits x) ≤ 440) → length (flat_map policy_digits xs) ≤ 440 * length xs
policies_short [] each = omega arith
policies_short (x ∷ xs) each = omega (arith, ap length (flat_map-cons policy_digits x xs), length-append (policy_digits x) (flat_map policy_digits xs), each x (inl refl), policies_short xs (λ y among. each y (inr among)))

length-transfer_head : (h : TransferHead) → length (transfer_head_digits h) ≡ 14
unfolding transfer_head_digits
length-transfer_head h = omega (arith, length-append (digits bits64 h.number) (digits bits8 (transfer_kind_number h.kind) ++ (truth_digits h.reserved ++ digits bits32 h.checkpoint)), length-append (digits bits8 (transfer_kind_number h.kind)) (truth_digits h.reserved ++ digits bits32 h.checkpoint), length-append (truth_digits h.reserved) (digits bits32 h.checkpoint), length-digits bits64 h.number, length-digits bits8 (transfer_kind_number h.kind), length-truth_digits h.reserved, length-digits bits32 h.checkpoint)

transfer_short : (t : Standing) → HasFewLegs t → length (transfer_digits t) ≤ 3090
unfolding transfer_digits
transfer_short t few =
    let list = flat_map identity_digits t.legs in
    omega (arith, length-append (transfer_head_digits (transfer_head_of t)) (digits bits32 (length t.legs) ++ list), length-append (digits bits32 (length t.legs)) list, length-transfer_head (transfer_head_of t), length-digits bits32 (length t.legs), idents_short t.legs (λ i among. (let e = length-identity_digits i in omega (arith, e))), few)

optional_short : (source : ℕ) (o : Option Standing) → IfSome o (IsTransfer source) → length (option_digits transfer_digits o) ≤ 3091
optional_short source None is = lit≤ tt
optional_short source (Some t) is = (let e = length-append (truth_digits true) (transfer_digits t) in let s = transfer_short t is.few in omega (arith, e, s))

ident_short : (o : Option Ident) → length (option_digits identity_digits o) ≤ 13
ident_short None = lit≤ tt
ident_short (Some i) = (let e = length-append (truth_digits true) (identity_digits i) in let s = length-identity_digits i in omega (arith, e, s))

length-relation_head : (h : RelationHead) → length (relation_head_digits h) ≡ 18
unfolding relation_head_digits
length-relation_head h =
    let d = digits bits8 (halves_number h.halves) ++ truth_digits h.quiesced in
    let c = digits bits32 h.policy ++ d in
    let b = digits bits32 h.destination.0 ++ c in
    let a = digits bits32 h.source.0 ++ b in
    omega (arith, length-append (digits bits32 h.number.0) a, length-append (digits bits32 h.source.0) b, length-append (digits bits32 h.destination.0) c, length-append (digits bits32 h.policy) d, length-append (digits bits8 (halves_number h.halves)) (truth_digits h.quiesced), length-digits bits32 h.number.0, length-digits bits32 h.source.0, length-digits bits32 h.destination.0, length-digits bits32 h.policy, length-digits bits8 (halves_number h.halves), length-truth_digits h.quiesced)

relation_short : (r : Relation) → IsRelation r → length (relation_digits r) ≤ 3122
unfolding relation_digits
relation_short r is =
    let t = option_digits transfer_digits r.transfer in
    let b = option_digits identity_digits r.base in
    omega (arith, length-append (relation_head_digits (relation_head_of r)) (b ++ t), length-append b t, length-relation_head (relation_head_of r), ident_short r.base, optional_short r.source.0 r.transfer is.transfer)

relations_short : (xs : List Relation) → ((x : Relation) → Among xs x → length (relation_digits x) ≤ 3122) → length (flat_map relation_digits xs) ≤ 3122 * length xs
relations_short [] each = omega arith
relations_short (x ∷ xs) each = omega (arith, ap length (flat_map-cons relation_digits x xs), length-append (relation_digits x) (flat_map relation_digits xs), each x (inl refl), relations_short xs (λ y among. each y (inr among)))

-- at most 12 bytes less than the longest record
pub body_short : (k : Catalog) → IsCatalog k → length (body_bytes k) ≤ 218208
unfolding body_bytes volumes_bytes policies_bytes relations_bytes
body_short k is =
    let vs = digits bits32 (length k.volumes) ++ flat_map placed_digits k.volumes in
    let ps = digits bits32 (length k.policies) ++ flat_map policy_digits k.policies in
    let rs = digits bits32 (length k.relations) ++ flat_map relation_digits k.relations in
    let v : length vs ≤ 4292 = omega (arith, length-append (digits bits32 (length k.volumes)) (flat_map placed_digits k.volumes), length-digits bits32 (length k.volumes), volumes_short k.volumes (λ x among. placed_short x (is.volumes x among)), is.few_volumes) in
    let p : length ps ≤ 14084 = omega (arith, length-append (digits bits32 (length k.policies)) (flat_map policy_digits k.policies), length-digits bits32 (length k.policies), policies_short k.policies (λ x among. policy_short x (is.policies x among)), is.few_policies) in
    let r : length rs ≤ 199812 = omega (arith, length-append (digits bits32 (length k.relations)) (flat_map relation_digits k.relations), length-digits bits32 (length k.relations), relations_short k.relations (λ x among. relation_short x (is.relations x among)), is.few_relations) in
    omega (arith, length-append (numbers_digits (numbers_of k)) (vs ++ (ps ++ rs)), length-append vs (ps ++ rs), length-append ps rs, length-numbers (numbers_of k), v, p, r)

pub spelling_short : (k : Catalog) → IsCatalog k → length (spelling k) ≤ 218220
spelling_short k is =
    let body = body_bytes k in
    omega (arith, length-append MAGIC (digits bits32 (length body) ++ body), length-append (digits bits32 (length body)) body, length-digits bits32 (length body), body_short k is)
