-- The small parts of a catalogue have one spelling each.
use Rattle.std.proofs.Common.{◌≡◌, ℕ, zero, suc, ◌<◌, ◌≤◌, ◌==◌, Bool, true, false, List, [], ◌++◌, length, refl, sym, ◌∙◌, arith, lit<}
use Rattle.std.specs.Prelude.{◌&&◌, ◌||◌, not, nat_le, nat_lt}
use Rattle.std.proofs.lemmas.Bool.{and_parts, leb-true}
use Rattle.std.proofs.lemmas.List.{append-nil}
use Rattle.sm_base.specs.Name.{is_label}
use Rattle.sm_base.specs.declared.numbers.PolicyKind.{PolicyKind}
use Rattle.sm_base.specs.declared.numbers.PolicyKind.TheVariants.{AsyncMirror, Vault}
use Rattle.sm_base.specs.declared.numbers.TransferKind.{TransferKind}
use Rattle.sm_base.specs.declared.numbers.TransferKind.TheVariants.{Initialize, Update, Resync}
use Rattle.sm_base.specs.declared.limits.TheConstants.{LAST_SECOND, LAST_NUMBER}
use Rattle.sm_defs.specs.Relationship.{Policy, Rule}
use Rattle.sm_defs.specs.Rules.{is_bad_keep}
use Rattle.sm_fields.specs.Format.{bits8, bits32, bits64, number, text, such_that, truth}
use Rattle.sm_fields.specs.Grammar.{digits, limit, with_length, truth_digits, Spells, IsSpelledBy}
use Rattle.sm_fields.proofs.Spelled.{number_spelled, text_spelled, such_that_spelled, truth_spelled}
use Rattle.sm_catroot.specs.declared.parts.Numbers.{Numbers}
use Rattle.sm_catroot.specs.declared.parts.Halves.{Halves}
use Rattle.sm_catroot.specs.declared.parts.RelationHead.{RelationHead}
use Rattle.sm_catroot.specs.declared.parts.TransferHead.{TransferHead}
use Rattle.sm_catroot.specs.Spelling.{numbers_digits, rule_digits, policy_kind_number, transfer_kind_number, halves_number, transfer_head_digits, relation_head_digits}
use Rattle.sm_catroot.specs.Layout.{numbers, policy_kind_of, policy_kind, transfer_kind_of, transfer_kind, halves, is_free_label, may_preserve, rule, transfer_head, relation_head}

-- ---- kinds and halves

kind_bytes : (n : ℕ) (k : PolicyKind) (bytes front back : List ℕ) → nat_le n 1 ≡ true → front ≡ digits bits8 n → k ≡ policy_kind_of n → back ≡ [] → bytes ≡ front ++ back → bytes ≡ digits bits8 (policy_kind_number k)
kind_bytes zero k bytes front back le f is nil parts = parts ∙ rw (f, nil, is) (append-nil (digits bits8 0))
kind_bytes (suc zero) k bytes front back le f is nil parts = parts ∙ rw (f, nil, is) (append-nil (digits bits8 1))
kind_bytes (suc (suc n)) k bytes front back le f is nil parts = absurd (omega (arith, leb-true (suc (suc n)) 1 le))

kind_again : (k : PolicyKind) → Unit {0} → Spells policy_kind k (digits bits8 (policy_kind_number k))
unfolding policy_kind
kind_again AsyncMirror fits = (0, digits bits8 0, [], ((lit< tt, refl), refl), (refl, refl), sym (append-nil (digits bits8 0)))
kind_again Vault fits = (1, digits bits8 1, [], ((lit< tt, refl), refl), (refl, refl), sym (append-nil (digits bits8 1)))

kind_only : (k : PolicyKind) (bytes : List ℕ) → Spells policy_kind k bytes → Unit {0} × (bytes ≡ digits bits8 (policy_kind_number k))
unfolding policy_kind
kind_only k bytes s = (tt, kind_bytes s.0 k bytes s.1 s.2 s.3.1 s.3.0.1 s.4.0 s.4.1 s.5)

pub policy_kind_spelled : IsSpelledBy policy_kind (λ _. Unit {0}) (λ k. digits bits8 (policy_kind_number k))
policy_kind_spelled = record { only = kind_only; spelled = kind_again }

transfer_bytes : (n : ℕ) (k : TransferKind) (bytes front back : List ℕ) → nat_le n 2 ≡ true → front ≡ digits bits8 n → k ≡ transfer_kind_of n → back ≡ [] → bytes ≡ front ++ back → bytes ≡ digits bits8 (transfer_kind_number k)
transfer_bytes zero k bytes front back le f is nil parts = parts ∙ rw (f, nil, is) (append-nil (digits bits8 0))
transfer_bytes (suc zero) k bytes front back le f is nil parts = parts ∙ rw (f, nil, is) (append-nil (digits bits8 1))
transfer_bytes (suc (suc zero)) k bytes front back le f is nil parts = parts ∙ rw (f, nil, is) (append-nil (digits bits8 2))
transfer_bytes (suc (suc (suc n))) k bytes front back le f is nil parts = absurd (omega (arith, leb-true (suc (suc (suc n))) 2 le))

transfer_kind_again : (k : TransferKind) → Unit {0} → Spells transfer_kind k (digits bits8 (transfer_kind_number k))
unfolding transfer_kind
transfer_kind_again Initialize fits = (0, digits bits8 0, [], ((lit< tt, refl), refl), (refl, refl), sym (append-nil (digits bits8 0)))
transfer_kind_again Update fits = (1, digits bits8 1, [], ((lit< tt, refl), refl), (refl, refl), sym (append-nil (digits bits8 1)))
transfer_kind_again Resync fits = (2, digits bits8 2, [], ((lit< tt, refl), refl), (refl, refl), sym (append-nil (digits bits8 2)))

transfer_kind_only : (k : TransferKind) (bytes : List ℕ) → Spells transfer_kind k bytes → Unit {0} × (bytes ≡ digits bits8 (transfer_kind_number k))
unfolding transfer_kind
transfer_kind_only k bytes s = (tt, transfer_bytes s.0 k bytes s.1 s.2 s.3.1 s.3.0.1 s.4.0 s.4.1 s.5)

pub transfer_kind_spelled : IsSpelledBy transfer_kind (λ _. Unit {0}) (λ k. digits bits8 (transfer_kind_number k))
transfer_kind_spelled = record { only = transfer_kind_only; spelled = transfer_kind_again }

-- at least one half stands
abbrev pub IsSome : Halves → Type 0
IsSome h = (h.source || h.destination) ≡ true

halves_bytes : (n : ℕ) (h : Halves) (bytes front back : List ℕ) → (nat_le 1 n && nat_le n 3) ≡ true → front ≡ digits bits8 n → h ≡ record { source = not (n == 2); destination = not (n == 1) } → back ≡ [] → bytes ≡ front ++ back
    → IsSome h × (bytes ≡ digits bits8 (halves_number h))
halves_bytes zero h bytes front back le f is nil parts = absurd cc
halves_bytes (suc zero) h bytes front back le f is nil parts = rw is (refl, parts ∙ rw (f, nil) (append-nil (digits bits8 1)))
halves_bytes (suc (suc zero)) h bytes front back le f is nil parts = rw is (refl, parts ∙ rw (f, nil) (append-nil (digits bits8 2)))
halves_bytes (suc (suc (suc zero))) h bytes front back le f is nil parts = rw is (refl, parts ∙ rw (f, nil) (append-nil (digits bits8 3)))
halves_bytes (suc (suc (suc (suc n)))) h bytes front back le f is nil parts = absurd (omega (arith, leb-true (suc (suc (suc (suc n)))) 3 (and_parts (nat_le 1 (suc (suc (suc (suc n))))) (nat_le (suc (suc (suc (suc n)))) 3) le).1))

halves_only : (h : Halves) (bytes : List ℕ) → Spells halves h bytes → IsSome h × (bytes ≡ digits bits8 (halves_number h))
unfolding halves
halves_only h bytes s = halves_bytes s.0 h bytes s.1 s.2 s.3.1 s.3.0.1 s.4.0 s.4.1 s.5

halves_of : (a b : Bool) → (a || b) ≡ true → Spells halves (record { source = a; destination = b }) (digits bits8 (halves_number (record { source = a; destination = b })))
unfolding halves
halves_of true true fits = (3, digits bits8 3, [], ((lit< tt, refl), refl), (refl, refl), sym (append-nil (digits bits8 3)))
halves_of true false fits = (1, digits bits8 1, [], ((lit< tt, refl), refl), (refl, refl), sym (append-nil (digits bits8 1)))
halves_of false true fits = (2, digits bits8 2, [], ((lit< tt, refl), refl), (refl, refl), sym (append-nil (digits bits8 2)))
halves_of false false fits = absurd cc

pub halves_spelled : IsSpelledBy halves IsSome (λ h. digits bits8 (halves_number h))
halves_spelled = record { only = halves_only; spelled = λ h fits. halves_of h.source h.destination fits }

-- ---- parts of several fields

pub record FitsNumbers (v : Numbers) : Type 0 where
  pub clock : (v.clock < limit bits64) × ((λ (n : ℕ). nat_le n LAST_SECOND) v.clock ≡ true)
  pub relation : (v.next_relation < limit bits32) × ((λ (n : ℕ). nat_le 1 n) v.next_relation ≡ true)
  pub transfer : (v.next_transfer < limit bits64) × ((λ (n : ℕ). nat_le 1 n && nat_le n LAST_NUMBER) v.next_transfer ≡ true)

numbers_only : (v : Numbers) (bytes : List ℕ) → Spells (numbers) v bytes → FitsNumbers v × (bytes ≡ numbers_digits v)
unfolding numbers numbers_digits
numbers_only v bytes s =
    let t1 = s.4 in
    let t2 = t1.4 in
    let a0 = (such_that_spelled (number bits64) (λ n. n < limit bits64) (digits bits64) (λ (n : ℕ). nat_le n LAST_SECOND) (number_spelled bits64)).only s.0 s.1 s.3 in
    let a1 = (such_that_spelled (number bits32) (λ n. n < limit bits32) (digits bits32) (λ (n : ℕ). nat_le 1 n) (number_spelled bits32)).only t1.0 t1.1 t1.3 in
    let a2 = (such_that_spelled (number bits64) (λ n. n < limit bits64) (digits bits64) (λ (n : ℕ). nat_le 1 n && nat_le n LAST_NUMBER) (number_spelled bits64)).only t2.0 t2.1 t2.3 in
    let tail : t1.2 ≡ digits bits64 t2.0 = t2.5 ∙ rw (a2.1, t2.4.1) (append-nil (digits bits64 t2.0)) in
    let whole : bytes ≡ digits bits64 s.0 ++ (digits bits32 t1.0 ++ (digits bits64 t2.0)) = s.5 ∙ rw (a0.1, t1.5, a1.1, tail) refl in
    rw t2.4.0 (record { clock = a0.0; relation = a1.0; transfer = a2.0 }, whole)

numbers_again : (v : Numbers) → FitsNumbers v → Spells (numbers) v (numbers_digits v)
unfolding numbers numbers_digits
numbers_again v fits = (v.clock, digits bits64 v.clock, digits bits32 v.next_relation ++ (digits bits64 v.next_transfer), (such_that_spelled (number bits64) (λ n. n < limit bits64) (digits bits64) (λ (n : ℕ). nat_le n LAST_SECOND) (number_spelled bits64)).spelled (v.clock) fits.clock, (v.next_relation, digits bits32 v.next_relation, digits bits64 v.next_transfer, (such_that_spelled (number bits32) (λ n. n < limit bits32) (digits bits32) (λ (n : ℕ). nat_le 1 n) (number_spelled bits32)).spelled (v.next_relation) fits.relation, (v.next_transfer, digits bits64 v.next_transfer, [], (such_that_spelled (number bits64) (λ n. n < limit bits64) (digits bits64) (λ (n : ℕ). nat_le 1 n && nat_le n LAST_NUMBER) (number_spelled bits64)).spelled (v.next_transfer) fits.transfer, (refl, refl), sym (append-nil (digits bits64 v.next_transfer))), refl), refl)

pub numbers_spelled : IsSpelledBy (numbers) (FitsNumbers) numbers_digits
numbers_spelled = record { only = numbers_only; spelled = numbers_again }

pub record FitsTransferHead (v : TransferHead) : Type 0 where
  pub number : v.number < limit bits64
  pub kind : Unit {0}
  pub reserved : Unit {0}
  pub checkpoint : v.checkpoint < limit bits32

transfer_head_only : (v : TransferHead) (bytes : List ℕ) → Spells (transfer_head) v bytes → FitsTransferHead v × (bytes ≡ transfer_head_digits v)
unfolding transfer_head transfer_head_digits
transfer_head_only v bytes s =
    let t1 = s.4 in
    let t2 = t1.4 in
    let t3 = t2.4 in
    let a0 = (number_spelled bits64).only s.0 s.1 s.3 in
    let a1 = (transfer_kind_spelled).only t1.0 t1.1 t1.3 in
    let a2 = (truth_spelled).only t2.0 t2.1 t2.3 in
    let a3 = (number_spelled bits32).only t3.0 t3.1 t3.3 in
    let tail : t2.2 ≡ digits bits32 t3.0 = t3.5 ∙ rw (a3.1, t3.4.1) (append-nil (digits bits32 t3.0)) in
    let whole : bytes ≡ digits bits64 s.0 ++ (digits bits8 (transfer_kind_number t1.0) ++ (truth_digits t2.0 ++ (digits bits32 t3.0))) = s.5 ∙ rw (a0.1, t1.5, a1.1, t2.5, a2.1, tail) refl in
    rw t3.4.0 (record { number = a0.0; kind = a1.0; reserved = a2.0; checkpoint = a3.0 }, whole)

transfer_head_again : (v : TransferHead) → FitsTransferHead v → Spells (transfer_head) v (transfer_head_digits v)
unfolding transfer_head transfer_head_digits
transfer_head_again v fits = (v.number, digits bits64 v.number, digits bits8 (transfer_kind_number v.kind) ++ (truth_digits v.reserved ++ (digits bits32 v.checkpoint)), (number_spelled bits64).spelled (v.number) fits.number, (v.kind, digits bits8 (transfer_kind_number v.kind), truth_digits v.reserved ++ (digits bits32 v.checkpoint), (transfer_kind_spelled).spelled (v.kind) fits.kind, (v.reserved, truth_digits v.reserved, digits bits32 v.checkpoint, (truth_spelled).spelled (v.reserved) fits.reserved, (v.checkpoint, digits bits32 v.checkpoint, [], (number_spelled bits32).spelled (v.checkpoint) fits.checkpoint, (refl, refl), sym (append-nil (digits bits32 v.checkpoint))), refl), refl), refl)

pub transfer_head_spelled : IsSpelledBy (transfer_head) (FitsTransferHead) transfer_head_digits
transfer_head_spelled = record { only = transfer_head_only; spelled = transfer_head_again }

pub record FitsRelationHead (last : ℕ) (v : RelationHead) : Type 0 where
  pub number : (v.number.0 < limit bits32) × ((nat_lt last) v.number.0 ≡ true)
  pub source : v.source.0 < limit bits32
  pub destination : v.destination.0 < limit bits32
  pub policy : v.policy < limit bits32
  pub halves : IsSome v.halves
  pub quiesced : Unit {0}

relation_head_only : (last : ℕ) (v : RelationHead) (bytes : List ℕ) → Spells (relation_head last) v bytes → FitsRelationHead last v × (bytes ≡ relation_head_digits v)
unfolding relation_head relation_head_digits
relation_head_only last v bytes s =
    let t1 = s.4 in
    let t2 = t1.4 in
    let t3 = t2.4 in
    let t4 = t3.4 in
    let t5 = t4.4 in
    let a0 = (such_that_spelled (number bits32) (λ n. n < limit bits32) (digits bits32) (nat_lt last) (number_spelled bits32)).only s.0 s.1 s.3 in
    let a1 = (number_spelled bits32).only t1.0 t1.1 t1.3 in
    let a2 = (number_spelled bits32).only t2.0 t2.1 t2.3 in
    let a3 = (number_spelled bits32).only t3.0 t3.1 t3.3 in
    let a4 = (halves_spelled).only t4.0 t4.1 t4.3 in
    let a5 = (truth_spelled).only t5.0 t5.1 t5.3 in
    let tail : t4.2 ≡ truth_digits t5.0 = t5.5 ∙ rw (a5.1, t5.4.1) (append-nil (truth_digits t5.0)) in
    let whole : bytes ≡ digits bits32 s.0 ++ (digits bits32 t1.0 ++ (digits bits32 t2.0 ++ (digits bits32 t3.0 ++ (digits bits8 (halves_number t4.0) ++ (truth_digits t5.0))))) = s.5 ∙ rw (a0.1, t1.5, a1.1, t2.5, a2.1, t3.5, a3.1, t4.5, a4.1, tail) refl in
    rw t5.4.0 (record { number = a0.0; source = a1.0; destination = a2.0; policy = a3.0; halves = a4.0; quiesced = a5.0 }, whole)

relation_head_again : (last : ℕ) (v : RelationHead) → FitsRelationHead last v → Spells (relation_head last) v (relation_head_digits v)
unfolding relation_head relation_head_digits
relation_head_again last v fits = (v.number.0, digits bits32 v.number.0, digits bits32 v.source.0 ++ (digits bits32 v.destination.0 ++ (digits bits32 v.policy ++ (digits bits8 (halves_number v.halves) ++ (truth_digits v.quiesced)))), (such_that_spelled (number bits32) (λ n. n < limit bits32) (digits bits32) (nat_lt last) (number_spelled bits32)).spelled (v.number.0) fits.number, (v.source.0, digits bits32 v.source.0, digits bits32 v.destination.0 ++ (digits bits32 v.policy ++ (digits bits8 (halves_number v.halves) ++ (truth_digits v.quiesced))), (number_spelled bits32).spelled (v.source.0) fits.source, (v.destination.0, digits bits32 v.destination.0, digits bits32 v.policy ++ (digits bits8 (halves_number v.halves) ++ (truth_digits v.quiesced)), (number_spelled bits32).spelled (v.destination.0) fits.destination, (v.policy, digits bits32 v.policy, digits bits8 (halves_number v.halves) ++ (truth_digits v.quiesced), (number_spelled bits32).spelled (v.policy) fits.policy, (v.halves, digits bits8 (halves_number v.halves), truth_digits v.quiesced, (halves_spelled).spelled (v.halves) fits.halves, (v.quiesced, truth_digits v.quiesced, [], (truth_spelled).spelled (v.quiesced) fits.quiesced, (refl, refl), sym (append-nil (truth_digits v.quiesced))), refl), refl), refl), refl), refl)

pub relation_head_spelled : (last : ℕ) → IsSpelledBy (relation_head last) (FitsRelationHead last) relation_head_digits
relation_head_spelled last = record { only = relation_head_only last; spelled = relation_head_again last }

pub record FitsRule (p : Policy) (v : Rule) : Type 0 where
  pub label : ((length v.label ≤ 31) × (is_label v.label ≡ true)) × (is_free_label p v.label ≡ true)
  pub keep : (v.keep < limit bits32) × ((λ (n : ℕ). not (is_bad_keep p.kind n)) v.keep ≡ true)
  pub preserve : Unit {0} × (may_preserve p.kind v.preserve ≡ true)

rule_only : (p : Policy) (v : Rule) (bytes : List ℕ) → Spells (rule p) v bytes → FitsRule p v × (bytes ≡ rule_digits v)
unfolding rule rule_digits
rule_only p v bytes s =
    let t1 = s.4 in
    let t2 = t1.4 in
    let a0 = (such_that_spelled (such_that (text 31) is_label) (λ t. (length t ≤ 31) × (is_label t ≡ true)) with_length (is_free_label p) (such_that_spelled (text 31) (λ t. length t ≤ 31) with_length is_label (text_spelled 31))).only s.0 s.1 s.3 in
    let a1 = (such_that_spelled (number bits32) (λ n. n < limit bits32) (digits bits32) (λ (n : ℕ). not (is_bad_keep p.kind n)) (number_spelled bits32)).only t1.0 t1.1 t1.3 in
    let a2 = (such_that_spelled truth (λ _. Unit {0}) truth_digits (may_preserve p.kind) truth_spelled).only t2.0 t2.1 t2.3 in
    let tail : t1.2 ≡ truth_digits t2.0 = t2.5 ∙ rw (a2.1, t2.4.1) (append-nil (truth_digits t2.0)) in
    let whole : bytes ≡ with_length s.0 ++ (digits bits32 t1.0 ++ (truth_digits t2.0)) = s.5 ∙ rw (a0.1, t1.5, a1.1, tail) refl in
    rw t2.4.0 (record { label = a0.0; keep = a1.0; preserve = a2.0 }, whole)

rule_again : (p : Policy) (v : Rule) → FitsRule p v → Spells (rule p) v (rule_digits v)
unfolding rule rule_digits
rule_again p v fits = (v.label, with_length v.label, digits bits32 v.keep ++ (truth_digits v.preserve), (such_that_spelled (such_that (text 31) is_label) (λ t. (length t ≤ 31) × (is_label t ≡ true)) with_length (is_free_label p) (such_that_spelled (text 31) (λ t. length t ≤ 31) with_length is_label (text_spelled 31))).spelled (v.label) fits.label, (v.keep, digits bits32 v.keep, truth_digits v.preserve, (such_that_spelled (number bits32) (λ n. n < limit bits32) (digits bits32) (λ (n : ℕ). not (is_bad_keep p.kind n)) (number_spelled bits32)).spelled (v.keep) fits.keep, (v.preserve, truth_digits v.preserve, [], (such_that_spelled truth (λ _. Unit {0}) truth_digits (may_preserve p.kind) truth_spelled).spelled (v.preserve) fits.preserve, (refl, refl), sym (append-nil (truth_digits v.preserve))), refl), refl)

pub rule_spelled : (p : Policy) → IsSpelledBy (rule p) (FitsRule p) rule_digits
rule_spelled p = record { only = rule_only p; spelled = rule_again p }
