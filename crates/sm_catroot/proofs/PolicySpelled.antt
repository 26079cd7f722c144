-- A policy has one spelling.
use Rattle.std.proofs.Common.{◌≡◌, ℕ, ◌+◌, ◌-◌, ◌^◌, ◌<◌, ◌≤◌, Bool, true, false, List, [], ◌++◌, length, refl, sym, ap, subst, ◌∙◌, arith, length-append, lit<, lit≤}
use Rattle.std.specs.Prelude.{not, nat_le, codes}
use Rattle.std.specs.List.{flat_map}
use Rattle.std.proofs.lemmas.Bool.{and_from, and_parts, leb-true, le-leb, eqb-true}
use Rattle.std.proofs.lemmas.List.{append-nil}
use Rattle.std.proofs.lemmas.Grind.{flat_map-append}
use Rattle.std.proofs.lemmas.Slice.Eq.{bytes_eq-Decides}
use Rattle.sm_base.specs.Name.{is_part}
use Rattle.sm_base.specs.declared.numbers.PolicyKind.{PolicyKind}
use Rattle.sm_base.specs.declared.numbers.PolicyKind.TheVariants.{AsyncMirror, Vault}
use Rattle.sm_base.specs.declared.limits.TheConstants.{MOST_RULES}
use Rattle.sm_defs.specs.Relationship.{Policy, Rule}
use Rattle.sm_defs.specs.Rules.{first_rules, new_policy}
use Rattle.sm_fields.specs.Format.{bits8, bits32, text, such_that, in_turn}
use Rattle.sm_fields.specs.Grammar.{digits, with_length, truth_digits, Spells, IsSpelledBy, AllInTurn}
use Rattle.sm_fields.proofs.Spelled.{text_spelled, such_that_spelled, truth_spelled, in_turn_only, in_turn_again}
use Rattle.sm_catroot.specs.Layout.{this_rule, these_rules, with_rules, next_rule, added, is_free_name, ruled, policy}
use Rattle.sm_catroot.specs.Spelling.{policy_kind_number, rule_digits, policy_digits}
use Rattle.sm_catroot.proofs.PartsSpelled.{policy_kind_spelled, FitsRule, rule_spelled}

is_false : (b : Bool) → not b ≡ true → b ≡ false
is_false false e = refl
is_false true e = absurd cc

these_only : (kind : PolicyKind) (b : Bool) (bytes : List ℕ) → Spells (these_rules (first_rules kind)) b bytes → bytes ≡ flat_map rule_digits (first_rules kind)
unfolding these_rules this_rule rule_digits
these_only Vault b bytes s = s.1
these_only AsyncMirror b bytes s =
    let one = s.3 in
    let two = one.4 in
    let three = two.4 in
    let label : one.0 ≡ codes "sm_created" = (bytes_eq-Decides one.0 (codes "sm_created")).0 one.3.1 in
    let keep : two.0 ≡ 1 = eqb-true two.0 1 two.3.1 in
    let t = truth_spelled.only three.0 three.1 three.3.0 in
    let preserve : three.0 ≡ false = is_false three.0 three.3.1 in
    s.5 ∙ rw (s.4.1, one.5, one.3.0.1, label, two.5, two.3.0.1, keep, three.5, t.1, preserve, three.4.1) refl

these_again : (kind : PolicyKind) → Spells (these_rules (first_rules kind)) true (flat_map rule_digits (first_rules kind))
unfolding these_rules this_rule rule_digits
these_again Vault = (refl, refl)
these_again AsyncMirror =
    let label = codes "sm_created" in (
      true,
      with_length label ++ (digits bits32 1 ++ truth_digits false),
      [],
      (
        label,
        with_length label,
        digits bits32 1 ++ truth_digits false,
        ((lit≤ tt, refl), refl),
        (1, digits bits32 1, truth_digits false, ((lit< tt, refl), refl), (false, truth_digits false, [], (truth_spelled.spelled false tt, refl), (refl, refl), refl), refl),
        refl,
      ),
      (refl, refl),
      refl,
    )

pub record FitsPolicy (before : List Policy) (p : Policy) : Type 0 where
  pub name : ((length p.name ≤ 64) × (is_part p.name ≡ true)) × (is_free_name before p.name ≡ true)
  pub rules : List Rule
  pub is : p ≡ with_rules (new_policy p.name p.kind) rules
  pub few : length p.rules ≤ MOST_RULES
  pub added : AllInTurn (λ given. FitsRule (with_rules (new_policy p.name p.kind) given)) [] rules

name_spelled : (before : List Policy) → IsSpelledBy (such_that (such_that (text 64) is_part) (is_free_name before)) (λ t. ((length t ≤ 64) × (is_part t ≡ true)) × (is_free_name before t ≡ true)) with_length
name_spelled before = such_that_spelled (such_that (text 64) is_part) (λ t. (length t ≤ 64) × (is_part t ≡ true)) with_length (is_free_name before) (such_that_spelled (text 64) (λ t. length t ≤ 64) with_length is_part (text_spelled 64))

-- the bytes of a new policy's rules and of those behind them
rules_bytes : (first rest : List Rule) (n : ℕ) → length rest ≡ n - length first → length first ≤ n → digits bits32 n ++ (flat_map rule_digits first ++ flat_map rule_digits rest) ≡ digits bits32 (length (first ++ rest)) ++ flat_map rule_digits (first ++ rest)
rules_bytes first rest n long least =
    let whole : length (first ++ rest) ≡ n = omega (arith, length-append first rest, long, least) in
    rw (whole, flat_map-append rule_digits first rest) refl

ruled_only : (before : List Policy) (name : List ℕ) (kind : PolicyKind) (v : Policy) (bytes : List ℕ)
    → ((length name ≤ 64) × (is_part name ≡ true)) × (is_free_name before name ≡ true) → Spells (ruled (new_policy name kind)) v bytes
    → FitsPolicy before v × (v.name ≡ name) × (v.kind ≡ kind) × (bytes ≡ digits bits32 (length v.rules) ++ flat_map rule_digits v.rules)
unfolding ruled added
ruled_only before name kind v bytes fits s =
    let p = new_policy name kind in
    let a = s.4 in
    let b = a.4 in
    let count = and_parts (nat_le (length p.rules) s.0) (nat_le s.0 MOST_RULES) s.3.1 in
    let least = leb-true (length p.rules) s.0 count.0 in
    let most = leb-true s.0 MOST_RULES count.1 in
    let first = these_only kind a.0 a.1 a.3 in
    let l = in_turn_only (next_rule p) (λ given. FitsRule (with_rules p given)) rule_digits (λ given. rule_spelled (with_rules p given)) [] (s.0 - length p.rules) b.0 b.1 b.3 in
    let tail : a.2 ≡ flat_map rule_digits b.0 = b.5 ∙ rw (l.2, b.4.1) (append-nil (flat_map rule_digits b.0)) in
    let front : bytes ≡ digits bits32 s.0 ++ (flat_map rule_digits p.rules ++ flat_map rule_digits b.0) = s.5 ∙ rw (s.3.0.1, a.5, first, tail) refl in
    let few : length (p.rules ++ b.0) ≤ MOST_RULES = omega (arith, length-append p.rules b.0, l.0, least, most) in
    rw b.4.0 (
      record { name = fits; rules = b.0; is = refl; few = few; added = l.1 },
      refl,
      refl,
      front ∙ rules_bytes p.rules b.0 s.0 l.0 least,
    )

policy_only : (before : List Policy) (v : Policy) (bytes : List ℕ) → Spells (policy before) v bytes → FitsPolicy before v × (bytes ≡ policy_digits v)
unfolding policy policy_digits
policy_only before v bytes s =
    let a = s.4 in
    let n = (name_spelled before).only s.0 s.1 s.3 in
    let k = policy_kind_spelled.only a.0 a.1 a.3 in
    let r = ruled_only before s.0 a.0 v a.2 n.0 a.4 in
    (r.0, s.5 ∙ rw (n.1, a.5, k.1, r.3, r.1, r.2) refl)

rest_count : (p : Policy) (rules : List Rule) → length (with_rules p rules).rules - length p.rules ≡ length rules
rest_count p rules = omega (arith, length-append p.rules rules)

policy_again : (before : List Policy) (v : Policy) → FitsPolicy before v → Spells (policy before) v (policy_digits v)
unfolding policy policy_digits ruled added
policy_again before v fits =
    let p = new_policy v.name v.kind in
    let rules = fits.rules in
    let split : v.rules ≡ p.rules ++ rules = ap (λ (x : Policy). x.rules) fits.is in
    let long : length v.rules ≡ length p.rules + length rules = ap length split ∙ length-append p.rules rules in
    let left : length rules ≡ length v.rules - length p.rules = omega (arith, long) in
    let least : length p.rules ≤ length v.rules = omega (arith, long) in
    let test = and_from (nat_le (length p.rules) (length v.rules)) (nat_le (length v.rules) MOST_RULES) (le-leb (length p.rules) (length v.rules) least) (le-leb (length v.rules) MOST_RULES fits.few) in
    let small : length v.rules < 2 ^ 32 = (let f = fits.few in omega (arith, f)) in
    let list = in_turn_again (next_rule p) (λ given. FitsRule (with_rules p given)) rule_digits (λ given. rule_spelled (with_rules p given)) [] rules fits.added in
    let counted = subst (λ (k : ℕ). Spells (in_turn (next_rule p) [] k) rules (flat_map rule_digits rules)) left list in
    let bytes : flat_map rule_digits v.rules ≡ flat_map rule_digits p.rules ++ flat_map rule_digits rules = ap (flat_map rule_digits) split ∙ flat_map-append rule_digits p.rules rules in (
      v.name,
      with_length v.name,
      digits bits8 (policy_kind_number v.kind) ++ (digits bits32 (length v.rules) ++ flat_map rule_digits v.rules),
      (name_spelled before).spelled v.name fits.name,
      (
        v.kind,
        digits bits8 (policy_kind_number v.kind),
        digits bits32 (length v.rules) ++ flat_map rule_digits v.rules,
        policy_kind_spelled.spelled v.kind tt,
        (
          length v.rules,
          digits bits32 (length v.rules),
          flat_map rule_digits v.rules,
          ((small, refl), test),
          (
            true,
            flat_map rule_digits p.rules,
            flat_map rule_digits rules,
            these_again v.kind,
            (rules, flat_map rule_digits rules, [], counted, (fits.is, refl), sym (append-nil (flat_map rule_digits rules))),
            bytes,
          ),
          refl,
        ),
        refl,
      ),
      refl,
    )

pub policy_spelled : (before : List Policy) → IsSpelledBy (policy before) (FitsPolicy before) policy_digits
policy_spelled before = record { only = policy_only before; spelled = policy_again before }
