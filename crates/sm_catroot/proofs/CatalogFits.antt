-- What fits the layout is a catalogue whose transfers do not run, and a catalogue as it is read again fits.
use Rattle.std.proofs.Common.{◌≡◌, ◌⊎◌, ℕ, suc, ◌+◌, ◌^◌, ◌<◌, ◌≤◌, ◌==◌, Bool, true, false, List, [], ◌∷◌, ◌++◌, map, length, refl, sym, ap, subst, ◌∙◌, inl, inr, arith, length-append}
use Rattle.std.specs.Prelude.{◌&&◌, ◌||◌, not, nat_le, nat_lt, Option, Some, None, IfSome, if◌then◌else◌}
use Rattle.std.specs.List.{list_all, AllByRecursion}
use Rattle.std.proofs.lemmas.Bool.{and_from, and_parts, or_cases, or_parts, not-true, leb-true, le-leb, ltb-true, lt-ltb, cases_eq}
use Rattle.std.proofs.lemmas.Bool.Decides.{nat_tests}
use Rattle.sm_base.specs.Name.{is_label, word_byte}
use Rattle.sm_base.specs.declared.numbers.Ident.{Ident}
use Rattle.sm_base.specs.declared.numbers.PolicyKind.{PolicyKind}
use Rattle.sm_base.specs.declared.numbers.PolicyKind.TheVariants.{AsyncMirror, Vault}
use Rattle.sm_base.specs.declared.limits.TheConstants.{LAST_SECOND, LAST_NUMBER, MOST_RULES}
use Rattle.sm_defs.specs.Relationship.{Policy, Rule}
use Rattle.sm_defs.specs.Rules.{new_policy, is_wrong_rule, is_bad_keep, is_ruled, are_rules_full}
use Rattle.sm_defs.specs.Words.{Among, Ascends, same_ident}
use Rattle.sm_defs.proofs.Idents.{same_is}
use Rattle.sm_fields.specs.Grammar.{IsIdentity, AllInTurn}
use Rattle.sm_policy.specs.Added.{rule_refusal}
use Rattle.sm_policy.specs.declared.adding.RuleFault.TheVariants.{WrongRule, BadKeep, RuleTaken, RulesFull}
use Rattle.sm_relation.specs.declared.relation.Relation.{Relation}
use Rattle.sm_relation.specs.declared.relation.Standing.{Standing}
use Rattle.sm_catroot.specs.declared.placed.Placed.{Placed}
use Rattle.sm_catroot.specs.declared.parts.TransferHead.{TransferHead}
use Rattle.sm_catroot.specs.declared.TheConstants.{MOST_LEGS}
use Rattle.sm_catroot.specs.Catalog.{Catalog}
use Rattle.sm_catroot.specs.Layout.{may_preserve, with_rules, reserved_leg, may_be_leg, last_number}
use Rattle.sm_catroot.specs.Condition.{path_of, IsPlaced, name_of, IsAdded, IsMade, EndsIn, Reserves, IsTransfer, number_of, IsRelation, IsCatalog, stopped, transfer_again, relation_again, again}
use Rattle.sm_catroot.specs.Spelling.{transfer_head_of}
use Rattle.sm_catroot.proofs.PartsSpelled.{FitsRule}
use Rattle.sm_catroot.proofs.PathSpelled.{FitsPlaced, part_short}
use Rattle.sm_catroot.proofs.PolicySpelled.{FitsPolicy}
use Rattle.sm_catroot.proofs.TransferSpelled.{FitsLeg, FitsTransfer}
use Rattle.sm_catroot.proofs.CatalogSpelled.{FitsNext, FitsBody}
use Rattle.sm_catroot.proofs.Differ.{each_of, differ_of, in_turn_of, free_differs, differs_free, ascends_of, in_turn_above}

-- ---- volumes

placed_is : (before : List Placed) (v : Placed) → FitsPlaced before v → IsPlaced v
placed_is before v f = record { path = f.path.0; disk = f.disk }

placed_fits : (before : List Placed) (v : Placed) → IsPlaced v → ((w : Placed) → Among before w → ¬ (path_of v ≡ path_of w)) → FitsPlaced before v
placed_fits before v is apart = record { path = (is.path, differs_free path_of before v.path apart); disk = is.disk }

-- ---- rules

not_wrong : (kind : PolicyKind) (label : List ℕ) (b : Bool) → is_wrong_rule kind label false ≡ false → may_preserve kind b ≡ true → is_wrong_rule kind label b ≡ false
not_wrong AsyncMirror label true h e = absurd cc
not_wrong AsyncMirror label false h e = h
not_wrong Vault label b h e = h

may_be : (kind : PolicyKind) (label : List ℕ) (b : Bool) → is_wrong_rule kind label b ≡ false → (is_wrong_rule kind label false ≡ false) × (may_preserve kind b ≡ true)
may_be AsyncMirror label true h = absurd (let p = or_parts _ true h in (let q = p.1 in cc))
may_be AsyncMirror label false h = (h, refl)
may_be Vault label b h = (h, refl)

keep_small : (kind : PolicyKind) (keep : ℕ) → is_bad_keep kind keep ≡ false → keep < 2 ^ 32
keep_small AsyncMirror keep h = grind (arith, nat_tests)
keep_small Vault keep h = grind (arith, nat_tests)

pub label_short : (t : List ℕ) → is_label t ≡ true → length t ≤ 31
label_short t e =
    let tests = and_parts (nat_lt 0 (length t) && nat_le (length t) 31) (list_all word_byte t) e in
    leb-true (length t) 31 (and_parts (nat_lt 0 (length t)) (nat_le (length t) 31) tests.0).1

not_full : (p : Policy) → length p.rules < MOST_RULES → are_rules_full p ≡ false
not_full p lt = grind (arith, nat_tests)

true_not : (b : Bool) → b ≡ false → not b ≡ true
true_not b e = rw e refl

taken : (p : Policy) (r : Rule) → FitsRule p r → length p.rules < MOST_RULES → rule_refusal p r.label r.keep r.preserve ≡ None
taken p r f lt =
    let free = and_parts (not (is_wrong_rule p.kind r.label false)) (not (is_ruled p r.label)) f.label.1 in
    let wrong = not_wrong p.kind r.label r.preserve (not-true (is_wrong_rule p.kind r.label false) free.0) f.preserve.1 in
    let keep = not-true (is_bad_keep p.kind r.keep) f.keep.1 in
    let ruled = not-true (is_ruled p r.label) free.1 in
    rw (wrong, keep, ruled, not_full p lt) refl

refused : (w b t f : Bool) → (if w then Some WrongRule else if b then Some BadKeep else if t then Some RuleTaken else if f then Some RulesFull else None) ≡ None → (w ≡ false) × (b ≡ false) × (t ≡ false)
refused true b t f e = absurd cc
refused false true t f e = absurd cc
refused false false true f e = absurd cc
refused false false false f e = (refl, refl, refl)

rule_fits : (p : Policy) (r : Rule) → is_label r.label ≡ true → rule_refusal p r.label r.keep r.preserve ≡ None → FitsRule p r
rule_fits p r is none =
    let tests = refused (is_wrong_rule p.kind r.label r.preserve) (is_bad_keep p.kind r.keep) (is_ruled p r.label) (are_rules_full p) none in
    let may = may_be p.kind r.label r.preserve tests.0 in
    record {
      label = ((label_short r.label is, is), and_from (not (is_wrong_rule p.kind r.label false)) (not (is_ruled p r.label)) (true_not _ may.0) (true_not _ tests.2));
      keep = (keep_small p.kind r.keep tests.1, true_not _ tests.1);
      preserve = (tt, may.1);
    }

added_of : (p : Policy) (before rules : List Rule) → length p.rules + length before + length rules ≤ MOST_RULES → AllInTurn (λ given. FitsRule (with_rules p given)) before rules → AllInTurn (IsAdded p) before rules
added_of p before [] few all = tt
added_of p before (r ∷ rules) few all =
    let room : length (p.rules ++ before) < MOST_RULES = omega (arith, length-append p.rules before, few) in (
      record { label = all.0.label.0.1; taken = taken (with_rules p before) r all.0 room },
      added_of p (before ++ r ∷ []) rules (omega (arith, length-append before (r ∷ []), few)) all.1,
    )

rules_of : (p : Policy) (before rules : List Rule) → AllInTurn (IsAdded p) before rules → AllInTurn (λ given. FitsRule (with_rules p given)) before rules
rules_of p before [] all = tt
rules_of p before (r ∷ rules) all = (rule_fits (with_rules p before) r all.0.label all.0.taken, rules_of p (before ++ r ∷ []) rules all.1)

-- ---- policies

policy_is : (before : List Policy) (p : Policy) → FitsPolicy before p → IsMade p
policy_is before p f =
    let q = new_policy p.name p.kind in
    let long : length p.rules ≡ length q.rules + length f.rules = ap (λ (x : Policy). length x.rules) f.is ∙ length-append q.rules f.rules in
    let few = f.few in
    record { name = f.name.0.1; rules = f.rules; is = f.is; added = added_of q [] f.rules (omega (arith, long, few)) f.added; few = few }

policy_fits : (before : List Policy) (p : Policy) → IsMade p → ((q : Policy) → Among before q → ¬ (name_of p ≡ name_of q)) → FitsPolicy before p
policy_fits before p is apart =
    record { name = ((part_short p.name is.name, is.name), differs_free name_of before p.name apart); rules = is.rules; is = is.is; few = is.few; added = rules_of (new_policy p.name p.kind) [] is.rules is.added }

-- ---- legs

module _ (source : ℕ) (h : TransferHead) (n : ℕ) where
  ends_of : h.reserved ≡ true → (before is : List Ident) → length before + length is ≡ n → 1 ≤ length is → AllInTurn (FitsLeg source h n) before is → EndsIn is (reserved_leg source h.number)
  ends_of reserved before [] long some all = absurd (omega (arith, some))
  ends_of reserved before (i ∷ []) long some all =
      let last : (length before + 1 == n) ≡ true = (let l : length before + 1 ≡ n = omega (arith, long) in grind (arith, nat_tests)) in
      let test : (not (true && true) || same_ident i (reserved_leg source h.number)) ≡ true = subst (λ (b : Bool). (not (true && b) || same_ident i (reserved_leg source h.number)) ≡ true) last (subst (λ (b : Bool). (not (b && (length before + 1 == n)) || same_ident i (reserved_leg source h.number)) ≡ true) reserved all.0.1) in
      same_is i (reserved_leg source h.number) test
  ends_of reserved before (i ∷ j ∷ is) long some all =
      ends_of reserved (before ++ i ∷ []) (j ∷ is) (omega (arith, length-append before (i ∷ []), long)) (omega arith) all.1

  leg_fits : (before : List Ident) (i : Ident) → IsIdentity i → (h.reserved ≡ true → length before + 1 ≡ n → i ≡ reserved_leg source h.number) → FitsLeg source h n before i
  leg_fits before i is last = (is, go h.reserved refl)
    where
      same_self : (j : Ident) → same_ident j j ≡ true
      same_self j = and_from (j.origin == j.origin) (j.seq == j.seq) (grind arith) (grind arith)

      go : (b : Bool) → h.reserved ≡ b → may_be_leg source h n (length before) i ≡ true
      go false e = rw e refl
      go true e = elim (cases_eq (length before + 1) n) [
        | inl same ↦ (let is = last e same in rw (e, is, same_self (reserved_leg source h.number)) (or_true (not (true && (length before + 1 == n)))))
        | inr other ↦ (let no : (length before + 1 == n) ≡ false = grind (arith, nat_tests, other) in rw (e, no) refl)
      ]
        where
          or_true : (a : Bool) → (a || true) ≡ true
          or_true true = refl
          or_true false = refl

  legs_fit : (before is : List Ident) → length before + length is ≡ n → ((i : Ident) → Among is i → IsIdentity i) → (h.reserved ≡ true → EndsIn is (reserved_leg source h.number)) → AllInTurn (FitsLeg source h n) before is
  legs_fit before [] long each ends = tt
  legs_fit before (i ∷ []) long each ends = (leg_fits before i (each i (inl refl)) (λ r e. ends r), tt)
  legs_fit before (i ∷ j ∷ is) long each ends = (
    leg_fits before i (each i (inl refl)) (λ r e. absurd (omega (arith, long, e))),
    legs_fit (before ++ i ∷ []) (j ∷ is) (omega (arith, length-append before (i ∷ []), long)) (λ k among. each k (inr among)) ends,
  )

reserves_if : (b : Bool) (legs : List Ident) (i : Ident) → (b ≡ true → EndsIn legs i) → Reserves b legs i
reserves_if false legs i ends = tt
reserves_if true legs i ends = ends refl

ends_if : (b : Bool) (legs : List Ident) (i : Ident) → Reserves b legs i → b ≡ true → EndsIn legs i
ends_if false legs i r e = absurd cc
ends_if true legs i r e = r

some_legs : (b : Bool) (n : ℕ) → (not b || nat_le 1 n) ≡ true → b ≡ true → 1 ≤ n
some_legs true n e is = leb-true 1 n e
some_legs false n e is = absurd cc

counts : (b : Bool) (n : ℕ) → (b ≡ true → 1 ≤ n) → (not b || nat_le 1 n) ≡ true
counts false n h = refl
counts true n h = le-leb 1 n (h refl)

some_end : (legs : List Ident) (i : Ident) → EndsIn legs i → 1 ≤ length legs
some_end [] i e = absurd e
some_end (j ∷ legs) i e = omega arith

transfer_is : (source : ℕ) (t : Standing) → FitsTransfer source t → IsTransfer source t
transfer_is source t f =
    let h = transfer_head_of t in
    let n = length t.legs in
    let tests = and_parts (nat_le n MOST_LEGS) (not t.reserved || nat_le 1 n) f.count.1 in
    record {
      number = f.head.number;
      checkpoint = f.head.checkpoint;
      few = leb-true n MOST_LEGS tests.0;
      legs = each_of (FitsLeg source h n) IsIdentity (λ before i l. l.0) [] t.legs f.legs;
      reserved = reserves_if t.reserved t.legs (reserved_leg source t.number) (λ r. ends_of source h n r [] t.legs (omega arith) (some_legs t.reserved n tests.1 r) f.legs);
    }

transfer_fits : (source : ℕ) (t : Standing) → IsTransfer source t → FitsTransfer source (stopped t)
transfer_fits source t is =
    let h = transfer_head_of t in
    let n = length t.legs in
    let ends = ends_if t.reserved t.legs (reserved_leg source t.number) is.reserved in
    let few = is.few in
    record {
      head = record { number = is.number; kind = tt; reserved = tt; checkpoint = is.checkpoint };
      count = (omega (arith, few), and_from (nat_le n MOST_LEGS) (not t.reserved || nat_le 1 n) (le-leb n MOST_LEGS few) (counts t.reserved n (λ r. some_end t.legs (reserved_leg source t.number) (ends r))));
      legs = legs_fit source h n [] t.legs (omega arith) is.legs ends;
      stopped = refl;
    }

-- ---- relationships

option_is : (source : ℕ) (o : Option Standing) → IfSome o (FitsTransfer source) → IfSome o (IsTransfer source) × (transfer_again o ≡ o)
option_is source None f = (tt, refl)
option_is source (Some t) f = (transfer_is source t f, ap (λ (o : Option _). Some (record t { stopped = o })) (sym f.stopped))

option_fits : (source : ℕ) (o : Option Standing) → IfSome o (IsTransfer source) → IfSome (transfer_again o) (FitsTransfer source)
option_fits source None is = tt
option_fits source (Some t) is = transfer_fits source t is

relation_is : (before : List Relation) (r : Relation) → FitsNext before r → IsRelation r
relation_is before r f =
    let above = ltb-true (last_number before) r.number.0 f.head.number.1 in
    record {
      number = (omega (arith, above), f.head.number.0);
      source = f.head.source;
      destination = f.head.destination;
      policy = f.head.policy;
      halves = or_cases r.source_half r.destination_half f.head.halves;
      base = f.base;
      transfer = (option_is r.source.0 r.transfer f.transfer).0;
    }

either : (a b : Bool) → (a ≡ true) ⊎ (b ≡ true) → (a || b) ≡ true
either true b h = refl
either false b (inl e) = absurd cc
either false b (inr e) = e

relation_fits : (before : List Relation) (r : Relation) → IsRelation r → last_number before < r.number.0 → FitsNext before (relation_again r)
relation_fits before r is above = record {
  head = record { number = (is.number.1, lt-ltb (last_number before) r.number.0 above); source = is.source; destination = is.destination; policy = is.policy; halves = either r.source_half r.destination_half is.halves; quiesced = tt };
  base = is.base;
  transfer = option_fits r.source.0 r.transfer is.transfer;
}

relations_again : (before rs : List Relation) → AllInTurn FitsNext before rs → map relation_again rs ≡ rs
relations_again before [] all = refl
relations_again before (r ∷ rs) all =
    let one : relation_again r ≡ r = ap (λ (o : Option _). record r { transfer = o }) (option_is r.source.0 r.transfer all.0.transfer).1 in
    rw (one, relations_again (before ++ r ∷ []) rs all.1) refl

numbers_again : (rs : List Relation) → map number_of (map relation_again rs) ≡ map number_of rs
numbers_again [] = refl
numbers_again (r ∷ rs) = ap (λ (ns : List ℕ). r.number.0 ∷ ns) (numbers_again rs)

pub length_again : (rs : List Relation) → length (map relation_again rs) ≡ length rs
length_again [] = refl
length_again (r ∷ rs) = ap suc (length_again rs)

-- the relationships as they are read again are among them what they were
abbrev FromOne : Relation → Type 0
FromOne r = (s : Relation) × (r ≡ relation_again s) × IsRelation s

from_ones : (rs : List Relation) → ((r : Relation) → Among rs r → IsRelation r) → (r : Relation) → Among (map relation_again rs) r → FromOne r
from_ones [] each r among = absurd among
from_ones (s ∷ rs) each r (inl same) = (s, same, each s (inl refl))
from_ones (s ∷ rs) each r (inr later) = from_ones rs (λ x among. each x (inr among)) r later

one_fits : (before : List Relation) (r : Relation) → FromOne r → last_number before < r.number.0 → FitsNext before r
one_fits before r from above = subst (FitsNext before) (sym from.1) (relation_fits before from.0 from.2 (subst (λ (x : Relation). last_number before < x.number.0) from.1 above))

all_positive : (rs : List Relation) → ((r : Relation) → Among rs r → IsRelation r) → AllByRecursion (λ n. 0 < n) (map number_of rs)
all_positive [] each = tt
all_positive (r ∷ rs) each = (let one = (each r (inl refl)).number.0 in omega (arith, one), all_positive rs (λ x among. each x (inr among)))

-- ---- the whole

pub catalog_of : (k : Catalog) → FitsBody k → IsCatalog k × (again k ≡ k)
catalog_of k f =
    let relations = f.relations.1 in (
      record {
        clock = leb-true k.clock LAST_SECOND f.numbers.clock.1;
        next_relation = (leb-true 1 k.next_relation f.numbers.relation.1, f.numbers.relation.0);
        next_transfer = (let t = and_parts (nat_le 1 k.next_transfer) (nat_le k.next_transfer LAST_NUMBER) f.numbers.transfer.1 in (leb-true 1 k.next_transfer t.0, leb-true k.next_transfer LAST_NUMBER t.1));
        few_volumes = f.volumes.0;
        volumes = each_of FitsPlaced IsPlaced placed_is [] k.volumes f.volumes.1;
        paths_differ = differ_of FitsPlaced IsPlaced path_of (λ before v fits. free_differs path_of before v.path fits.path.1) [] k.volumes f.volumes.1;
        few_policies = f.policies.0;
        policies = each_of FitsPolicy IsMade policy_is [] k.policies f.policies.1;
        names_differ = differ_of FitsPolicy IsMade name_of (λ before p fits. free_differs name_of before p.name fits.name.1) [] k.policies f.policies.1;
        few_relations = f.relations.0;
        relations = each_of FitsNext IsRelation relation_is [] k.relations relations;
        ascends = (ascends_of FitsNext (λ before r fits. ltb-true (last_number before) r.number.0 fits.head.number.1) [] k.relations relations).1;
      },
      ap (λ (rs : List Relation). record k { relations = rs }) (relations_again [] k.relations relations),
    )

pub fits_again : (k : Catalog) → IsCatalog k → FitsBody (again k)
fits_again k is =
    let clock = is.clock in
    let transfer = is.next_transfer in
    let few = is.few_relations in
    let positive = subst (AllByRecursion (λ n. 0 < n)) (sym (numbers_again k.relations)) (all_positive k.relations is.relations) in
    let up = subst Ascends (sym (numbers_again k.relations)) is.ascends in
    record {
      numbers = record {
        clock = (omega (arith, clock), le-leb k.clock LAST_SECOND clock);
        relation = (is.next_relation.1, le-leb 1 k.next_relation is.next_relation.0);
        transfer = (let most = transfer.1 in (omega (arith, most), and_from (nat_le 1 k.next_transfer) (nat_le k.next_transfer LAST_NUMBER) (le-leb 1 k.next_transfer transfer.0) (le-leb k.next_transfer LAST_NUMBER most)));
      };
      volumes = (is.few_volumes, in_turn_of FitsPlaced IsPlaced path_of placed_fits [] k.volumes is.volumes is.paths_differ (λ y among. absurd among));
      policies = (is.few_policies, in_turn_of FitsPolicy IsMade name_of policy_fits [] k.policies is.policies is.names_differ (λ y among. absurd among));
      relations = ((let long = length_again k.relations in omega (arith, long, few)), in_turn_above FitsNext FromOne one_fits [] (map relation_again k.relations) (from_ones k.relations is.relations) positive up);
    }
