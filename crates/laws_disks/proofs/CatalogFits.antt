-- What disk 0 keeps of a sound world is a catalogue.
use Rattle.std.proofs.Common.{◌≡◌, ◌⊎◌, ℕ, ◌<◌, ◌≤◌, Bool, true, false, List, [], ◌∷◌, ◌++◌, length, map, refl, sym, ap, subst, ◌∙◌, inl, inr, arith, length-append, append_assoc}
use Rattle.std.specs.Prelude.{Option, Some, None, IfSome, is_some}
use Rattle.std.specs.Option.{option_map}
use Rattle.std.specs.List.{AllByRecursion}
use Rattle.std.proofs.lemmas.Bool.{or_cases, eqb-true, false_from_ne_true}
use Rattle.std.proofs.lemmas.List.{append-nil, length-map}
use Rattle.sm_base.specs.Name.{is_label}
use Rattle.sm_base.specs.declared.limits.TheConstants.{MOST_RULES}
use Rattle.sm_base.specs.declared.numbers.Ident.{Ident}
use Rattle.sm_base.specs.declared.refusal.Reason.TheVariants.{Restart}
use Rattle.sm_defs.specs.Words.{Among, KeysDiffer, Ascends}
use Rattle.sm_defs.specs.Volume.{Volume, has}
use Rattle.sm_defs.specs.Relationship.{Policy, Rule, Relationship, Transfer, rule_for}
use Rattle.sm_defs.specs.Rules.{first_rules, new_policy, is_wrong_rule, is_bad_keep, are_rules_full}
use Rattle.sm_defs.specs.World.{Up, volume_at}
use Rattle.sm_defs.proofs.Members.{from_map, among_right}
use Rattle.sm_fields.specs.Grammar.{IsIdentity, AllInTurn}
use Rattle.sm_policy.specs.Added.{rule_refusal}
use Rattle.sm_relation.specs.declared.relation.Relation.{Relation}
use Rattle.sm_relation.specs.declared.relation.Standing.{Standing}
use Rattle.sm_catroot.specs.declared.placed.Placed.{Placed}
use Rattle.sm_catroot.specs.Catalog.{Catalog}
use Rattle.sm_catroot.specs.Layout.{reserved_leg}
use Rattle.sm_catroot.specs.Condition.{path_of, IsPlaced, IsAdded, IsMade, EndsIn, Reserves, IsTransfer, number_of, IsRelation, IsCatalog, relation_again, again}
use Rattle.sm_model.specs.Formed as formed
use Rattle.sm_model.specs.Formed.{Formed, FormedVolume, FormedPolicy, FormedRelation, FormedTransfer, AreAdded, NumbersAscend}
use Rattle.sm_model.specs.Crossed.{Crossed, IsReservedLeg}
use Rattle.sm_model.specs.NumbersStand.{NumbersStand}
use Rattle.sm_model.specs.OfRelations.{has_a_half}
use Rattle.laws_disks.proofs.CatalogBrief.{FitsPolicy}
use Rattle.laws_disks.proofs.Identities.{volume_there, identity_there}

-- ---- what disk 0 keeps

abbrev pub placed_of : Volume → Placed
placed_of v = record { path = v.path; disk = record { 0 = v.disk } }

-- no disk keeps whether it runs
abbrev pub standing_of : Transfer → Standing
standing_of t = record { number = t.number; kind = t.kind; reserved = t.reserved; checkpoint = t.checkpoint; legs = t.legs; stopped = Some Restart }

abbrev pub relation_of : Relationship → Relation
relation_of r = record {
  number = record { 0 = r.number };
  source = record { 0 = r.source };
  destination = record { 0 = r.destination };
  policy = r.policy;
  source_half = r.source_half;
  destination_half = r.destination_half;
  quiesced = r.quiesced;
  base = r.base;
  transfer = option_map standing_of r.transfer;
}

abbrev pub catalog_of : Up → Catalog
catalog_of w = record {
  clock = w.clock;
  next_relation = w.next_relation;
  next_transfer = w.next_transfer;
  volumes = map placed_of w.volumes;
  policies = w.policies;
  relations = map relation_of w.relations;
}

-- ---- it is read again as itself

relation_same : (r : Relationship) (o : Option Transfer) → r.transfer ≡ o → relation_again (relation_of r) ≡ relation_of r
relation_same r None is = rw is refl
relation_same r (Some t) is = rw is refl

relations_same : (rs : List Relationship) → map relation_again (map relation_of rs) ≡ map relation_of rs
relations_same [] = refl
relations_same (r ∷ rs) =
    let here = relation_same r r.transfer refl in
    let rest = relations_same rs in
    cc

pub read_again : (w : Up) → again (catalog_of w) ≡ catalog_of w
read_again w = ap (λ (rs : List Relation). let k : Catalog = record (catalog_of w) { relations = rs } in k) (relations_same w.relations)

-- ---- volumes

differ_one : (v : Volume) (vs : List Volume) → AllByRecursion (λ (u : Volume). ¬ (formed.path_of u ≡ formed.path_of v)) vs → AllByRecursion (λ (p : Placed). ¬ (path_of p ≡ path_of (placed_of v))) (map placed_of vs)
differ_one v [] apart = tt
differ_one v (u ∷ vs) apart = (apart.0, differ_one v vs apart.1)

paths_differ : (vs : List Volume) → KeysDiffer formed.path_of vs → KeysDiffer path_of (map placed_of vs)
paths_differ [] apart = tt
paths_differ (v ∷ vs) apart = (differ_one v vs apart.0, paths_differ vs apart.1)

-- ---- policies

unfull : (p : Policy) (before : List Rule) (r : Rule) (rs : List Rule) → length (before ++ r ∷ rs) ≤ MOST_RULES → are_rules_full (record p { rules = before }) ≡ false
unfull p before r rs few = false_from_ne_true _ (λ full. let e : length before ≡ 10 = eqb-true (length before) 10 full in omega (arith, e, few, length-append before (r ∷ rs)))

unruled : (rules : List Rule) (label : List ℕ) → rule_for rules (Some label) ≡ None → is_some (rule_for rules (Some label)) ≡ false
unruled rules label none = ap is_some none

accepted : (p : Policy) (before : List Rule) (r : Rule) → is_wrong_rule p.kind r.label r.preserve ≡ false → is_bad_keep p.kind r.keep ≡ false → rule_for before (Some r.label) ≡ None
    → are_rules_full (record p { rules = before }) ≡ false → rule_refusal (record p { rules = before }) r.label r.keep r.preserve ≡ None
accepted p before r wrong bad free full = rw (wrong, bad, unruled before r.label free, full) refl

-- the rules that were added behind the first ones, of which some were added before
all_added : (p : Policy) (before rest : List Rule) → AreAdded p.kind (p.rules ++ before) rest → length ((p.rules ++ before) ++ rest) ≤ MOST_RULES
    → ((r : Rule) → Among rest r → is_label r.label ≡ true) → AllInTurn (IsAdded p) before rest
all_added p before [] added few labels = tt
all_added p before (r ∷ rest) added few labels = (
  record { label = labels r (inl refl); taken = accepted p (p.rules ++ before) r added.0 added.1 added.2 (unfull p (p.rules ++ before) r rest few) },
  all_added p (before ++ r ∷ []) rest (subst (λ (rs : List Rule). AreAdded p.kind rs rest) same added.3) fewer (λ x among. labels x (inr among)),
)
  where
    same : (p.rules ++ before) ++ r ∷ [] ≡ p.rules ++ (before ++ r ∷ [])
    same = append_assoc p.rules before (r ∷ [])

    fewer : length ((p.rules ++ (before ++ r ∷ [])) ++ rest) ≤ MOST_RULES
    fewer = subst (λ (rs : List Rule). length rs ≤ MOST_RULES) (sym (append_assoc (p.rules ++ before) (r ∷ []) rest) ∙ ap (λ (rs : List Rule). rs ++ rest) same) few

policy_made : (p : Policy) → FormedPolicy p → IsMade p
policy_made p is = record {
  name = is.name;
  rules = is.added.0;
  is = ap (λ (rs : List Rule). let x : Policy = record p { rules = rs } in x) is.added.1;
  added = all_added (new_policy p.name p.kind) [] is.added.0 (subst (λ (rs : List Rule). AreAdded p.kind rs is.added.0) (sym (append-nil (first_rules p.kind))) is.added.2) few
      (λ r among. (is.rules r (subst (λ (rs : List Rule). Among rs r) (sym is.added.1) (among_right (first_rules p.kind) is.added.0 r among))).label);
  few = is.few;
}
  where
    few : length ((first_rules p.kind ++ []) ++ is.added.0) ≤ MOST_RULES
    few = subst (λ (rs : List Rule). length rs ≤ MOST_RULES) (is.added.1 ∙ ap (λ (rs : List Rule). rs ++ is.added.0) (sym (append-nil (first_rules p.kind)))) is.few

pub policy_fits : (p : Policy) → FormedPolicy p → FitsPolicy p
policy_fits p is = record {
  name = is.name;
  few = is.few;
  rules = λ r among. let f = is.rules r among in record { label = f.label; keep = (let few = f.few_kept in omega (arith, few)) };
}

-- ---- relationships

ends_in : (earlier : List Ident) (i : Ident) → EndsIn (earlier ++ i ∷ []) i
ends_in [] i = refl
ends_in (j ∷ []) i = refl
ends_in (j ∷ k ∷ earlier) i = ends_in (k ∷ earlier) i

reserves : (reserved : Bool) (legs : List Ident) (i : Ident) → (reserved ≡ true → (earlier : List Ident) × (legs ≡ earlier ++ i ∷ [])) → Reserves reserved legs i
reserves false legs i ends = tt
reserves true legs i ends = let e = ends refl in subst (λ (is : List Ident). EndsIn is i) (sym e.1) (ends_in e.0 i)

ascend_one : (r : Relationship) (rs : List Relationship) → AllByRecursion (λ (q : Relationship). r.number < q.number) rs → AllByRecursion (λ m. r.number < m) (map number_of (map relation_of rs))
ascend_one r [] above = tt
ascend_one r (q ∷ rs) above = (above.0, ascend_one r rs above.1)

ascend : (rs : List Relationship) → NumbersAscend rs → Ascends (map number_of (map relation_of rs))
ascend [] above = tt
ascend (r ∷ rs) above = (ascend_one r rs above.0, ascend rs above.1)

halves_stand : (r : Relationship) → has_a_half r ≡ true → (r.source_half ≡ true) ⊎ (r.destination_half ≡ true)
halves_stand r is = or_cases r.source_half r.destination_half is

module _ (w : Up) (form : Formed w) (numbers : NumbersStand w) (crossed : Crossed w) where
  few_volumes : length w.volumes ≤ 32
  few_volumes = form.few

  few_policies : length w.policies ≤ 32
  few_policies = form.few_policies

  -- the base stands where a half does
  base_fits : (r : Relationship) (i : Ident) → Among w.relations r → r.base ≡ Some i → (r.source_half ≡ true) ⊎ (r.destination_half ≡ true) → IsIdentity i
  base_fits r i among is (inl half) =
      let c = crossed.relations r among in
      identity_there w form numbers _ i (volume_there w form numbers r.source c.source) (c.base_at_source i is half)
  base_fits r i among is (inr half) =
      let c = crossed.relations r among in
      identity_there w form numbers _ i (volume_there w form numbers r.destination c.destination) (c.base_at_destination i is half)

  leg_fits : (r : Relationship) (t : Transfer) (i : Ident) → Among w.relations r → r.transfer ≡ Some t → Among t.legs i → IsIdentity i
  leg_fits r t i among is leg = go ((crossed.transfers r t among is).legs_at_source i leg)
    where
      go : (has (volume_at w r.source).snapshots i ≡ true) ⊎ IsReservedLeg r t i → IsIdentity i
      go (inl there) = identity_there w form numbers _ i (volume_there w form numbers r.source (crossed.relations r among).source) there
      go (inr reserved) = subst IsIdentity (sym reserved.1) (
          let c = (crossed.relations r among).source in
          let few = few_volumes in
          let given = (crossed.transfers r t among is).given in
          let next = form.transfers_counted.1 in
          (omega (arith, c, few), omega (arith, given, next)))

  transfer_fits : (r : Relationship) (t : Transfer) → Among w.relations r → r.transfer ≡ Some t → IsTransfer r.source (standing_of t)
  transfer_fits r t among is =
      let f = (form.relations r among).transfer t is in
      let given = (crossed.transfers r t among is).given in
      let next = form.transfers_counted.1 in record {
        number = omega (arith, given, next);
        checkpoint = f.checkpoint;
        few = f.few;
        legs = λ i leg. leg_fits r t i among is leg;
        reserved = reserves t.reserved t.legs (reserved_leg r.source t.number) f.reserved;
      }

  some_base : (r : Relationship) (o : Option Ident) → Among w.relations r → r.base ≡ o → IfSome o IsIdentity
  some_base r None among is = tt
  some_base r (Some i) among is = base_fits r i among is (halves_stand r (form.relations r among).half)

  some_transfer : (r : Relationship) (o : Option Transfer) → Among w.relations r → r.transfer ≡ o → IfSome (option_map standing_of o) (IsTransfer r.source)
  some_transfer r None among is = tt
  some_transfer r (Some t) among is = transfer_fits r t among is

  relation_fits : (r : Relationship) → Among w.relations r → IsRelation (relation_of r)
  relation_fits r among =
      let c = crossed.relations r among in
      let given = c.given in
      let next = form.relations_counted.1 in
      let few = few_volumes in
      let few_p = few_policies in
      let source = c.source in
      let destination = c.destination in
      let policy = c.policy in record {
        number = (c.counts, omega (arith, given, next));
        source = omega (arith, source, few);
        destination = omega (arith, destination, few);
        policy = omega (arith, policy, few_p);
        halves = halves_stand r (form.relations r among).half;
        base = some_base r r.base among refl;
        transfer = some_transfer r r.transfer among refl;
      }

  each_placed : (p : Placed) → Among (map placed_of w.volumes) p → IsPlaced p
  each_placed p among =
      let v = from_map placed_of w.volumes p among in
      let f = form.volumes v.0 v.1 in
      subst IsPlaced (sym v.2) (record { path = f.path; disk = f.disk })

  each_relation : (x : Relation) → Among (map relation_of w.relations) x → IsRelation x
  each_relation x among = let r = from_map relation_of w.relations x among in subst IsRelation (sym r.2) (relation_fits r.0 r.1)

  pub catalog_fits : IsCatalog (catalog_of w)
  catalog_fits =
      let few = form.few in
      let few_r = form.few_relations in
      let last = form.relations_counted.1 in record {
        clock = form.clock;
        next_relation = (form.relations_counted.0, omega (arith, last));
        next_transfer = form.transfers_counted;
        few_volumes = omega (arith, few, length-map w.volumes placed_of);
        volumes = each_placed;
        paths_differ = paths_differ w.volumes form.paths_differ;
        few_policies = form.few_policies;
        policies = λ p among. policy_made p (form.policies p among);
        names_differ = form.names_differ;
        few_relations = omega (arith, few_r, length-map w.relations relation_of);
        relations = each_relation;
        ascends = ascend w.relations form.ascending;
      }
