-- The next catalogue has a spelling.
use Rattle.std.proofs.Common.{◌≡◌, ℕ, ◌+◌, ◌≤◌, ◌==◌, Bool, true, false, List, [], ◌∷◌, ◌++◌, length, refl, sym, ◌∙◌, ap, subst, inl, inr, Option, Some, None, Ok, arith, length-append, append-nil, append_assoc}
use Rattle.std.specs.Prelude.{slice_get}
use Rattle.std.specs.List.{list_any}
use Rattle.std.specs.Str.{bytes_eq}
use Rattle.std.proofs.lemmas.Bool.{eq-eqb}
use Rattle.std.proofs.lemmas.List.{length-set}
use Rattle.std.proofs.lemmas.Slice.Eq.{bytes_eq-Decides}
use Rattle.sm_base.specs.Name.{is_part, is_label}
use Rattle.sm_base.specs.declared.limits.TheConstants.{MOST_POLICIES, MOST_RULES}
use Rattle.sm_base.specs.declared.numbers.PolicyKind.{PolicyKind}
use Rattle.sm_base.specs.declared.numbers.PolicyKind.TheVariants.{AsyncMirror, Vault}
use Rattle.sm_base.specs.declared.refusal.What.TheVariants.{Policies}
use Rattle.sm_base.specs.declared.refusal.Refusal.TheVariants as refusals
use Rattle.sm_defs.specs.Relationship.{Policy, Rule}
use Rattle.sm_defs.specs.Rules.{first_rules, new_policy, is_wrong_rule, is_bad_keep, is_ruled, are_rules_full, with_rule}
use Rattle.sm_defs.specs.Words.{Found, found}
use Rattle.sm_defs.proofs.Keys.{differ_push, differ_set}
use Rattle.sm_defs.proofs.Members.{any_among, among_push, among_set, get_among}
use Rattle.sm_defs.proofs.Searches.{get_found}
use Rattle.sm_fields.specs.Grammar.{AllInTurn}
use Rattle.sm_model.specs.Answers.{and_then, refused_if, some_or}
use Rattle.sm_policy.specs.Added.{rule_refusal}
use Rattle.sm_catroot.specs.Catalog.{Catalog}
use Rattle.sm_catroot.specs.Condition.{IsCatalog, IsMade, IsAdded, HasFewRules, name_of}
use Rattle.sm_seats.proofs.Lists.{one_value}
use Rattle.sm_events.specs.Deciding.{IsNext}
use Rattle.sm_events.specs.Ruling.{with_new_policy, policy_created, with_policy, rule_added_to, rule_added}

-- ---- a new policy

few_rules : (name : List ℕ) (kind : PolicyKind) → HasFewRules (new_policy name kind)
few_rules name AsyncMirror = omega (arith)
few_rules name Vault = omega (arith)

new_is_made : (name : List ℕ) (kind : PolicyKind) → is_part name ≡ true → IsMade (new_policy name kind)
new_is_made name kind given = record {
  name = given;
  rules = [];
  is = ap (λ (rs : List Rule). let p : Policy = record { name = name; kind = kind; rules = rs } in p) (sym (append-nil (first_rules kind)));
  added = tt;
  few = few_rules name kind;
}

not_both : (b : Bool) → b ≡ true → b ≡ false → ⊥
not_both b t f = let bad : true ≡ false = sym t ∙ f in absurd (cc)

-- ---- a policy with a further rule

all_more : {A : Type 0} (Fits : List A → A → Type 0) (before xs : List A) (y : A) → AllInTurn Fits before xs → Fits (before ++ xs) y → AllInTurn Fits before (xs ++ y ∷ [])
all_more Fits before [] y all last = (subst (λ ys. Fits ys y) (append-nil before) last, tt)
all_more Fits before (x ∷ xs) y all last = (all.0, all_more Fits (before ++ x ∷ []) xs y all.1 (subst (λ ys. Fits ys y) (sym (append_assoc before (x ∷ []) xs)) last))

ruled_is_made : (p : Policy) (rule : Rule) → IsMade p → is_label rule.label ≡ true → rule_refusal p rule.label rule.keep rule.preserve ≡ None → are_rules_full p ≡ false → IsMade (with_rule p rule)
ruled_is_made p rule made labelled none room = record {
  name = made.name;
  rules = made.rules ++ rule ∷ [];
  is = ap (λ (rs : List Rule). let q : Policy = record { name = p.name; kind = p.kind; rules = rs } in q)
      (ap (λ (q : Policy). q.rules ++ rule ∷ []) made.is ∙ append_assoc (first_rules p.kind) made.rules (rule ∷ []));
  added = all_more (IsAdded (new_policy p.name p.kind)) [] made.rules rule made.added (record {
    label = labelled;
    taken = subst (λ (q : Policy). rule_refusal q rule.label rule.keep rule.preserve ≡ None) made.is none;
  });
  few =
      let longer = length-append p.rules (rule ∷ []) in
      let few = made.few in
      let not_all : ¬ (length p.rules ≡ MOST_RULES) = λ e. not_both (are_rules_full p) (eq-eqb (length p.rules) MOST_RULES e) room in
      omega (arith, longer, few, not_all);
}

module _ (k : Catalog) (fit : IsCatalog k) where
  with_new_fits : (name : List ℕ) (kind : PolicyKind) → is_part name ≡ true → list_any (λ (p : Policy). bytes_eq p.name name) k.policies ≡ false → (length k.policies == MOST_POLICIES) ≡ false → IsCatalog (with_new_policy k (new_policy name kind))
  with_new_fits name kind given free room = record {
    clock = fit.clock;
    next_relation = fit.next_relation;
    next_transfer = fit.next_transfer;
    few_volumes = fit.few_volumes;
    volumes = fit.volumes;
    paths_differ = fit.paths_differ;
    few_policies =
        at_most (length k.policies) fit.few_policies room (length-append k.policies (new_policy name kind ∷ []));
    policies = λ p a. elim (among_push k.policies (new_policy name kind) p a) [
      | inl old ↦ fit.policies p old
      | inr new ↦ subst IsMade (sym new) (new_is_made name kind given)
    ];
    names_differ = differ_push name_of k.policies (new_policy name kind) fit.names_differ (λ y a same.
        not_both (list_any (λ (p : Policy). bytes_eq p.name name) k.policies) (any_among (λ (p : Policy). bytes_eq p.name name) k.policies y a ((bytes_eq-Decides y.name name).1 same)) free);
    few_relations = fit.few_relations;
    relations = fit.relations;
    ascends = fit.ascends;
  }
    where
      at_most : {m : ℕ} (l : ℕ) → l ≤ MOST_POLICIES → (l == MOST_POLICIES) ≡ false → m ≡ l + 1 → m ≤ MOST_POLICIES
      at_most l few room more = let not_all : ¬ (l ≡ MOST_POLICIES) = λ e. not_both (l == MOST_POLICIES) (eq-eqb l MOST_POLICIES e) room in omega (arith, few, more, not_all)

  pub created_next : (name : List ℕ) (kind : PolicyKind) → is_part name ≡ true → IsNext k (policy_created k name kind)
  unfolding and_then refused_if
  created_next name kind given = go (list_any (λ (p : Policy). bytes_eq p.name name) k.policies) refl (length k.policies == MOST_POLICIES) refl
    where
      go : (a : Bool) → list_any (λ (p : Policy). bytes_eq p.name name) k.policies ≡ a → (b : Bool) → (length k.policies == MOST_POLICIES) ≡ b
          → IsNext k (and_then (refused_if a refusals.NameTaken) (λ _. and_then (refused_if b (refusals.Full Policies)) (λ _. Ok (with_new_policy k (new_policy name kind)))))
      go true e b f = tt
      go false e true f = tt
      go false e false f = (refl, with_new_fits name kind given e f)

  -- ---- a further rule

  module _ (rule : Rule) (labelled : is_label rule.label ≡ true) where
    with_fits : (p : Found Policy) → slice_get k.policies p.at ≡ Some p.item → rule_refusal p.item rule.label rule.keep rule.preserve ≡ None → are_rules_full p.item ≡ false
        → IsCatalog (with_policy k p.at (with_rule p.item rule))
    with_fits p here none room = record {
      clock = fit.clock;
      next_relation = fit.next_relation;
      next_transfer = fit.next_transfer;
      few_volumes = fit.few_volumes;
      volumes = fit.volumes;
      paths_differ = fit.paths_differ;
      few_policies = subst (λ (l : ℕ). l ≤ MOST_POLICIES) (sym (length-set k.policies p.at (with_rule p.item rule))) fit.few_policies;
      policies = λ q a. elim (among_set k.policies p.at (with_rule p.item rule) q a) [
        | inl new ↦ subst IsMade (sym new) (ruled_is_made p.item rule (fit.policies p.item (get_among k.policies p.at p.item here)) labelled none room)
        | inr old ↦ fit.policies q old
      ];
      names_differ = differ_set name_of k.policies p.at (with_rule p.item rule) (λ x e. ap name_of (one_value (slice_get k.policies p.at) p.item x here e)) fit.names_differ;
      few_relations = fit.few_relations;
      relations = fit.relations;
      ascends = fit.ascends;
    }

    added_at : (p : Found Policy) → slice_get k.policies p.at ≡ Some p.item → IsNext k (rule_added_to k p rule)
    unfolding and_then refused_if
    added_at p here =
        go (is_wrong_rule p.item.kind rule.label rule.preserve) refl (is_bad_keep p.item.kind rule.keep) refl (is_ruled p.item rule.label) refl (are_rules_full p.item) refl
      where
        go : (a : Bool) → is_wrong_rule p.item.kind rule.label rule.preserve ≡ a → (b : Bool) → is_bad_keep p.item.kind rule.keep ≡ b → (c : Bool) → is_ruled p.item rule.label ≡ c → (d : Bool) → are_rules_full p.item ≡ d
            → IsNext k (and_then (refused_if a refusals.WrongRule) (λ _. and_then (refused_if b refusals.BadKeep) (λ _. and_then (refused_if c refusals.RuleTaken) (λ _. and_then (refused_if d refusals.RulesFull) (λ _. Ok (with_policy k p.at (with_rule p.item rule)))))))
        go true e1 b e2 c e3 d e4 = tt
        go false e1 true e2 c e3 d e4 = tt
        go false e1 false e2 true e3 d e4 = tt
        go false e1 false e2 false e3 true e4 = tt
        go false e1 false e2 false e3 false e4 = (refl, with_fits p here (rw (e1, e2, e3, e4) refl) e4)

    pub added_next : (name : List ℕ) → IsNext k (rule_added k name rule)
    unfolding and_then some_or
    added_next name = go (found (λ (p : Policy). bytes_eq p.name name) k.policies) refl
      where
        go : (o : Option (Found Policy)) → found (λ (p : Policy). bytes_eq p.name name) k.policies ≡ o → IsNext k (and_then (some_or (refusals.NoPolicy name) o) (λ p. rule_added_to k p rule))
        go None e = tt
        go (Some p) e = added_at p (get_found (λ (q : Policy). bytes_eq q.name name) k.policies p e)
