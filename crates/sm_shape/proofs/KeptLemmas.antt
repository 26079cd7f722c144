-- Legs of a vault have classes where their labels have rules.
use Rattle.std.proofs.Common.{◌≡◌, ◌↔◌, ℕ, ◌||◌, not, Bool, true, false, cond, List, [], ◌∷◌, map, refl, sym, ap, subst, ◌∙◌}
use Rattle.std.specs.Prelude.{Option, Some, None, is_some, IsTrue}
use Rattle.std.specs.Str.{bytes_eq}
use Rattle.std.proofs.lemmas.Bool.{both_ways, not-true, not_from_false}
use Rattle.std.specs.List.{list_any, find}
use Rattle.sm_defs.specs.Words.{Among}
use Rattle.sm_defs.specs.Volume.{Snapshot}
use Rattle.sm_defs.specs.Relationship.{Relationship, Rule, rule_for, is_mirror}
use Rattle.sm_defs.specs.World.{Up, volume_at, policy_at}
use Rattle.sm_defs.proofs.Members.{among_map, from_map}
use Rattle.sm_defs.proofs.Searches.{any_found}
use Rattle.sm_defs.proofs.Classes.{vault_has_class}
use Rattle.sm_model.specs.declared.world.WorldSnapshot.{WorldSnapshot}
use Rattle.sm_shape.specs.Blank.{blank_snapshot}
use Rattle.sm_shape.specs.Kept.{LegHasRule, OwnLegsFit, KeepsLegs}
use Rattle.sm_shape.proofs.ListWords.{all_among, among_all}
use Rattle.sm_shape.proofs.Idents.{known_among, among_known}

-- a label without a rule
pub unruled : (rules : List Rule) (label : List ℕ) (b : Bool) → b ≡ list_any (λ r. bytes_eq r.label label) rules → IsTrue (not b) ↔ (rule_for rules (Some label) ≡ None)
unruled rules label b e = go (rule_for rules (Some label)) refl
  where
    test : (o : Option Rule) → rule_for rules (Some label) ≡ o → b ≡ is_some o
    test o is = e ∙ (any_found (λ r. bytes_eq r.label label) rules ∙ ap is_some is)

    go : (o : Option Rule) → rule_for rules (Some label) ≡ o → IsTrue (not b) ↔ (rule_for rules (Some label) ≡ None)
    go None is = (λ _. is, λ _. not_from_false b (test None is))
    go (Some r) is = (λ yes. absurd (both_ways b (not-true b yes) (test (Some r) is)), λ none. absurd (none_some r (sym none ∙ is)))
      where
        none_some : (r : Rule) → None ≡ Some r → ⊥
        none_some r e = absurd cc

module _ (w : Up) (r : Relationship) (rules : List Rule) (ss : List WorldSnapshot)
    (vault : is_mirror (policy_at w r.policy).kind ≡ false) (rules_are : rules ≡ (policy_at w r.policy).rules) (ss_are : map blank_snapshot ss ≡ (volume_at w r.source).snapshots) where
  pub kept_by_rules : OwnLegsFit r rules ss ↔ KeepsLegs w r
  kept_by_rules = (
    λ f t e _. record {
      unreserved = (f t e).0;
      classes = λ s leg among.
          let x = from_map blank_snapshot ss s (subst (λ l. Among l s) (sym ss_are) among) in
          let own : Among t.legs x.0.ident = subst (λ (z : Snapshot). Among t.legs z.ident) x.2 leg in
          let ruled : is_some (rule_for rules x.0.label) ≡ true = all_among (LegHasRule t.legs rules) ss (f t e).1 x.0 x.1 (known_among t.legs x.0.ident own) in
          vault_has_class (policy_at w r.policy) s vault ∙ ap (λ rs. is_some (rule_for rs s.label)) (sym rules_are) ∙ ap (λ (z : Snapshot). is_some (rule_for rules z.label)) x.2 ∙ ruled;
    },
    λ k t e. (
      (k t e vault).unreserved,
      among_all (LegHasRule t.legs rules) ss (λ s a leg.
          let among : Among (volume_at w r.source).snapshots (blank_snapshot s) = subst (λ l. Among l (blank_snapshot s)) ss_are (among_map blank_snapshot ss s a) in
          let class = (k t e vault).classes (blank_snapshot s) (among_known t.legs s.ident leg) among in
          ap (λ rs. is_some (rule_for rs s.label)) rules_are ∙ sym (vault_has_class (policy_at w r.policy) (blank_snapshot s) vault) ∙ class),
    ),
  )
