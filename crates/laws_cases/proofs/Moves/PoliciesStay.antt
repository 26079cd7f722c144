-- Policies keep their kinds, and take no class away.
use Rattle.std.proofs.Common.{◌≡◌, ◌⊎◌, ◌<◌, ℕ, Bool, true, false, cond, List, [], ◌∷◌, ◌++◌, length, Option, Some, None, is_some, refl, sym, ap, subst, ◌∙◌, inl, inr}
use Rattle.std.specs.Prelude.{slice_set, slice_index_or}
use Rattle.std.specs.List.{find}
use Rattle.std.specs.Str.{bytes_eq}
use Rattle.sm_defs.proofs.Classes.{more_classes}
use Rattle.sm_defs.specs.Classes.{has_class}
use Rattle.sm_defs.specs.Words.{Found}
use Rattle.sm_defs.specs.Volume.{Snapshot}
use Rattle.sm_defs.specs.Relationship.{Rule, Policy, rule_for}
use Rattle.sm_defs.specs.World.{Up, policy_at, no_policy}
use Rattle.sm_model.specs.OfPolicies.{with_policy, with_new_policy}
use Rattle.laws_cases.proofs.Needed.Needs.{set_cases, push_within}
use Rattle.laws_cases.proofs.Moves.Moves.{PolicyAt, Aside, nothing, clock, new_policy, rule, creates, writes, drops, points, breaks, snaps}
use Rattle.sm_defs.specs.Rules.{with_rule}

-- policies keep their kinds, and what had a class has one still
pub record PoliciesStay (w u : Up) : Type 0 where
  pub kinds : (k : ℕ) → k < length w.policies → (policy_at u k).kind ≡ (policy_at w k).kind
  pub classes : (k : ℕ) → k < length w.policies → (s : Snapshot) → has_class (policy_at w k) s ≡ true → has_class (policy_at u k) s ≡ true

pub same_policies : (w u : Up) → u.policies ≡ w.policies → PoliciesStay w u
same_policies w u e = record {
  kinds = λ k l. ap (λ ps. (slice_index_or ps k no_policy).kind) e;
  classes = λ k l s h. subst (λ ps. has_class (slice_index_or ps k no_policy) s ≡ true) (sym e) h;
}

-- what was found in a list is found in a longer one
found_longer : {X : Type 0} (p : X → Bool) (xs ys : List X) → is_some (find p xs) ≡ true → is_some (find p (xs ++ ys)) ≡ true
found_longer p [] ys e = absurd (cc)
found_longer {X} p (x ∷ xs) ys e = go (p x) e (found_longer p xs ys)
  where
    go : (b : Bool) → is_some (cond b (Some x) (find p xs)) ≡ true → (is_some (find p xs) ≡ true → is_some (find p (xs ++ ys)) ≡ true) → is_some (cond b (Some x) (find p (xs ++ ys))) ≡ true
    go true f h = refl
    go false f h = h f

more_rules : (rules more : List Rule) (label : Option (List ℕ)) → is_some (rule_for rules label) ≡ true → is_some (rule_for (rules ++ more) label) ≡ true
more_rules rules more None e = absurd (cc)
more_rules rules more (Some label) e = found_longer (λ r. bytes_eq r.label label) rules more e

rule_added : (w : Up) (p : Found Policy) (r : Rule) → PolicyAt w p → PoliciesStay w (with_policy w p.at (with_rule p.item r))
rule_added w p r a = record { kinds = λ k l. kind k (set_cases w.policies p.at k (with_rule p.item r) no_policy); classes = λ k l s h. has k s h (set_cases w.policies p.at k (with_rule p.item r) no_policy) }
  where
    new : ℕ → Policy
    new k = slice_index_or (slice_set w.policies p.at (with_rule p.item r)) k no_policy

    old : (k : ℕ) → k ≡ p.at → policy_at w k ≡ p.item
    old k e = ap (policy_at w) e ∙ a.at

    kind : (k : ℕ) → (new k ≡ policy_at w k) ⊎ ((k ≡ p.at) × (new k ≡ with_rule p.item r)) → (new k).kind ≡ (policy_at w k).kind
    kind k (inl e) = ap (λ y. y.kind) e
    kind k (inr (d, e)) = ap (λ y. y.kind) e ∙ ap (λ y. y.kind) (sym (old k d))

    has : (k : ℕ) (s : Snapshot) → has_class (policy_at w k) s ≡ true → (new k ≡ policy_at w k) ⊎ ((k ≡ p.at) × (new k ≡ with_rule p.item r)) → has_class (new k) s ≡ true
    has k s h (inl e) = subst (λ y. has_class y s ≡ true) (sym e) h
    has k s h (inr (d, e)) = subst (λ y. has_class y s ≡ true) (sym e) (more_classes p.item (with_rule p.item r) refl (more_rules p.item.rules (r ∷ [])) s (subst (λ y. has_class y s ≡ true) (old k d) h))

policy_pushed : (w : Up) (p : Policy) → PoliciesStay w (with_new_policy w p)
policy_pushed w p = record {
  kinds = λ k l. ap (λ y. y.kind) (push_within w.policies p no_policy k l);
  classes = λ k l s h. subst (λ y. has_class y s ≡ true) (sym (push_within w.policies p no_policy k l)) h;
}

pub aside_policies : (w u : Up) → Aside w u → PoliciesStay w u
aside_policies w u nothing = same_policies w w refl
aside_policies w u (clock time) = same_policies w _ refl
aside_policies w u (new_policy p) = policy_pushed w p
aside_policies w u (rule p a r) = rule_added w p r a
aside_policies w u (creates path disk kind logical physical) = same_policies w _ refl
aside_policies w u (writes v a block fill) = same_policies w _ refl
aside_policies w u (drops v a t free) = same_policies w _ refl
aside_policies w u (points v a) = same_policies w _ refl
aside_policies w u (breaks v a dp some r is none) = same_policies w _ refl
aside_policies w u (snaps v a p is name label) = same_policies w _ refl
