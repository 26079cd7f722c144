-- A snapshot of a vault that has a class is kept where it is the newest.
use Rattle.std.proofs.Common.{◌≡◌, ℕ, Bool, true, List, [], Option, Some, None, is_some, refl, arith, false, cond, ◌∷◌, ◌++◌, sym, ap, subst, ◌∙◌, inl}
use Rattle.std.proofs.lemmas.Bool.{or_right, lt-ltb}
use Rattle.std.specs.Str.{bytes_eq}
use Rattle.sm_base.specs.declared.numbers.Ident.{Ident}
use Rattle.sm_defs.proofs.Classes.{vault_rule, vault_has_class}
use Rattle.sm_defs.specs.Classes.{class_of, has_class}
use Rattle.sm_defs.specs.Words.{Among}
use Rattle.sm_defs.specs.Volume.{Snapshot, has}
use Rattle.sm_defs.specs.Relationship.{Rule, Policy, rule_for, is_mirror}
use Rattle.sm_defs.specs.Retention.{keeps, keeps_by_rule, retained}
use Rattle.sm_defs.specs.Needed.{needed}
use Rattle.sm_defs.specs.World.{Up, policy_at, no_policy}
use Rattle.sm_defs.proofs.Searches.{find_is}
use Rattle.sm_defs.proofs.Members.{among_get_or}
use Rattle.sm_model.specs.Formed.{FormedPolicy}
use Rattle.sm_model.specs.Sound.{SoundUp}
use Rattle.sm_model.specs.Running.{Running, IsRunning}
use Rattle.sm_model.specs.Steps.{arrived}
use Rattle.laws_cases.proofs.Steps.Parties.{relation_stands, snapshot_is}
use Rattle.laws_cases.proofs.Steps.DueCases.{Ahead}
use Rattle.laws_cases.proofs.Needed.Leaving.{last_kept}

rule_among : (rules : List Rule) (label : Option (List ℕ)) (r : Rule) → rule_for rules label ≡ Some r → Among rules r
rule_among rules None r e = absurd (cc)
rule_among rules (Some label) r e = (find_is (λ q. bytes_eq q.label label) rules r e).0

pub keeps_newest : (p : Policy) (needed : Ident → Bool) (s : Snapshot) → FormedPolicy p → is_mirror p.kind ≡ false → has_class p s ≡ true → keeps p.rules (class_of p) needed s [] ≡ true
keeps_newest p needed s f vault h = or_right (needed s.ident) _
    (subst (λ o. keeps_by_rule o 0 ≡ true) (sym (vault_rule p s vault)) (go (rule_for p.rules s.label) refl (sym (vault_has_class p s vault) ∙ h)))
  where
    go : (o : Option Rule) → rule_for p.rules s.label ≡ o → is_some o ≡ true → keeps_by_rule o 0 ≡ true
    go None e k = absurd (cc)
    go (Some r) e k = let l = (f.rules r (rule_among p.rules s.label r e)).some_kept in or_right r.preserve _ (lt-ltb 0 r.keep (omega (arith, l)))

-- a rule keeps at least one, so the leg is kept where it is the newest
leg_kept : (w : Up) (k : ℕ) (x : Running) (leg : Snapshot) → SoundUp w → IsRunning w k x → Ahead x leg → is_mirror x.policy.kind ≡ false → keeps x.policy.rules (class_of x.policy) (needed w x.relation.destination) (arrived x leg) [] ≡ true
leg_kept w k x leg s r a m =
    let p = snapshot_is x.source.snapshots a.i leg a.source in
    let here = relation_stands w k x r in
    let kept = (s.legs_kept x.relation x.transfer here r.transfer (subst (λ y. is_mirror y.policy.kind ≡ false) r.is m)).classes leg
    (subst (Among x.transfer.legs) (sym p.1) (subst (λ is. Among is a.i) (sym a.legs) (inl refl))) (subst (λ y. Among y.snapshots leg) (ap (λ y. y.source) r.is) p.0) in
    keeps_newest x.policy (needed w x.relation.destination) (arrived x leg)
    (subst FormedPolicy (sym (ap (λ y. y.policy) r.is)) (s.formed.policies (policy_at w x.relation.policy) (among_get_or w.policies x.relation.policy no_policy (s.crossed.relations x.relation here).policy)))
    m (subst (λ y. has_class y.policy leg ≡ true) (sym r.is) kept)

pub vault_keeps_leg : (w : Up) (k : ℕ) (x : Running) (leg : Snapshot) (m : Bool) → SoundUp w → IsRunning w k x → Ahead x leg → is_mirror x.policy.kind ≡ false → m ≡ false →
    has (cond m (x.destination.snapshots ++ arrived x leg ∷ []) (retained x.policy.rules (class_of x.policy) (needed w x.relation.destination) (x.destination.snapshots ++ arrived x leg ∷ []))) leg.ident ≡ true
vault_keeps_leg w k x leg true s r a e f = absurd (cc)
vault_keeps_leg w k x leg false s r a e f = last_kept x.policy.rules (class_of x.policy) (needed w x.relation.destination) x.destination.snapshots (arrived x leg) (leg_kept w k x leg s r a e)
