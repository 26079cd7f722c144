-- The classes of a vault's snapshots are their labels that have rules.
use Rattle.std.proofs.Common.{◌≡◌, ℕ, ◌+◌, ◌||◌, Bool, true, false, cond, List, [], ◌∷◌, Option, Some, None, is_some, refl, ap, sym, ◌∙◌}
use Rattle.std.proofs.lemmas.Bool.{false_from_ne_true}
use Rattle.std.proofs.lemmas.List.Sums.{sum_by-cons}
use Rattle.std.proofs.lemmas.Slice.Eq.{bytes_eq-Decides}
use Rattle.std.specs.Option.{option_eq}
use Rattle.std.specs.Str.{bytes_eq}
use Rattle.sm_base.specs.declared.numbers.Ident.{Ident}
use Rattle.sm_base.specs.declared.numbers.PolicyKind.{PolicyKind}
use Rattle.sm_base.specs.declared.numbers.PolicyKind.TheVariants.{AsyncMirror, Vault}
use Rattle.sm_defs.specs.Volume.{Snapshot}
use Rattle.sm_defs.specs.Relationship.{Rule, Policy, is_mirror, rule_for}
use Rattle.sm_defs.specs.Classes.{ruled, class_by, class_of, has_class, classes}
use Rattle.sm_defs.specs.Retention.{label_of, labels, labelled, keeps, keeps_by_rule, retained}

-- under a vault
pub vault_class : (p : Policy) (s : Snapshot) → is_mirror p.kind ≡ false → class_of p s ≡ ruled p.rules s.label
vault_class p s e = go p.kind e
  where
    go : (k : PolicyKind) → is_mirror k ≡ false → class_by k p.rules s.label s.maker ≡ ruled p.rules s.label
    go AsyncMirror e = absurd (cc)
    go Vault e = refl

pub ruled_some : (rules : List Rule) (label : Option (List ℕ)) → is_some (ruled rules label) ≡ is_some (rule_for rules label)
ruled_some rules None = refl
ruled_some rules (Some label) = go (rule_for rules (Some label))
  where
    go : (o : Option Rule) → is_some (cond (is_some o) (Some label) None) ≡ is_some o
    go None = refl
    go (Some rule) = refl

-- it has a class exactly where its label has a rule
pub vault_has_class : (p : Policy) (s : Snapshot) → is_mirror p.kind ≡ false → has_class p s ≡ is_some (rule_for p.rules s.label)
vault_has_class p s e = ap is_some (vault_class p s e) ∙ ruled_some p.rules s.label

-- and its class has that rule
pub ruled_rule : (rules : List Rule) (label : Option (List ℕ)) → rule_for rules (ruled rules label) ≡ rule_for rules label
ruled_rule rules label = go (rule_for rules label) refl
  where
    go : (o : Option Rule) → rule_for rules label ≡ o → rule_for rules (cond (is_some o) label None) ≡ o
    go None e = refl
    go (Some rule) e = e

pub vault_rule : (p : Policy) (s : Snapshot) → is_mirror p.kind ≡ false → rule_for p.rules (class_of p s) ≡ rule_for p.rules s.label
vault_rule p s e = ap (rule_for p.rules) (vault_class p s e) ∙ ruled_rule p.rules s.label

-- under every policy one more rule takes no class away
more_somewhere : (rules more : List Rule) → ((label : Option (List ℕ)) → is_some (rule_for rules label) ≡ true → is_some (rule_for more label) ≡ true) → (k : PolicyKind) (s : Snapshot) →
    is_some (class_by k rules s.label s.maker) ≡ true → is_some (class_by k more s.label s.maker) ≡ true
more_somewhere rules more h AsyncMirror s e = refl
more_somewhere rules more h Vault s e = ruled_some more s.label ∙ h s.label (sym (ruled_some rules s.label) ∙ e)

pub more_classes : (p q : Policy) → q.kind ≡ p.kind → ((label : Option (List ℕ)) → is_some (rule_for p.rules label) ≡ true → is_some (rule_for q.rules label) ≡ true) → (s : Snapshot) → has_class p s ≡ true → has_class q s ≡ true
more_classes p q k h s e = ap (λ x. is_some (class_by x q.rules s.label s.maker)) k ∙ more_somewhere p.rules q.rules h p.kind s e

-- ---- what is kept by labels is kept by classes

-- a label with a rule is a class of the same snapshots
same_test : (rules : List Rule) (m : Option (List ℕ)) (label : List ℕ) (rule : Rule) → rule_for rules (Some label) ≡ Some rule → option_eq bytes_eq (ruled rules m) (Some label) ≡ option_eq bytes_eq m (Some label)
same_test rules None label rule e = refl
same_test rules (Some m) label rule e = go (rule_for rules (Some m)) refl
  where
    go : (o : Option Rule) → rule_for rules (Some m) ≡ o → option_eq bytes_eq (cond (is_some o) (Some m) None) (Some label) ≡ bytes_eq m label
    go (Some r) f = refl
    go None f = sym (false_from_ne_true (bytes_eq m label) (λ t. let same : m ≡ label = (bytes_eq-Decides m label).0 t in
        let none : Some rule ≡ None = sym e ∙ (ap (λ l. rule_for rules (Some l)) (sym same) ∙ f) in absurd (cc)))

same_count : (rules : List Rule) (c : Snapshot → Option (List ℕ)) → ((s : Snapshot) → c s ≡ ruled rules s.label) → (label : List ℕ) (rule : Rule) → rule_for rules (Some label) ≡ Some rule → (ss : List Snapshot) →
    labelled (Some label) (classes c ss) ≡ labelled (Some label) (labels ss)
same_count rules c h label rule e [] = refl
same_count rules c h label rule e (s ∷ ss) =
    let test : Option (List ℕ) → ℕ = λ o. cond (option_eq bytes_eq o (Some label)) 1 0 in
    sum_by-cons test (c s) (classes c ss) ∙ (ap (λ n. test (c s) + n) (same_count rules c h label rule e ss)
    ∙ (ap (λ b. cond b 1 0 + labelled (Some label) (labels ss)) (ap (λ o. option_eq bytes_eq o (Some label)) (h s) ∙ same_test rules s.label label rule e) ∙ sym (sum_by-cons test s.label (labels ss))))

same_by_rule : (rules : List Rule) (c : Snapshot → Option (List ℕ)) → ((s : Snapshot) → c s ≡ ruled rules s.label) → (kept : List Snapshot) (label : Option (List ℕ)) →
    keeps_by_rule (rule_for rules (ruled rules label)) (labelled (ruled rules label) (classes c kept)) ≡ keeps_by_rule (rule_for rules label) (labelled label (labels kept))
same_by_rule rules c h kept None = refl
same_by_rule rules c h kept (Some label) = go (rule_for rules (Some label)) refl
  where
    go : (o : Option Rule) → rule_for rules (Some label) ≡ o →
        keeps_by_rule (rule_for rules (cond (is_some o) (Some label) None)) (labelled (cond (is_some o) (Some label) None) (classes c kept)) ≡ keeps_by_rule o (labelled (Some label) (labels kept))
    go None e = refl
    go (Some rule) e = ap (λ o. keeps_by_rule o (labelled (Some label) (classes c kept))) e ∙ ap (keeps_by_rule (Some rule)) (same_count rules c h label rule e kept)

pub kept_by_labels : (rules : List Rule) (c : Snapshot → Option (List ℕ)) (needed : Ident → Bool) → ((s : Snapshot) → c s ≡ ruled rules s.label) → (ss : List Snapshot) → retained rules c needed ss ≡ retained rules label_of needed ss
kept_by_labels rules c needed h [] = refl
kept_by_labels rules c needed h (s ∷ newer) =
    let same = kept_by_labels rules c needed h newer in
    let test : keeps rules c needed s (retained rules c needed newer) ≡ keeps rules label_of needed s (retained rules label_of needed newer) =
    ap (λ kept. keeps rules c needed s kept) same ∙ (ap (λ o. needed s.ident || keeps_by_rule (rule_for rules o) (labelled o (classes c (retained rules label_of needed newer)))) (h s)
    ∙ ap (λ b. needed s.ident || b) (same_by_rule rules c h (retained rules label_of needed newer) s.label)) in
    ap (λ b. cond b (s ∷ retained rules c needed newer) (retained rules c needed newer)) test ∙ ap (λ kept. cond (keeps rules label_of needed s (retained rules label_of needed newer)) (s ∷ kept) kept) same

-- a vault keeps by its labels
pub vault_keeps : (p : Policy) (needed : Ident → Bool) (ss : List Snapshot) → is_mirror p.kind ≡ false → retained p.rules (class_of p) needed ss ≡ retained p.rules label_of needed ss
vault_keeps p needed ss e = kept_by_labels p.rules (class_of p) needed (λ s. vault_class p s e) ss
