-- Marks of what stays, and the snapshots that they leave.
use Rattle.std.proofs.Common.{◌≡◌, ◌<◌, ◌+◌, ◌-◌, ◌&&◌, ◌||◌, ℕ, suc, Bool, true, false, cond, List, [], ◌∷◌, length, take, drop, get_or, set, Option, refl, sym, subst, ◌∙◌, ap, ap₂, zero-add, arith}
use Rattle.std.specs.List.{count_by, zip}
use Rattle.std.specs.Option.{option_eq}
use Rattle.std.specs.Str.{bytes_eq}
use Rattle.std.proofs.Math.Seq.{drop-cons}
use Rattle.std.proofs.lemmas.List.{drop-set, take_rest}
use Rattle.std.proofs.lemmas.List.Sums.{sum_by-cons}
use Rattle.sm_base.specs.declared.numbers.Ident.{Ident}
use Rattle.sm_defs.specs.Volume.{Snapshot}
use Rattle.sm_defs.specs.Relationship.{Rule, Policy, is_mirror, rule_for}
use Rattle.sm_defs.specs.Classes.{classes, class_of}
use Rattle.sm_defs.specs.Retention.{labelled, keeps_by_rule, retained, labels, label_of}
use Rattle.sm_policy.specs.Marks.{marked, kept_marks, needed_marks, KeepsRetained}
use Rattle.sm_defs.proofs.Classes.{vault_keeps}

-- counting among pairs is counting among the marked
pub count-marked : (label : Option (List ℕ)) (ls : List (Option (List ℕ))) (ks : List Bool) → count_by (λ l. l.1 && option_eq bytes_eq l.0 label) (zip ls ks) ≡ labelled label (marked ks ls)
count-marked label [] [] = refl
count-marked label [] (k ∷ ks) = refl
count-marked label (l ∷ ls) [] = refl
count-marked label (l ∷ ls) (true ∷ ks) =
    sum_by-cons (λ (p : Option (List ℕ) × Bool). cond (p.1 && option_eq bytes_eq p.0 label) 1 0) (l, true) (zip ls ks)
    ∙ (ap (λ n. cond (option_eq bytes_eq l label) 1 0 + n) (count-marked label ls ks) ∙ sym (sum_by-cons (λ o. cond (option_eq bytes_eq o label) 1 0) l (marked ks ls)))
count-marked label (l ∷ ls) (false ∷ ks) =
    sum_by-cons (λ (p : Option (List ℕ) × Bool). cond (p.1 && option_eq bytes_eq p.0 label) 1 0) (l, false) (zip ls ks)
    ∙ (zero-add (count_by (λ p. p.1 && option_eq bytes_eq p.0 label) (zip ls ks)) ∙ count-marked label ls ks)

-- the marks from a place on
marks-drop : (rules : List Rule) (ls : List (Option (List ℕ))) (ns : List Bool) (at : ℕ) (l : Option (List ℕ)) (n : Bool) → at < length ls → at < length ns → l ≡ get_or ls at l → n ≡ get_or ns at false →
    kept_marks rules (drop at ls) (drop at ns) ≡ (n || keeps_by_rule (rule_for rules l) (labelled l (marked (kept_marks rules (drop (suc at) ls) (drop (suc at) ns)) (drop (suc at) ls)))) ∷ kept_marks rules (drop (suc at) ls) (drop (suc at) ns)
marks-drop rules ls ns at l n hl hn el en =
    let dl : drop at ls ≡ l ∷ drop (suc at) ls = drop-cons ls at l hl ∙ ap (λ x. x ∷ drop (suc at) ls) (sym el) in
    let dn : drop at ns ≡ n ∷ drop (suc at) ns = drop-cons ns at false hn ∙ ap (λ x. x ∷ drop (suc at) ns) (sym en) in
    rw (dl, dn) refl

-- a place settled behind those that are: its number of later ones is counted among pairs
pub marks-step : (rules : List Rule) (ls : List (Option (List ℕ))) (ns ks ms : List Bool) (at next newer : ℕ) (l : Option (List ℕ)) (n k : Bool) →
    ms ≡ ks → next ≡ at + 1 → drop next ks ≡ kept_marks rules (drop next ls) (drop next ns) → length ks ≡ length ls → length ls ≡ length ns → at < length ls → l ≡ get_or ls at l → n ≡ get_or ns at false →
    newer ≡ count_by (λ p. p.1 && option_eq bytes_eq p.0 l) (zip (take (length ls - (at + 1)) (drop (at + 1) ls)) (take (length ms - (at + 1)) (drop (at + 1) ms))) → k ≡ (n || keeps_by_rule (rule_for rules l) newer) →
    drop at (set ks at k) ≡ kept_marks rules (drop at ls) (drop at ns)
marks-step rules ls ns ks ms at next newer l n k em e done long same less el en count chosen =
    let is_next : next ≡ suc at = omega arith in
    let one : at + 1 ≡ suc at = omega arith in
    let later : drop (suc at) ks ≡ kept_marks rules (drop (suc at) ls) (drop (suc at) ns) = subst (λ i. drop i ks ≡ kept_marks rules (drop i ls) (drop i ns)) is_next done in
    let counted : newer ≡ labelled l (marked (kept_marks rules (drop (suc at) ls) (drop (suc at) ns)) (drop (suc at) ls)) =
    count ∙ (ap₂ (λ xs ys. count_by (λ p. p.1 && option_eq bytes_eq p.0 l) (zip xs ys)) (take_rest ls (at + 1)) (take_rest ms (at + 1))
    ∙ (count-marked l (drop (at + 1) ls) (drop (at + 1) ms) ∙ (ap (λ x. labelled l (marked (drop (at + 1) x) (drop (at + 1) ls))) em
    ∙ (ap (λ i. labelled l (marked (drop i ks) (drop i ls))) one ∙ ap (λ x. labelled l (marked x (drop (suc at) ls))) later)))) in
    let put : drop at (set ks at k) ≡ k ∷ drop (suc at) ks = drop-set ks at k (omega arith) ∙ ap (λ i. k ∷ drop i ks) one in
    put ∙ (ap (λ ms. k ∷ ms) later ∙ (ap (λ x. x ∷ kept_marks rules (drop (suc at) ls) (drop (suc at) ns)) (chosen ∙ ap (λ m. n || keeps_by_rule (rule_for rules l) m) counted)
    ∙ sym (marks-drop rules ls ns at l n less (omega arith) el en)))

-- a list's classes go with its members
marked-classes : (class : Snapshot → Option (List ℕ)) (ms : List Bool) (ss : List Snapshot) → marked ms (classes class ss) ≡ classes class (marked ms ss)
marked-classes class [] ss = refl
marked-classes class (m ∷ ms) [] = refl
marked-classes class (true ∷ ms) (s ∷ ss) = ap (λ cs. class s ∷ cs) (marked-classes class ms ss)
marked-classes class (false ∷ ms) (s ∷ ss) = marked-classes class ms ss

-- the marks of a list's classes leave what retention leaves of it
pub marked-retained : (rules : List Rule) (class : Snapshot → Option (List ℕ)) (needs : Ident → Bool) (ss : List Snapshot) → marked (kept_marks rules (classes class ss) (needed_marks needs ss)) ss ≡ retained rules class needs ss
marked-retained rules class needs [] = refl
marked-retained rules class needs (s ∷ ss) =
    let ms = kept_marks rules (classes class ss) (needed_marks needs ss) in
    let left : marked ms ss ≡ retained rules class needs ss = marked-retained rules class needs ss in
    let named : marked ms (classes class ss) ≡ classes class (retained rules class needs ss) = marked-classes class ms ss ∙ ap (classes class) left in
    ap (λ kept. cond (needs s.ident || keeps_by_rule (rule_for rules (class s)) (labelled (class s) (marked ms (classes class ss)))) (s ∷ kept) kept) left
    ∙ ap (λ cs. cond (needs s.ident || keeps_by_rule (rule_for rules (class s)) (labelled (class s) cs)) (s ∷ retained rules class needs ss) (retained rules class needs ss)) named

-- marks that are these say what retention leaves
pub kept_marks-retained : (p : Policy) (ls : List (Option (List ℕ))) (needed marks : List Bool) → marks ≡ kept_marks p.rules ls needed → KeepsRetained p ls needed marks
kept_marks-retained p ls needed marks e = record { by_class = leaves; of_vault = leaves_of_vault }
  where
    leaves : (class : Snapshot → Option (List ℕ)) (needs : Ident → Bool) (ss : List Snapshot) → ls ≡ classes class ss → needed ≡ needed_marks needs ss → marked marks ss ≡ retained p.rules class needs ss
    leaves class needs ss el en =
        ap (λ ms. marked ms ss) e ∙ (ap (λ cs. marked (kept_marks p.rules cs needed) ss) el ∙ (ap (λ ns. marked (kept_marks p.rules (classes class ss) ns) ss) en ∙ marked-retained p.rules class needs ss))

    leaves_of_vault : is_mirror p.kind ≡ false → (needs : Ident → Bool) (ss : List Snapshot) → ls ≡ labels ss → needed ≡ needed_marks needs ss → marked marks ss ≡ retained p.rules (class_of p) needs ss
    leaves_of_vault kind needs ss el en = leaves label_of needs ss el en ∙ sym (vault_keeps p needs ss kind)
