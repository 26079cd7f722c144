-- What is kept, needed, dropped, and common.
use Rattle.std.proofs.Common.{arith, ◌≤◌, ◌≡◌, ◌⊎◌, ◌↔◌, ◌<◌, ◌+◌, ◌++◌, ℕ, ◌==◌, ◌||◌, ◌&&◌, nat_lt, not, Bool, true, false, cond, List, [], ◌∷◌, Option, Some, None, refl, ap, sym, subst, ◌∙◌, inl, inr, eq-eqb}
use Rattle.std.proofs.lemmas.Bool.{and_parts, and_from, or_left, or_right, or_cases, not-true, not_from_false, eqb-false, ne_eqb, ltb-true, lt-ltb, both_ways, false_from_ne_true}
use Rattle.std.proofs.lemmas.Option.{same_Some}
use Rattle.std.proofs.lemmas.List.Sums.{sum_by-cons}
use Rattle.std.proofs.lemmas.Slice.Eq.{bytes_eq-Decides}
use Rattle.std.specs.Option.{option_eq}
use Rattle.std.specs.Str.{bytes_eq}
use Rattle.std.specs.List.{find}
use Rattle.sm_base.specs.declared.numbers.Ident.{Ident}
use Rattle.sm_defs.specs.Classes.{classes}
use Rattle.sm_defs.specs.Words.{Among, last_that, or_earlier, is_ident, has_ident}
use Rattle.sm_defs.specs.Volume.{Snapshot, has}
use Rattle.sm_defs.specs.Relationship.{Rule, Policy, Relationship, sends_all, rule_for, legs_of}
use Rattle.sm_defs.specs.World.{Up}
use Rattle.sm_defs.specs.Edges.{mirror_edges, upstream}
use Rattle.sm_defs.specs.Needed.{needed, needed_for, needed_at_source, needed_at_destination}
use Rattle.sm_defs.specs.Thinned.{Thinned, end, kept, left_out}
use Rattle.sm_defs.specs.Retention.{retained, keeps, labelled, keeps_by_rule, is_reached, keep_reached}
use Rattle.sm_defs.specs.Pruning.{is_made, covered, is_pruned, pruned}
use Rattle.sm_defs.specs.Common.{common}
use Rattle.sm_defs.proofs.Members.{among_filter, any_among, filter_among}
use Rattle.sm_defs.proofs.Idents.{is_same}
use Rattle.sm_defs.proofs.Thinned.{cond_thins as thin_go, filter_thins}
use Rattle.laws_transfer.specs.Keeping.{IsReached, IsWanted}
use Rattle.laws_transfer.specs.Dropping.{HasCopy, IsCovered, IsNewestCommon}
use Rattle.laws_transfer.proofs.Lists.{copy_from_has, has_from_copy}

-- ---- retention

pub keeps_needed : (rules : List Rule) (class : Snapshot → Option (List ℕ)) (needs : Ident → Bool) (ss : List Snapshot) (s : Snapshot) → Among ss s → needs s.ident ≡ true → Among (retained rules class needs ss) s
keeps_needed rules class needs [] s m e = absurd m
keeps_needed rules class needs (x ∷ newer) s m e = go (keeps rules class needs x (retained rules class needs newer)) refl m (keeps_needed rules class needs newer s)
  where
    go : (b : Bool) → keeps rules class needs x (retained rules class needs newer) ≡ b → (s ≡ x) ⊎ Among newer s → (Among newer s → needs s.ident ≡ true → Among (retained rules class needs newer) s) →
        Among (cond b (x ∷ retained rules class needs newer) (retained rules class needs newer)) s
    go true f (inl k) ih = inl k
    go true f (inr n) ih = inr (ih n e)
    go false f (inl k) ih = absurd (both_ways (keeps rules class needs x (retained rules class needs newer)) f (or_left (needs x.ident) _ (subst (λ y. needs y.ident ≡ true) k e)))
    go false f (inr n) ih = ih n e

pub thins : (rules : List Rule) (class : Snapshot → Option (List ℕ)) (needs : Ident → Bool) (ss : List Snapshot) → Thinned (retained rules class needs ss) ss
thins rules class needs [] = end
thins rules class needs (x ∷ newer) = thin_go (keeps rules class needs x (retained rules class needs newer)) x (retained rules class needs newer) newer (thins rules class needs newer)

abbrev Begins : List Snapshot → List Snapshot → List Snapshot → Type 0
Begins older all kept_newer = (front : List Snapshot) × Thinned front older × (all ≡ front ++ kept_newer)

begin_go : (b : Bool) (x : Snapshot) (older all kept_newer : List Snapshot) → Begins older all kept_newer → Begins (x ∷ older) (cond b (x ∷ all) all) kept_newer
begin_go true x older all kept_newer (front, h, e) = (x ∷ front, kept h, ap (λ ys. x ∷ ys) e)
begin_go false x older all kept_newer (front, h, e) = (front, left_out h, e)

pub begins : (rules : List Rule) (class : Snapshot → Option (List ℕ)) (needs : Ident → Bool) (older newer : List Snapshot) →
    (front : List Snapshot) × Thinned front older × (retained rules class needs (older ++ newer) ≡ front ++ retained rules class needs newer)
begins rules class needs [] newer = ([], end, refl)
begins rules class needs (x ∷ older) newer =
    begin_go (keeps rules class needs x (retained rules class needs (older ++ newer))) x older (retained rules class needs (older ++ newer)) (retained rules class needs newer) (begins rules class needs older newer)

by_rule : (o : Option Rule) (rule : Rule) → o ≡ Some rule → (rule.preserve ≡ true) ⊎ (0 < rule.keep) → keeps_by_rule o 0 ≡ true
by_rule None rule e h = absurd (cc)
by_rule (Some other) rule e h = subst (λ r. (r.preserve || nat_lt 0 r.keep) ≡ true) (sym (same_Some other rule e)) (go h)
  where
    go : (rule.preserve ≡ true) ⊎ (0 < rule.keep) → (rule.preserve || nat_lt 0 rule.keep) ≡ true
    go (inl k) = or_left rule.preserve (nat_lt 0 rule.keep) k
    go (inr l) = or_right rule.preserve (nat_lt 0 rule.keep) (lt-ltb 0 rule.keep l)

pub newest_stays : (rules : List Rule) (class : Snapshot → Option (List ℕ)) (needs : Ident → Bool) (older : List Snapshot) (s : Snapshot) → IsWanted rules class s →
    (front : List Snapshot) × Thinned front older × (retained rules class needs (older ++ s ∷ []) ≡ front ++ s ∷ [])
newest_stays rules class needs older s (rule, e, h) =
    let k : keeps rules class needs s [] ≡ true = or_right (needs s.ident) (keeps_by_rule (rule_for rules (class s)) 0) (by_rule (rule_for rules (class s)) rule e h) in
    let (front, t, f) = begins rules class needs older (s ∷ []) in
    (front, t, f ∙ ap (λ b. front ++ cond b (s ∷ []) []) k)

label_is : (o : Option (List ℕ)) (label : List ℕ) → option_eq bytes_eq o (Some label) ≡ true → o ≡ Some label
label_is None label e = absurd (cc)
label_is (Some l) label e = ap Some ((bytes_eq-Decides l label).0 e)

room_left : (c : ℕ) (rule : Rule) → rule.preserve ≡ false → (rule.preserve || nat_lt c rule.keep) ≡ true → c < rule.keep
room_left c rule p e = go (or_cases rule.preserve (nat_lt c rule.keep) e)
  where
    go : (rule.preserve ≡ true) ⊎ (nat_lt c rule.keep ≡ true) → c < rule.keep
    go (inl k) = absurd (both_ways rule.preserve p k)
    go (inr k) = ltb-true c rule.keep k

room : (rules : List Rule) (class : Snapshot → Option (List ℕ)) (needs : Ident → Bool) (x : Snapshot) (others : List Snapshot) (rule : Rule) (label : List ℕ) → needs x.ident ≡ false → class x ≡ Some label → rule_for rules (Some label) ≡ Some rule → rule.preserve ≡ false →
    keeps rules class needs x others ≡ true → labelled (Some label) (classes class others) < rule.keep
room rules class needs x others rule label n e r p h = go (or_cases (needs x.ident) (keeps_by_rule (rule_for rules (class x)) (labelled (class x) (classes class others))) h)
  where
    go : (needs x.ident ≡ true) ⊎ (keeps_by_rule (rule_for rules (class x)) (labelled (class x) (classes class others)) ≡ true) → labelled (Some label) (classes class others) < rule.keep
    go (inl k) = absurd (both_ways (needs x.ident) n k)
    go (inr k) =
        let l : keeps_by_rule (rule_for rules (Some label)) (labelled (Some label) (classes class others)) ≡ true = subst (λ o. keeps_by_rule (rule_for rules o) (labelled o (classes class others)) ≡ true) e k in
        room_left (labelled (Some label) (classes class others)) rule p (subst (λ o. keeps_by_rule o (labelled (Some label) (classes class others)) ≡ true) r l)

one_more : (class : Snapshot → Option (List ℕ)) (x : Snapshot) (others : List Snapshot) (label : List ℕ) (b : Bool) (most : ℕ) → option_eq bytes_eq (class x) (Some label) ≡ b → labelled (Some label) (classes class others) ≤ most → (b ≡ true → labelled (Some label) (classes class others) < most) →
    labelled (Some label) (classes class (x ∷ others)) ≤ most
one_more class x others label true most e l h =
    let s : labelled (Some label) (classes class (x ∷ others)) ≡ cond (option_eq bytes_eq (class x) (Some label)) 1 0 + labelled (Some label) (classes class others) = sum_by-cons (λ o. cond (option_eq bytes_eq o (Some label)) 1 0) (class x) (classes class others) in
    let k : labelled (Some label) (classes class (x ∷ others)) ≡ 1 + labelled (Some label) (classes class others) = s ∙ ap (λ c. cond c 1 0 + labelled (Some label) (classes class others)) e in
    let m : labelled (Some label) (classes class others) < most = h refl in
    subst (λ n. n ≤ most) (sym k) (omega arith)
one_more class x others label false most e l h =
    let s : labelled (Some label) (classes class (x ∷ others)) ≡ cond (option_eq bytes_eq (class x) (Some label)) 1 0 + labelled (Some label) (classes class others) = sum_by-cons (λ o. cond (option_eq bytes_eq o (Some label)) 1 0) (class x) (classes class others) in
    let k : labelled (Some label) (classes class (x ∷ others)) ≡ 0 + labelled (Some label) (classes class others) = s ∙ ap (λ c. cond c 1 0 + labelled (Some label) (classes class others)) e in
    subst (λ n. n ≤ most) (sym k) (omega arith)

pub no_more : (rules : List Rule) (class : Snapshot → Option (List ℕ)) (needs : Ident → Bool) (ss : List Snapshot) (rule : Rule) (label : List ℕ) → ((s : Snapshot) → Among ss s → needs s.ident ≡ false) →
    rule_for rules (Some label) ≡ Some rule → rule.preserve ≡ false → labelled (Some label) (classes class (retained rules class needs ss)) ≤ rule.keep
no_more rules class needs [] rule label n r p = omega arith
no_more rules class needs (x ∷ newer) rule label n r p = go (keeps rules class needs x (retained rules class needs newer)) refl (no_more rules class needs newer rule label (λ s m. n s (inr m)) r p)
  where
    go : (b : Bool) → keeps rules class needs x (retained rules class needs newer) ≡ b → labelled (Some label) (classes class (retained rules class needs newer)) ≤ rule.keep →
        labelled (Some label) (classes class (cond b (x ∷ retained rules class needs newer) (retained rules class needs newer))) ≤ rule.keep
    go true h l =
        one_more class x (retained rules class needs newer) label (option_eq bytes_eq (class x) (Some label)) rule.keep refl l
        (λ e. room rules class needs x (retained rules class needs newer) rule label (n x (inl refl)) (label_is (class x) label e) r p h)
    go false h l = l

-- ---- the first of a list

pub record FirstThat {X : Type 0} (p : X → Bool) (xs : List X) (x : X) : Type 0 where
  pub before : List X
  pub behind : List X
  pub are : xs ≡ before ++ x ∷ behind
  pub passes : p x ≡ true
  pub none : (y : X) → Among before y → p y ≡ false

find_go : {X : Type 0} (p : X → Bool) (z : X) (xs : List X) (x : X) (b : Bool) → p z ≡ b → cond b (Some z) (find p xs) ≡ Some x → (find p xs ≡ Some x → FirstThat p xs x) → FirstThat p (z ∷ xs) x
find_go p z xs x true f e ih = let k = same_Some z x e in record { before = []; behind = xs; are = ap (λ y. y ∷ xs) k; passes = subst (λ y. p y ≡ true) k f; none = λ y m. absurd m }
find_go {X} p z xs x false f e ih = let g = ih e in record {
  before = z ∷ g.before;
  behind = g.behind;
  are = ap (λ ys. z ∷ ys) g.are;
  passes = g.passes;
  none = λ y m. first g.before y m g.none;
}
  where
    first : (zs : List X) (y : X) → (y ≡ z) ⊎ Among zs y → ((y : X) → Among zs y → p y ≡ false) → p y ≡ false
    first zs y (inl k) h = subst (λ w. p w ≡ false) (sym k) f
    first zs y (inr m) h = h y m

pub find_first : {X : Type 0} (p : X → Bool) (xs : List X) (x : X) → find p xs ≡ Some x → FirstThat p xs x
find_first p [] x e = absurd (cc)
find_first p (z ∷ xs) x e = find_go p z xs x (p z) refl e (find_first p xs x)

none_go : {X : Type 0} (p : X → Bool) (z : X) (xs : List X) (b : Bool) → p z ≡ b → cond b (Some z) (find p xs) ≡ None → (find p xs ≡ None → (y : X) → Among xs y → p y ≡ false) → (y : X) → Among (z ∷ xs) y → p y ≡ false
none_go p z xs true f e ih y m = absurd (cc)
none_go p z xs false f e ih y (inl k) = subst (λ w. p w ≡ false) (sym k) f
none_go p z xs false f e ih y (inr m) = ih e y m

pub find_none : {X : Type 0} (p : X → Bool) (xs : List X) → find p xs ≡ None → (y : X) → Among xs y → p y ≡ false
find_none p [] e y m = absurd m
find_none p (z ∷ xs) e y m = none_go p z xs (p z) refl e (find_none p xs) y m

pub none_find : {X : Type 0} (p : X → Bool) (xs : List X) → ((y : X) → Among xs y → p y ≡ false) → find p xs ≡ None
none_find p [] h = refl
none_find p (z ∷ xs) h = rw (h z (inl refl)) (none_find p xs (λ y m. h y (inr m)))

reached : (there coming : List (Option (List ℕ))) (rule : Rule) → is_reached there coming rule ≡ true → IsReached there coming rule
reached there coming rule e =
    let p = and_parts rule.preserve (nat_lt rule.keep (labelled (Some rule.label) there + labelled (Some rule.label) coming)) e in
    (p.0, ltb-true rule.keep (labelled (Some rule.label) there + labelled (Some rule.label) coming) p.1)

to_reached : (there coming : List (Option (List ℕ))) (rule : Rule) → IsReached there coming rule → is_reached there coming rule ≡ true
to_reached there coming rule h =
    and_from rule.preserve (nat_lt rule.keep (labelled (Some rule.label) there + labelled (Some rule.label) coming)) h.0
    (lt-ltb rule.keep (labelled (Some rule.label) there + labelled (Some rule.label) coming) h.1)

pub names_first : (rules : List Rule) (there coming : List (Option (List ℕ))) →
    ((rule : Rule) → keep_reached rules there coming ≡ Some rule →
    (before behind : List Rule) × (rules ≡ before ++ rule ∷ behind) × IsReached there coming rule × ((r : Rule) → Among before r → ¬ (IsReached there coming r))) ×
    ((keep_reached rules there coming ≡ None) ↔ ((r : Rule) → Among rules r → ¬ (IsReached there coming r)))
names_first rules there coming = (
  λ rule e. let f = find_first (is_reached there coming) rules rule e in
      (f.before, f.behind, f.are, reached there coming rule f.passes, λ r m h. both_ways (is_reached there coming r) (f.none r m) (to_reached there coming r h)),
  (
    λ e r m h. both_ways (is_reached there coming r) (find_none (is_reached there coming) rules e r m) (to_reached there coming r h),
    λ h. none_find (is_reached there coming) rules (λ r m. false_from_ne_true (is_reached there coming r) (λ e. h r m (reached there coming r e))),
  ),
)

-- ---- needs

three : (a b c : Bool) → a ≡ true → b ≡ true → c ≡ true → (a && b && c) ≡ true
three true true true e f g = refl
three false b c e f g = absurd (cc)
three true false c e f g = absurd (cc)
three true true false e f g = absurd (cc)

base_is : (r : Relationship) (i : Ident) → r.base ≡ Some i → is_ident r.base i ≡ true
base_is r i e = rw e (is_same i i refl)

pub base_at_source : (w : Up) (r : Relationship) (i : Ident) → Among w.relations r → r.base ≡ Some i → r.source_half ≡ true → needed w r.source i ≡ true
base_at_source w r i m e h =
    any_among (needed_for w r.source i) w.relations r m
    (or_left (needed_at_source w r.source i r) (needed_at_destination w r.source i r)
    (three r.source_half (is_ident r.base i || has_ident (legs_of r.transfer) i) ((r.source == r.source) || upstream (mirror_edges w) r.source r.source) h
    (or_left (is_ident r.base i) (has_ident (legs_of r.transfer) i) (base_is r i e))
    (or_left (r.source == r.source) (upstream (mirror_edges w) r.source r.source) (eq-eqb r.source r.source refl))))

pub base_at_destination : (w : Up) (r : Relationship) (i : Ident) → Among w.relations r → r.base ≡ Some i → r.destination_half ≡ true → needed w r.destination i ≡ true
base_at_destination w r i m e h =
    any_among (needed_for w r.destination i) w.relations r m
    (or_right (needed_at_source w r.destination i r) (needed_at_destination w r.destination i r)
    (three r.destination_half (r.destination == r.destination) (is_ident r.base i) h (eq-eqb r.destination r.destination refl) (base_is r i e)))

pub bases_needed : (w : Up) (r : Relationship) (i : Ident) → Among w.relations r → r.base ≡ Some i →
    (r.source_half ≡ true → needed w r.source i ≡ true) × (r.destination_half ≡ true → needed w r.destination i ≡ true)
bases_needed w r i m e = (base_at_source w r i m e, base_at_destination w r i m e)

pub legs_needed : (w : Up) (r : Relationship) (i : Ident) → Among w.relations r → r.source_half ≡ true → has_ident (legs_of r.transfer) i ≡ true → needed w r.source i ≡ true
legs_needed w r i m h e =
    any_among (needed_for w r.source i) w.relations r m
    (or_left (needed_at_source w r.source i r) (needed_at_destination w r.source i r)
    (three r.source_half (is_ident r.base i || has_ident (legs_of r.transfer) i) ((r.source == r.source) || upstream (mirror_edges w) r.source r.source) h
    (or_right (is_ident r.base i) (has_ident (legs_of r.transfer) i) e)
    (or_left (r.source == r.source) (upstream (mirror_edges w) r.source r.source) (eq-eqb r.source r.source refl))))

-- ---- pruning

from_covered : (policy : Policy) (s : Snapshot) → covered policy s ≡ true → IsCovered policy s
from_covered policy s e = go (or_cases (sends_all policy) (is_made s) e)
  where
    go : (sends_all policy ≡ true) ⊎ (is_made s ≡ true) → IsCovered policy s
    go (inl k) = inl k
    go (inr k) = inr (eqb-false s.maker 0 (not-true (s.maker == 0) k))

to_covered : (policy : Policy) (s : Snapshot) → IsCovered policy s → covered policy s ≡ true
to_covered policy s (inl k) = or_left (sends_all policy) (is_made s) k
to_covered policy s (inr k) = or_right (sends_all policy) (is_made s) (not_from_false (s.maker == 0) (ne_eqb s.maker 0 k))

goes_from : (policy : Policy) (source : List Snapshot) (s : Snapshot) → (not (has source s.ident) || not (covered policy s)) ≡ true → ¬ (HasCopy source s.ident) ⊎ ¬ (IsCovered policy s)
goes_from policy source s e = go (or_cases (not (has source s.ident)) (not (covered policy s)) e)
  where
    go : (not (has source s.ident) ≡ true) ⊎ (not (covered policy s) ≡ true) → ¬ (HasCopy source s.ident) ⊎ ¬ (IsCovered policy s)
    go (inl k) = inl (λ h. both_ways (has source s.ident) (not-true (has source s.ident) k) (has_from_copy source s.ident h))
    go (inr k) = inr (λ h. both_ways (covered policy s) (not-true (covered policy s) k) (to_covered policy s h))

goes_to : (policy : Policy) (source : List Snapshot) (s : Snapshot) → ¬ (HasCopy source s.ident) ⊎ ¬ (IsCovered policy s) → (not (has source s.ident) || not (covered policy s)) ≡ true
goes_to policy source s (inl h) =
    or_left (not (has source s.ident)) (not (covered policy s)) (not_from_false (has source s.ident) (false_from_ne_true (has source s.ident) (λ e. h (copy_from_has source s.ident e))))
goes_to policy source s (inr h) =
    or_right (not (has source s.ident)) (not (covered policy s)) (not_from_false (covered policy s) (false_from_ne_true (covered policy s) (λ e. h (from_covered policy s e))))

pub prunes : (policy : Policy) (needs : Ident → Bool) (source destination : List Snapshot) (s : Snapshot) →
    Among (pruned policy needs source destination) s ↔ (Among destination s × (needs s.ident ≡ false) × (¬ (HasCopy source s.ident) ⊎ ¬ (IsCovered policy s)))
prunes policy needs source destination s = (
  λ m. let f = among_filter (is_pruned policy needs source) destination s m in
      let p = and_parts (not (needs s.ident)) (not (has source s.ident) || not (covered policy s)) f.1 in
      (f.0, not-true (needs s.ident) p.0, goes_from policy source s p.1),
  λ h. filter_among (is_pruned policy needs source) destination s h.0
      (and_from (not (needs s.ident)) (not (has source s.ident) || not (covered policy s)) (not_from_false (needs s.ident) h.1) (goes_to policy source s h.2)),
)

pub prune_thins : (policy : Policy) (needs : Ident → Bool) (source destination : List Snapshot) → Thinned (pruned policy needs source destination) destination
prune_thins policy needs source destination = filter_thins (is_pruned policy needs source) destination

-- ---- the last of a list

pub record LastThat {X : Type 0} (p : X → Bool) (xs : List X) (x : X) : Type 0 where
  pub older : List X
  pub newer : List X
  pub are : xs ≡ older ++ x ∷ newer
  pub passes : p x ≡ true
  pub none : (y : X) → Among newer y → p y ≡ false

last_go : {X : Type 0} (p : X → Bool) (z : X) (xs : List X) (x : X) (o : Option X) (b : Bool) → p z ≡ b → last_that p xs ≡ o → or_earlier o b z ≡ Some x →
    (last_that p xs ≡ Some x → LastThat p xs x) → (last_that p xs ≡ None → (y : X) → Among xs y → p y ≡ false) → LastThat p (z ∷ xs) x
last_go p z xs x (Some y) b f l e ih no_more = let g = ih (l ∙ e) in record { older = z ∷ g.older; newer = g.newer; are = ap (λ ys. z ∷ ys) g.are; passes = g.passes; none = g.none }
last_go p z xs x None true f l e ih no_more = let k = same_Some z x e in record { older = []; newer = xs; are = ap (λ y. y ∷ xs) k; passes = subst (λ y. p y ≡ true) k f; none = no_more l }
last_go p z xs x None false f l e ih no_more = absurd (cc)

last_none_go : {X : Type 0} (p : X → Bool) (z : X) (xs : List X) (o : Option X) (b : Bool) → p z ≡ b → last_that p xs ≡ o → or_earlier o b z ≡ None →
    (last_that p xs ≡ None → (y : X) → Among xs y → p y ≡ false) → (y : X) → Among (z ∷ xs) y → p y ≡ false
last_none_go p z xs (Some w) b f l e ih y m = absurd (cc)
last_none_go p z xs None true f l e ih y m = absurd (cc)
last_none_go p z xs None false f l e ih y (inl k) = subst (λ w. p w ≡ false) (sym k) f
last_none_go p z xs None false f l e ih y (inr m) = ih l y m

pub last_none : {X : Type 0} (p : X → Bool) (xs : List X) → last_that p xs ≡ None → (y : X) → Among xs y → p y ≡ false
last_none p [] e y m = absurd m
last_none p (z ∷ xs) e y m = last_none_go p z xs (last_that p xs) (p z) refl refl e (last_none p xs) y m

pub none_last : {X : Type 0} (p : X → Bool) (xs : List X) → ((y : X) → Among xs y → p y ≡ false) → last_that p xs ≡ None
none_last p [] h = refl
none_last p (z ∷ xs) h = let e = none_last p xs (λ y m. h y (inr m)) in rw (e, h z (inl refl)) refl

pub last_is : {X : Type 0} (p : X → Bool) (xs : List X) (x : X) → last_that p xs ≡ Some x → LastThat p xs x
last_is p [] x e = absurd (cc)
last_is p (z ∷ xs) x e = last_go p z xs x (last_that p xs) (p z) refl refl e (last_is p xs x) (last_none p xs)

pub common_newest : (source destination : List Snapshot) (s : Snapshot) → common source destination ≡ Some s → IsNewestCommon source destination s
common_newest source destination s e = let g = last_is (λ t. has source t.ident) destination s e in
    (g.older, g.newer, g.are, copy_from_has source s.ident g.passes, λ t m h. both_ways (has source t.ident) (g.none t m) (has_from_copy source t.ident h))

pub none_common : (source destination : List Snapshot) → (common source destination ≡ None) ↔ ((t : Snapshot) → Among destination t → ¬ (HasCopy source t.ident))
none_common source destination = (
  λ e t m h. both_ways (has source t.ident) (last_none (λ t. has source t.ident) destination e t m) (has_from_copy source t.ident h),
  λ h. none_last (λ t. has source t.ident) destination (λ t m. false_from_ne_true (has source t.ident) (λ e. h t m (copy_from_has source t.ident e))),
)
