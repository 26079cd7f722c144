-- The operations as an event's answer tells them, and as a call does.
use Rattle.std.proofs.Common.{◌≡◌, ◌≢◌, ℕ, zero, suc, ◌+◌, ◌*◌, ◌<◌, ◌≤◌, ◌==◌, ◌||◌, ◌&&◌, Bool, true, false, not, cond, List, [], ◌∷◌, length, filter, sym, ap, ◌∙◌, arith, inl, inr}
use Rattle.std.proofs.lemmas.Bool.{cases_eq}
use Rattle.std.proofs.lemmas.Bool.Decides.{nat_tests}
use Rattle.std.proofs.Math.Bool.{or-false}
use Rattle.std.proofs.lemmas.List.Elements.{filter_agree}
use Rattle.sm_base.specs.declared.numbers.Ident.{Ident}
use Rattle.sm_defs.specs.Image.{stands}
use Rattle.sm_base.specs.declared.limits.TheConstants.{MOST_SNAPSHOTS, LAST_NUMBER}
use Rattle.sm_defs.specs.Operations.{snapped, with_snapshot, counted, is_full, removed, IsLeastFree, least_free}
use Rattle.sm_defs.specs.Missing.{first_number}
use Rattle.sm_defs.specs.Volume.{Volume, Snapshot, numbers, tags_of, without}
use Rattle.sm_defs.specs.Words.{same_ident, has_ident}

with_next : Volume → Snapshot → ℕ → Volume
with_next v s n = record (with_snapshot v s) { next = n }

-- a client's snapshot uses its number up
pub snapped_client : (v : Volume) (s : Snapshot) → s.ident.seq ≡ 2 * v.next → snapped v s ≡ counted (with_snapshot v s)
unfolding with_next
snapped_client v s e =
    let same : (s.ident.seq == 2 * v.next) ≡ true = grind (arith, nat_tests) in
    ap (λ b. with_next v s (cond b (suc v.next) v.next)) same

-- one that a transfer made uses none up
pub snapped_made : (v : Volume) (s : Snapshot) (t : ℕ) → s.ident.seq ≡ 2 * t + 1 → snapped v s ≡ with_snapshot v s
unfolding with_next
snapped_made v s t e =
    let odd : s.ident.seq ≢ 2 * v.next = λ same. let both : 2 * t + 1 ≡ 2 * v.next = sym e ∙ same in absurd (omega arith) in
    let other : (s.ident.seq == 2 * v.next) ≡ false = grind (arith, nat_tests) in
    ap (λ b. with_next v s (cond b (suc v.next) v.next)) other

-- a client's next snapshot
pub full_client : (v : Volume) (i : Ident) → i.seq ≡ 2 * v.next → is_full v i ≡ ((length v.snapshots == MOST_SNAPSHOTS) || (v.next == LAST_NUMBER))
full_client v i e =
    let same : (i.seq == 2 * v.next) ≡ true = grind (arith, nat_tests) in
    ap (λ b. (length v.snapshots == MOST_SNAPSHOTS) || (b && (v.next == LAST_NUMBER))) same

-- one snapshot is dropped
same_back : (i j : Ident) → (same_ident j i || false) ≡ same_ident i j
same_back i j =
    let a : (j.origin == i.origin) ≡ (i.origin == j.origin) = grind (arith, nat_tests) in
    let b : (j.seq == i.seq) ≡ (i.seq == j.seq) = grind (arith, nat_tests) in
    rw (a, b) (or-false (same_ident i j))

pub removed_one : (v : Volume) (i : Ident) → removed v (i ∷ []) ≡ without (λ s. same_ident s.ident i) v
removed_one v i = ap (λ (ss : List Snapshot). let w : Volume = record v { snapshots = ss } in w)
    (filter_agree (λ s. not (has_ident (i ∷ []) s.ident)) (λ s. not (same_ident s.ident i)) (λ s. ap not (same_back s.ident i)) v.snapshots)

-- the first of the free numbers is the least
first_passes : (p : ℕ → Bool) (a k n : ℕ) → a ≤ n → n < a + k → p n ≡ true → ((m : ℕ) → a ≤ m → m < n → p m ≡ false) → first_number (filter p (numbers a k)) ≡ n
first_passes p a zero n from below here before = absurd (omega arith)
first_passes p a (suc k) n from below here before = elim (cases_eq a n) [
  | inl same ↦ let b : p a ≡ true = ap p same ∙ here in rw b same
  | inr other ↦
      let b : p a ≡ false = before a (omega arith) (omega arith) in
      rw b (first_passes p (suc a) k n (omega arith) (omega arith) here (λ m f l. before m (omega arith) l))
]

pub least_is : (v : Volume) (n : ℕ) → IsLeastFree v n → n ≡ least_free v
least_is v n is = sym (first_passes (λ t. not (stands t (tags_of v))) 1 v.physical n is.from_one (let w = is.within in omega arith) (ap not is.unused) (λ m f l. ap not (is.least m f l)))
