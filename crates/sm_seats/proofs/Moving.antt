-- One seat changes; or one is added and seat 0 commits; or none is asked for anything.
use Rattle.std.proofs.Common.{◌≡◌, ◌≢◌, ◌⊎◌, inl, inr, ℕ, zero, suc, ◌≤◌, List, [], ◌∷◌, ◌++◌, length, Some, refl, sym, ◌∙◌, ap, subst, arith, length-append}
use Rattle.std.specs.Prelude.{slice_get}
use Rattle.std.proofs.lemmas.Option.{slice_get_within}
use Rattle.sm_disk.specs.Image.{Image}
use Rattle.sm_disk.specs.Disk.{DiskState, GoesOn}
use Rattle.sm_disk.proofs.Moments.{begun}
use Rattle.sm_seats.specs.Seats.{World, OneCommits, GoesWhole}
use Rattle.sm_seats.specs.Moves.{OneChanges, OneIsAdded, OneChangesWhole, OneIsAddedWhole, NothingChanges}
use Rattle.sm_seats.proofs.Lists.{one_value, last_or, some_at}
use Rattle.sm_seats.proofs.Gathered.{together}

module _ {D : Type 0} (state : D → DiskState) (changes : ℕ) (before after : World) (olds news : List D) (h : OneChanges state changes before after olds news) where
  stays : (seat : ℕ) (a b : D) → seat ≢ changes → slice_get olds seat ≡ Some a → slice_get news seat ≡ Some b → a ≡ b
  stays seat a b ne e f = one_value (slice_get olds seat) a b e (sym (h.kept seat ne) ∙ f)

  either : Image → Type 0
  either = λ c. before changes c ⊎ after changes c

  moved : (a b : D) → slice_get olds changes ≡ Some a → slice_get news changes ≡ Some b → GoesOn (state a) (state b) (λ c. before changes c ⊎ after changes c)
  moved a b e f =
      subst (λ (z : D). GoesOn (state a) (state z) (λ c. before changes c ⊎ after changes c)) (one_value (slice_get news changes) h.new b h.is f)
      (subst (λ (z : D). GoesOn (state z) (state h.new) (λ c. before changes c ⊎ after changes c)) (one_value (slice_get olds changes) h.old a h.was e) h.goes)

  owed : OneCommits state changes before after olds news
  owed = record {
    is_seat = slice_get_within olds changes h.old h.was;
    as_long = h.as_long;
    start = λ seat a b e f c may. h.start seat a e c may;
    others = λ seat a b e f ne. subst (λ (z : D). GoesOn (state a) (state z) (before seat)) (stays seat a b ne e f) (begun (state a) (before seat));
    one = λ seat a b e f is.
        subst (λ (j : ℕ). GoesOn (state a) (state b) (λ c. before j c ⊎ after j c)) (sym is)
        (moved a b (subst (λ (j : ℕ). slice_get olds j ≡ Some a) is e) (subst (λ (j : ℕ). slice_get news j ≡ Some b) is f));
    ends = λ seat a b e f ne c may. h.rest seat ne c (h.start seat a e c (subst (λ (z : D). (state z).may_leave c) (sym (stays seat a b ne e f)) may));
  }

  pub one_changes : GoesWhole state changes before after olds news
  one_changes = together state changes before after olds news owed

module _ {D : Type 0} (state : D → DiskState) (before after : World) (root later_root : D) (volumes : List D) (blank formatted : D) (h : OneIsAdded state before after root later_root volumes blank formatted) where
  start : (seat : ℕ) (a : D) → slice_get (root ∷ (volumes ++ blank ∷ [])) seat ≡ Some a → (c : Image) → (state a).may_leave c → before seat c
  start zero a e c may = h.start zero a e c may
  start (suc i) a e c may = elim (last_or volumes blank i a e) [
    | inl old ↦ h.start (suc i) a old.1 c may
    | inr new ↦ subst (λ (j : ℕ). before (suc j) c) (sym new.0) (h.nobody c)
  ]

  formats_at : (i : ℕ) (a b : D) → i ≡ length volumes → blank ≡ a → formatted ≡ b → GoesOn (state a) (state b) (before (suc i))
  formats_at i a b last e f =
      subst (λ (j : ℕ). GoesOn (state a) (state b) (before (suc j))) (sym last)
      (subst (λ (z : D). GoesOn (state z) (state b) (before (suc (length volumes)))) e (subst (λ (z : D). GoesOn (state blank) (state z) (before (suc (length volumes)))) f h.formats))

  others : (seat : ℕ) (a b : D) → slice_get (root ∷ (volumes ++ blank ∷ [])) seat ≡ Some a → slice_get (later_root ∷ (volumes ++ formatted ∷ [])) seat ≡ Some b → seat ≢ 0 → GoesOn (state a) (state b) (before seat)
  others zero a b e f ne = absurd (ne refl)
  others (suc i) a b e f ne = elim (last_or volumes blank i a e) [
    | inl old ↦ elim (last_or volumes formatted i b f) [
      | inl same ↦ subst (λ (z : D). GoesOn (state a) (state z) (before (suc i))) (one_value (slice_get volumes i) a b old.1 same.1) (begun (state a) (before (suc i)))
      | inr last ↦ absurd (let l = old.0 in let k = last.0 in omega arith)
    ]
    | inr new ↦ elim (last_or volumes formatted i b f) [
      | inl same ↦ absurd (let l = same.0 in let k = new.0 in omega arith)
      | inr last ↦ formats_at i a b new.0 new.1 last.1
    ]
  ]

  one : (seat : ℕ) (a b : D) → slice_get (root ∷ (volumes ++ blank ∷ [])) seat ≡ Some a → slice_get (later_root ∷ (volumes ++ formatted ∷ [])) seat ≡ Some b → seat ≡ 0
      → GoesOn (state a) (state b) (λ c. before seat c ⊎ after seat c)
  one zero a b e f is_zero =
      let same_a : root ≡ a = cc in
      let same_b : later_root ≡ b = cc in
      subst (λ (z : D). GoesOn (state z) (state b) (λ c. before 0 c ⊎ after 0 c)) same_a (subst (λ (z : D). GoesOn (state root) (state z) (λ c. before 0 c ⊎ after 0 c)) same_b h.commits)
  one (suc i) a b e f is_zero = absurd (cc)

  ends : (seat : ℕ) (a b : D) → slice_get (root ∷ (volumes ++ blank ∷ [])) seat ≡ Some a → slice_get (later_root ∷ (volumes ++ formatted ∷ [])) seat ≡ Some b → seat ≢ 0 → (c : Image) → (state b).may_leave c → after seat c
  ends zero a b e f ne c may = absurd (ne refl)
  ends (suc i) a b e f ne c may = elim (last_or volumes formatted i b f) [
    | inl old ↦ h.rest (suc i) ne (let l = old.0 in omega arith) c (h.start (suc i) b old.1 c may)
    | inr last ↦ subst (λ (j : ℕ). after (suc j) c) (sym last.0) (h.made c (subst (λ (z : D). (state z).may_leave c) (sym last.1) may))
  ]

  same_length : length (later_root ∷ (volumes ++ formatted ∷ [])) ≡ length (root ∷ (volumes ++ blank ∷ []))
  same_length = ap suc (length-append volumes (formatted ∷ []) ∙ sym (length-append volumes (blank ∷ [])))

  pub one_is_added : GoesWhole state 0 before after (root ∷ (volumes ++ blank ∷ [])) (later_root ∷ (volumes ++ formatted ∷ []))
  one_is_added = together state 0 before after (root ∷ (volumes ++ blank ∷ [])) (later_root ∷ (volumes ++ formatted ∷ [])) (record {
    is_seat = omega arith;
    as_long = same_length;
    start = λ seat a b e f c may. start seat a e c may;
    others = others;
    one = one;
    ends = ends;
  })

module _ {D W : Type 0} (state : D → DiskState) (shows : W → World) where
  pub one_changes_whole : OneChangesWhole state shows
  one_changes_whole = λ changes before after olds news h. one_changes state changes (shows before) (shows after) olds news h

  pub one_is_added_whole : OneIsAddedWhole state shows
  one_is_added_whole = λ before after root later_root volumes blank formatted h. one_is_added state (shows before) (shows after) root later_root volumes blank formatted h

  pub nothing_changes : NothingChanges state shows
  nothing_changes = λ commits before after disks start. record {
    images = λ images left. inl (λ seat lt.
        let x = some_at disks seat lt in
        start seat x.0 x.1 (images seat) ((state x.0).only_now (images seat) (left seat x.0 x.0 x.1 x.1)));
    as_long = refl;
    later = λ seat x y e f. subst (λ (z : D). (state x).moment ≤ (state z).moment) (one_value (slice_get disks seat) x y e f) (omega arith);
    told = λ seat x y e f. ap (λ (z : D). (state z).told) (sym (one_value (slice_get disks seat) x y e f));
    counted = λ seat x y e f. subst (λ (z : D). (state x).faults ≤ (state z).faults) (one_value (slice_get disks seat) x y e f) (omega arith);
  }
