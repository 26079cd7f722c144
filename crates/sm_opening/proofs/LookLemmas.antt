-- Disks that are looked at, one after the other.
use Rattle.std.proofs.Common.{◌≡◌, ℕ, zero, suc, List, [], ◌∷◌, length, get_or, Some, slice_get, slice_set, refl, sym, ap, subst, ◌∙◌, inl, inr, arith, IsTrue}
use Rattle.std.proofs.lemmas.List.{length-set}
use Rattle.std.proofs.lemmas.Option.{same_Some, slice_get_within, slice_get-get_or}
use Rattle.sm_defs.proofs.Members.{get_set}
use Rattle.sm_disk.specs.Disk.{DiskState, GoesOn}
use Rattle.sm_disk.proofs.Moments.{begun, joined, weaker, at_end}
use Rattle.sm_disk.proofs.Calls.{quiet_begun, quiet_joined}
use Rattle.sm_opening.specs.Looked.{EachMoves, OneMoves, IsLookedAt, IsKeptOn, IsAt, AllTold}

pub get_set_same : {X : Type 0} (xs : List X) (i : ℕ) (x y : X) → slice_get xs i ≡ Some x → slice_get (slice_set xs i y) i ≡ Some y
get_set_same [] i x y e = absurd (cc)
get_set_same (z ∷ xs) zero x y e = refl
get_set_same (z ∷ xs) (suc i) x y e = get_set_same xs i x y e

goes_joined : (s m e : DiskState) → GoesOn s m s.may_leave → GoesOn m e m.may_leave → GoesOn s e s.may_leave
goes_joined s m e p q = joined s m e s.may_leave p (weaker m e m.may_leave s.may_leave q (λ c left. at_end s m s.may_leave p (λ d now. now) c left))

looked_begun : (s : DiskState) → IsLookedAt s s
looked_begun s = record { quiet = quiet_begun s; goes = begun s s.may_leave }

looked_joined : (s m e : DiskState) → IsLookedAt s m → IsLookedAt m e → IsLookedAt s e
looked_joined s m e p q = record { quiet = quiet_joined s m e p.quiet q.quiet; goes = goes_joined s m e p.goes q.goes }

kept_begun : (s : DiskState) → IsKeptOn s s
kept_begun s = record { seen = refl; goes = begun s s.may_leave }

kept_joined : (s m e : DiskState) → IsKeptOn s m → IsKeptOn m e → IsKeptOn s e
kept_joined s m e p q = record { seen = q.seen ∙ p.seen; goes = goes_joined s m e p.goes q.goes }

pub looked_kept : (s e : DiskState) → IsLookedAt s e → IsKeptOn s e
looked_kept s e p = record { seen = p.quiet.seen; goes = p.goes }

module _ {D : Type 0} (state : D → DiskState) where
  each_begun : (P : DiskState → DiskState → Type 0) → ((s : DiskState) → P s s) → (ds : List D) → EachMoves state P ds ds
  each_begun P same ds = record { as_long = refl; each = λ n x y was is. subst (λ (z : D). P (state x) (state z)) (same_Some x y (sym was ∙ is)) (same (state x)) }

  each_joined : (P : DiskState → DiskState → Type 0) → ((s m e : DiskState) → P s m → P m e → P s e) → (xs ys zs : List D) → EachMoves state P xs ys → EachMoves state P ys zs → EachMoves state P xs zs
  each_joined P after xs ys zs p q = record {
    as_long = q.as_long ∙ p.as_long;
    each = λ n x z was is.
        let y : D = get_or ys n x in
        let there : slice_get ys n ≡ Some y = slice_get-get_or ys n x (let lt = slice_get_within xs n x was in let long = p.as_long in omega (arith, lt, long)) in
        after (state x) (state y) (state z) (p.each n x y was there) (q.each n y z there is);
  }

  each_one : (P : DiskState → DiskState → Type 0) → ((s : DiskState) → P s s) → (at : ℕ) (olds news : List D) → OneMoves state at P olds news → EachMoves state P olds news
  each_one P same at olds news m = record {
    as_long = ap length m.is ∙ length-set olds at m.new;
    each = λ n x y was is. elim (get_set olds at m.new n y (subst (λ (l : List D). slice_get l n ≡ Some y) m.is is)) [
      | inl here ↦
          let before : m.old ≡ x = same_Some m.old x (sym m.was ∙ ap (λ (k : ℕ). slice_get olds k) (sym here.0) ∙ was) in
          subst (λ (z : D). P (state x) (state z)) (sym here.1) (subst (λ (z : D). P (state z) (state m.new)) before m.did)
      | inr other ↦ subst (λ (z : D). P (state x) (state z)) (same_Some x y (sym was ∙ other)) (same (state x))
    ];
  }

  pub unmoved : (ds : List D) → EachMoves state IsLookedAt ds ds
  unmoved = each_begun IsLookedAt looked_begun

  pub looked_then : (xs ys zs : List D) → EachMoves state IsLookedAt xs ys → EachMoves state IsLookedAt ys zs → EachMoves state IsLookedAt xs zs
  looked_then = each_joined IsLookedAt looked_joined

  pub one_looked : (at : ℕ) (olds news : List D) → OneMoves state at IsLookedAt olds news → EachMoves state IsLookedAt olds news
  one_looked = each_one IsLookedAt looked_begun

  pub unkept : (ds : List D) → EachMoves state IsKeptOn ds ds
  unkept = each_begun IsKeptOn kept_begun

  pub kept_then : (xs ys zs : List D) → EachMoves state IsKeptOn xs ys → EachMoves state IsKeptOn ys zs → EachMoves state IsKeptOn xs zs
  kept_then = each_joined IsKeptOn kept_joined

  pub one_kept : (at : ℕ) (olds news : List D) → OneMoves state at IsKeptOn olds news → EachMoves state IsKeptOn olds news
  one_kept = each_one IsKeptOn kept_begun

  pub there_now : (at : ℕ) (P : DiskState → DiskState → Type 0) (olds news : List D) (m : OneMoves state at P olds news) → slice_get news at ≡ Some m.new
  there_now at P olds news m = subst (λ (l : List D). slice_get l at ≡ Some m.new) (sym m.is) (get_set_same olds at m.old m.new m.was)

  -- what holds of the disk of a number goes on to hold
  pub stays_at : (P : DiskState → DiskState → Type 0) (H : DiskState → Type 0) → ((s e : DiskState) → P s e → H s → H e) → (at : ℕ) (olds news : List D) → EachMoves state P olds news → IsAt state at H olds → IsAt state at H news
  stays_at P H keeps at olds news m (x, is, h) =
      let y : D = get_or news at x in
      let there : slice_get news at ≡ Some y = slice_get-get_or news at x (let lt = slice_get_within olds at x is in let long = m.as_long in omega (arith, lt, long)) in
      (y, there, keeps (state x) (state y) (m.each at x y is there) h)

  -- disks that were moved on tell their content as before
  pub told_then : (P : DiskState → DiskState → Type 0) → ((s e : DiskState) → P s e → e.told ≡ s.told) → (olds news : List D) → EachMoves state P olds news → AllTold state olds → AllTold state news
  told_then P same olds news m told n y is =
      let x : D = get_or olds n y in
      let there : slice_get olds n ≡ Some x = slice_get-get_or olds n y (let lt = slice_get_within news n y is in let long = m.as_long in omega (arith, lt, long)) in
      subst IsTrue (sym (same (state x) (state y) (m.each n x y there is))) (told n x there)

  pub only_kept : (olds news : List D) → EachMoves state IsLookedAt olds news → EachMoves state IsKeptOn olds news
  only_kept olds news m = record { as_long = m.as_long; each = λ n x y was is. looked_kept (state x) (state y) (m.each n x y was is) }
