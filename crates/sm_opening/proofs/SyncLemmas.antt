-- Disks onto whose medium what was written is put, one after the other.
use Rattle.std.proofs.Common.{◌≡◌, ℕ, ◌+◌, ◌<◌, List, get_or, Result, Ok, Err, Some, slice_get, sym, ap, subst, ◌∙◌, inl, inr, arith}
use Rattle.std.specs.Prelude.{OnOk, OnErr, ◌==◌, ◌&&◌, not, nat_lt, take, true}
use Rattle.std.specs.List.{list_any}
use Rattle.std.proofs.lemmas.Bool.{cases_lt, and_parts}
use Rattle.std.proofs.lemmas.Bool.Decides.{nat_tests}
use Rattle.std.proofs.lemmas.Option.{same_Some, slice_get_within, slice_get-get_or}
use Rattle.sm_disk.specs.Image.{Image}
use Rattle.sm_disk.specs.Disk.{DiskState, Steps, IsSynced, IsCounted}
use Rattle.sm_disk.proofs.Moments.{at_end}
use Rattle.sm_disk.proofs.Calls.{adds_nothing, counted_within}
use Rattle.sm_base.specs.declared.numbers.DiskNo.{DiskNo}
use Rattle.sm_catroot.specs.declared.placed.Placed.{Placed}
use Rattle.sm_model.specs.declared.world.OpenKind.TheVariants.{Fault}
use Rattle.sm_opening.specs.declared.fault.OpenFault.TheVariants.{Unopened}
use Rattle.sm_opening.specs.Looked.{EachMoves, OneMoves, IsKeptOn, IsAt, IsFaultCounted}
use Rattle.sm_opening.specs.Finding.{lies_apart, LieApart}
use Rattle.sm_opening.specs.Syncing.{SyncsDisk}
use Rattle.sm_opening.proofs.LookLemmas.{one_kept, there_now, stays_at}

pub sync_kept : (s e : DiskState) → e.seen ≡ s.seen → ((c : Image) → e.may_leave c → s.may_leave c) → Steps s e → IsKeptOn s e
sync_kept s e seen images step = record { seen = seen; goes = adds_nothing s e s.may_leave step images }

pub kept_synced : (s e : DiskState) → IsKeptOn s e → IsSynced s → IsSynced e
kept_synced s e kept synced c may = synced c (at_end s e s.may_leave kept.goes (λ d now. now) c may) ∙ sym kept.seen

below_count : (n : ℕ) (before : List Placed) (p : Placed) → lies_apart n before p ≡ true → p.disk.0 < n
below_count n before p e =
    let a = and_parts (not (p.disk.0 == 0)) (nat_lt p.disk.0 n && not (list_any (λ (q : Placed). q.disk.0 == p.disk.0) before)) e in
    let b = and_parts (nat_lt p.disk.0 n) (not (list_any (λ (q : Placed). q.disk.0 == p.disk.0) before)) a.1 in
    let h = b.0 in grind (arith, nat_tests)

pub lies_below : (n : ℕ) (ps : List Placed) (k : ℕ) (p : Placed) → LieApart n ps → slice_get ps k ≡ Some p → p.disk.0 < n
lies_below n ps k p apart there = below_count n (take k ps) p (apart k p there)

module _ {D : Type 0} (state : D → DiskState) where
  module _ {A E : Type 0} (result : Result A E) (at : ℕ) (olds news : List D) (m : OneMoves state at (λ s e. SyncsDisk s result e) olds news) where
    pub one_moved : EachMoves state IsKeptOn olds news
    one_moved = one_kept state at olds news (record { old = m.old; new = m.new; was = m.was; is = m.is; did = m.did.kept })

  -- it is on the medium where the call went well
  pub now_synced : {A E : Type 0} (x : A) (result : Result A E) (at : ℕ) (olds news : List D) → OneMoves state at (λ s e. SyncsDisk s result e) olds news → result ≡ Ok x → IsAt state at IsSynced news
  now_synced {A} {E} x result at olds news m is =
      (m.new, there_now state at (λ s e. SyncsDisk s result e) olds news m, subst (λ (r : Result A E). OnOk r (IsSynced (state m.new))) is m.did.synced)

  -- what fails after calls that went well is counted since the first of them
  pub fault_since : {A E : Type 0} (x : E) (result : Result A E) (disk : DiskNo) (olds mids news : List D) → EachMoves state IsKeptOn olds mids → OneMoves state disk.0 (λ s e. SyncsDisk s result e) mids news → result ≡ Err x → IsFaultCounted state olds news (Unopened disk Fault)
  fault_since {A} {E} x result disk olds mids news moved m is =
      let lt = slice_get_within mids disk.0 m.old m.was in
      let first : D = get_or olds disk.0 m.old in
      let there : slice_get olds disk.0 ≡ Some first = slice_get-get_or olds disk.0 m.old (let long = moved.as_long in omega (arith, lt, long)) in
      let before = (moved.each disk.0 first m.old there m.was).goes.faults in
      let counted : IsCounted (state m.old) (state m.new) = subst (λ (r : Result A E). OnErr r (IsCounted (state m.old) (state m.new))) is m.did.counted in
      λ f. (first, m.new, there, there_now state disk.0 (λ s e. SyncsDisk s result e) mids news m, counted_within (state first) (state m.old) (state m.new) (state m.new) before counted (omega arith))

  pub still_synced : (at : ℕ) (olds news : List D) → EachMoves state IsKeptOn olds news → IsAt state at IsSynced olds → IsAt state at IsSynced news
  still_synced at olds news moved is = stays_at state IsKeptOn IsSynced kept_synced at olds news moved is

  -- the first volumes are on the medium, and then one more
  pub one_more : (ps : List Placed) (i : ℕ) (p : Placed) (olds news : List D) → slice_get ps i ≡ Some p → EachMoves state IsKeptOn olds news
      → ((k : ℕ) (q : Placed) → k < i → slice_get ps k ≡ Some q → IsAt state q.disk.0 IsSynced olds) → IsAt state p.disk.0 IsSynced news
      → (k : ℕ) (q : Placed) → k < i + 1 → slice_get ps k ≡ Some q → IsAt state q.disk.0 IsSynced news
  one_more ps i p olds news is moved before now k q lt there = elim (cases_lt k i) [
    | inl less ↦ still_synced q.disk.0 olds news moved (before k q less there)
    | inr from ↦
        let same : k ≡ i = omega (arith, lt, from) in
        let p_is : p ≡ q = same_Some p q (sym is ∙ ap (λ (n : ℕ). slice_get ps n) (sym same) ∙ there) in
        subst (λ (z : Placed). IsAt state z.disk.0 IsSynced news) p_is now
  ]
