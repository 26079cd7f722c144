-- Volumes whose disks are restarted in turn.
use Rattle.std.proofs.Common.{◌≡◌, ◌≢◌, inl, inr, ℕ, ◌+◌, ◌<◌, List, length, sym, ◌∙◌, ap, subst, Some, Result, Err, arith}
use Rattle.std.specs.Prelude.{slice_get, slice_set, IfErr}
use Rattle.std.proofs.lemmas.List.{length-set}
use Rattle.std.proofs.lemmas.Bool.{cases_eq}
use Rattle.std.proofs.lemmas.Option.{slice_get_within}
use Rattle.sm_base.specs.declared.numbers.DiskNo.{DiskNo}
use Rattle.sm_base.specs.declared.numbers.Side.{Side}
use Rattle.sm_disk.specs.Disk.{DiskState, IsCounted}
use Rattle.sm_node.specs.Seats.{Seated, moved}
use Rattle.sm_node.specs.Turning.{InTurn, OneTurns, IsBack, VolumeFailed}
use Rattle.sm_seats.proofs.Lists.{one_value}
use Rattle.sm_node.proofs.Lists.{get_set_other, get_set_same}

module _ {D : Type 0} (state : D → DiskState) where
  pub one_more : (olds mids news : List (Seated D)) (s t u : Side) (at : ℕ) (result : Result (Unit {0}) (DiskNo × ℕ)) → InTurn state olds s mids t → OneTurns state at t mids result u news → InTurn state olds s news u
  one_more olds mids news s t u at result i h =
      subst (λ (ns : List (Seated D)). InTurn state olds s ns u) (sym (h.is ∙ ap (λ (x : Seated D). slice_set mids at x) h.did.is))
      (subst (λ (v : Side). InTurn state olds s (slice_set mids at (moved h.old h.did.volume)) v) (sym h.did.side) (InTurn.more i h.did.r at h.old h.did.volume h.was h.did.turns))

  module _ (mids news : List (Seated D)) (t u : Side) (at : ℕ) (result : Result (Unit {0}) (DiskNo × ℕ)) (h : OneTurns state at t mids result u news) where
    pub others : (i : ℕ) → i ≢ at → slice_get news i ≡ slice_get mids i
    others i ne = ap (λ (ns : List (Seated D)). slice_get ns i) h.is ∙ get_set_other mids at i h.new ne

    pub itself : slice_get news at ≡ Some (moved h.old h.did.volume)
    itself = ap (λ (ns : List (Seated D)). slice_get ns at) h.is ∙ get_set_same mids at h.new (slice_get_within mids at h.old h.was) ∙ ap (λ (x : Seated D). Some x) h.did.is

    pub as_long : length news ≡ length mids
    as_long = ap length h.is ∙ length-set mids at h.new

    pub backs : ((i : ℕ) (s : Seated D) → i < at → slice_get mids i ≡ Some s → IsBack state s.volume) → IsBack state h.did.volume → (i : ℕ) (s : Seated D) → i < at + 1 → slice_get news i ≡ Some s → IsBack state s.volume
    backs before now i s lt e = elim (cases_eq i at) [
      | inl here ↦ subst (λ (x : Seated D). IsBack state x.volume) (one_value (slice_get news at) (moved h.old h.did.volume) s itself (subst (λ (j : ℕ). slice_get news j ≡ Some s) here e)) now
      | inr ne ↦ before i s (omega (arith, lt, ne)) (sym (others i ne) ∙ e)
    ]

    pub seat_failed : (olds : List (Seated D)) → slice_get mids at ≡ slice_get olds at → (e : DiskNo × ℕ) → result ≡ Err e → VolumeFailed state olds e.0 e.1 news
    seat_failed olds same e is =
        let counted = subst (λ (x : Result (Unit {0}) (DiskNo × ℕ)). IfErr x (λ f. (f.0.0 ≡ h.old.disk) × IsCounted (state h.old.volume.disk) (state h.did.volume.disk) × (f.1 ≡ (state h.did.volume.disk).faults))) is h.did.counted in
        record { at = at; old = h.old; new = h.did.volume; was = sym same ∙ h.was; is = itself; named = counted.0; counted = counted.1; counts = counted.2 }
