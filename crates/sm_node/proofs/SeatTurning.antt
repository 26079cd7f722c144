-- The volumes of a node, restarted in turn: each stays at its seat and on its disk.
use Rattle.std.proofs.Common.{◌≡◌, inl, inr, ℕ, List, length, map, refl, sym, ◌∙◌, ap, subst, Some}
use Rattle.std.specs.Prelude.{slice_get, slice_set}
use Rattle.std.proofs.lemmas.Bool.{cases_eq}
use Rattle.std.proofs.lemmas.List.{length-set, map-set}
use Rattle.std.proofs.lemmas.Option.{slice_get_within}
use Rattle.sm_base.specs.declared.numbers.Side.{Side}
use Rattle.sm_disk.specs.Disk.{DiskState, GoesOn}
use Rattle.sm_disk.proofs.Moments.{begun, joined as goes_joined, weaker, at_end}
use Rattle.sm_node.specs.Seats.{Seated, disk_number, device, moved}
use Rattle.sm_node.specs.Turning.{none, more}
use Rattle.sm_node.specs.Turning.{InTurn}
use Rattle.sm_seats.proofs.Lists.{one_value}
use Rattle.sm_node.proofs.Lists.{get_set_other, get_set_same, set_again, mapped_to}

module _ {D : Type 0} (state : D → DiskState) where
  pub turn_long : {olds news : List (Seated D)} {s t : Side} → InTurn state olds s news t → length news ≡ length olds
  turn_long none = refl
  turn_long (more {mids = mids} i r at old new was turns) = length-set mids at (moved old new) ∙ turn_long i

  -- each volume stays on its disk
  pub turn_numbers : {olds news : List (Seated D)} {s t : Side} → InTurn state olds s news t → map disk_number news ≡ map disk_number olds
  turn_numbers none = refl
  turn_numbers (more {mids = mids} i r at old new was turns) =
      map-set disk_number mids at (moved old new)
      ∙ set_again (map disk_number mids) at old.disk (mapped_to disk_number mids at old was)
      ∙ turn_numbers i

  -- one disk of those that are restarted in turn
  pub turn_goes : {olds news : List (Seated D)} {s t : Side} → InTurn state olds s news t → (i : ℕ) (x : Seated D) → slice_get olds i ≡ Some x → (y : Seated D) × (slice_get news i ≡ Some y) × GoesOn (state (device x)) (state (device y)) (state (device x)).may_leave
  turn_goes none i x e = (x, e, begun (state (device x)) _)
  turn_goes (more {mids = mids} before r at old new was turns) i x e =
      let m = turn_goes before i x e in
      elim (cases_eq i at) [
        | inl same ↦
            let here : slice_get mids at ≡ Some m.0 = subst (λ (j : ℕ). slice_get mids j ≡ Some m.0) same m.1 in
            let is : old ≡ m.0 = one_value (slice_get mids at) old m.0 was here in
            let goes : GoesOn (state (device m.0)) (state new.disk) (state (device m.0)).may_leave = subst (λ (z : Seated D). GoesOn (state (device z)) (state new.disk) (state (device z)).may_leave) is turns.goes in (
              moved old new,
              subst (λ (j : ℕ). slice_get (slice_set mids at (moved old new)) j ≡ Some (moved old new)) (sym same) (get_set_same mids at (moved old new) (slice_get_within mids at old was)),
              goes_joined (state (device x)) (state (device m.0)) (state new.disk) _ m.2 (weaker (state (device m.0)) (state new.disk) _ _ goes (λ c may. at_end (state (device x)) (state (device m.0)) _ m.2 (λ b now. now) c may)),
            )
        | inr ne ↦ (m.0, get_set_other mids at i (moved old new) ne ∙ m.1, m.2)
      ]
