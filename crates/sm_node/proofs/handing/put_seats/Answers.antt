use Rattle.std.proofs.Common.{ℕ, ◌<◌, List, length, map, Option, Some, inl, inr, refl, sym, ap, subst, ◌∙◌}
use Rattle.std.specs.Prelude.{slice_set}
use Rattle.std.specs.Vec.Iter.{into_iter_items}
use Rattle.sm_defs.specs.Words.{Among}
use Rattle.sm_node.specs.Seats.{Seated, disk_number, device}
use Rattle.sm_node.specs.HandedBack.{all_put}
use Rattle.sm_node.proofs.handing.put_seats.Goals as goal

pub put-requires : goal.put-requires
put-requires g c =
    subst (λ (k : ℕ). k < length c.loop-seat.places) (sym (ap (λ (s : Seated _). s.disk) c.seat.view_is))
    (c.loop-seat.invariant.3 c.in-Some.seat.disk (subst (λ (xs : List (Seated _)). Among (map disk_number xs) c.in-Some.seat.disk) (sym c.in-Some.ensures.steps.0) (inl refl)))

pub loop-seat-preserved : goal.loop-seat-preserved
loop-seat-preserved g c =
    let places = c.loop-seat.places in
    let rest = into_iter_items c.next.new.self in
    let disk_is = ap (λ d. slice_set places c.seat.inside.disk.0 (Some d)) c.into_disk.ensures in
    let seat_is = ap (λ (s : Seated _). slice_set places s.disk (Some s.volume.disk)) c.seat.view_is in (
      tt,
      tt,
      ap (λ (xs : List (Option _)). all_put xs (map disk_number rest) (map device rest)) (c.put.ensures ∙ (disk_is ∙ seat_is))
          ∙ (ap (λ (xs : List (Seated _)). all_put places (map disk_number xs) (map device xs)) (sym c.in-Some.ensures.steps.0) ∙ c.loop-seat.invariant.2),
      λ n a. subst (λ (l : ℕ). n < l) (sym c.put.auto.places)
          (c.loop-seat.invariant.3 n (subst (λ (xs : List (Seated _)). Among (map disk_number xs) n) (sym c.in-Some.ensures.steps.0) (inr a))),
    )
