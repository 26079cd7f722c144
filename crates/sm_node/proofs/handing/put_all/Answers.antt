use Rattle.std.proofs.Common.{ℕ, ◌<◌, List, map, Option, inl, inr, refl, sym, ap, subst, ◌∙◌}
use Rattle.sm_node.specs.Seats.{disk_number, device}
use Rattle.sm_node.specs.HandedBack.{all_put}
use Rattle.sm_node.proofs.handing.put_all.Goals as goal

pub put-requires : goal.put-requires
put-requires g c = c.requires 0 (inl refl)

pub put_seats-requires : goal.put_seats-requires
put_seats-requires g c = λ n a. subst (λ (l : ℕ). n < l) (sym c.put.auto.places) (c.requires n (inr a))

pub returns : goal.returns
returns g c = c.put_seats.ensures ∙ ap (λ (xs : List (Option _)). all_put xs (map disk_number c.args.seats.items) (map device c.args.seats.items)) c.put.ensures
