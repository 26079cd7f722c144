-- What the disks of a node show at any moment.
use Rattle.std.proofs.Common.{◌≡◌, ℕ, ◌<◌, List, length, sym, ap, subst, Option, arith}
use Rattle.std.specs.Prelude.{unwrap_or}
use Rattle.std.proofs.lemmas.List.{length-map}
use Rattle.std.proofs.lemmas.Option.{slice_get_within}
use Rattle.sm_disk.specs.Disk.{DiskState}
use Rattle.sm_model.specs.World.{World, up}
use Rattle.sm_node.specs.Seats.{disk_number, device}
use Rattle.sm_node.specs.Nodes.{Node, numbers, world_of}
use Rattle.sm_node.specs.Parts.{devices, StandsUp}
use Rattle.sm_node.specs.HandedBack.{AreInPlaces}
use Rattle.sm_seats.proofs.Lists.{some_at}
use Rattle.sm_node.proofs.SeatLemmas.{parts_now}
use Rattle.sm_core.specs.Kept.{ShownIn, Stands, StandsAt, number_at}

pub stands_up : {D : Type 0} (state : D → DiskState) (n : Node D) → StandsUp state n → Stands state (up (world_of n)) n
stands_up state n h = λ images left seat lt.
    let x = some_at (devices n) seat lt in
    parts_now state n h seat x.0 x.1 (images seat) (left seat x.0 x.1)

as_many : {D : Type 0} (n : Node D) → length (devices n) ≡ length (numbers n.seats)
as_many n = let a = length-map n.seats device in let b = length-map n.seats disk_number in omega (arith, a, b)

-- the disks in their places show by numbers what they show by seats
pub stands_at : {D : Type 0} (state : D → DiskState) (w : World) (n : Node D) (disks : List D) → AreInPlaces n disks → Stands state w n → StandsAt state w (numbers n.seats) disks
stands_at state w n disks places stands = λ images left.
    subst (λ (count : ℕ). ShownIn w count (λ seat. images (number_at (numbers n.seats) seat))) (as_many n)
    (stands (λ seat. images (number_at (numbers n.seats) seat)) (λ seat x e.
    let k = some_at (numbers n.seats) seat (subst (λ (count : ℕ). seat < count) (as_many n) (slice_get_within (devices n) seat x e)) in
    let there : number_at (numbers n.seats) seat ≡ k.0 = ap (λ (o : Option ℕ). unwrap_or o 0) k.1 in
    subst (λ (m : ℕ). (state x).may_leave (images m)) (sym there) (left k.0 x (places.seats seat k.0 x k.1 e))))
