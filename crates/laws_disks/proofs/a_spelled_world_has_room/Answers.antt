use Rattle.laws_disks.proofs.Spelled.{has_room, is_still, as_long}
use Rattle.laws_disks.proofs.a_spelled_world_has_room.Goals as goal

pub returns : goal.returns
returns c = record { room = has_room; still = is_still; sizes = as_long }
