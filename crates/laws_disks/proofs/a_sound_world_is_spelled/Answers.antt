use Rattle.laws_disks.proofs.OnDisks.{spelled}
use Rattle.laws_disks.proofs.a_sound_world_is_spelled.Goals as goal

pub returns : goal.returns
returns c w sound room still interim = spelled w sound room still interim
