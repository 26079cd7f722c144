use Rattle.laws_disks.proofs.EmptyDisks.{empty_spelled}
use Rattle.laws_disks.proofs.blank_disks_spell_the_empty_world.Goals as goal

pub returns : goal.returns
returns c sizes size is room = empty_spelled sizes size is room
