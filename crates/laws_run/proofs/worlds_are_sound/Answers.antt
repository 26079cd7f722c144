use Rattle.std.specs.Prelude.{[]}
use Rattle.laws_run.proofs.AllWorlds.{worlds_are_sound}
use Rattle.laws_run.proofs.worlds_are_sound.Goals as goal

pub returns : goal.returns
returns c = worlds_are_sound []
