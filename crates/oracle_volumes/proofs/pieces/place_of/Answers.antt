use Rattle.std.proofs.Common.{List, ℕ, subst}
use Rattle.std.specs.Str.{bytes_eq}
use Rattle.sm_defs.specs.Volume.{Volume, no_volume}
use Rattle.oracle_world.specs.Finding.{IsFound}
use Rattle.oracle_volumes.proofs.pieces.place_of.Goals as goal

pub returns : goal.returns
returns c = subst (λ (t : List ℕ). IsFound (λ (v : Volume). bytes_eq v.path t) c.args.world.now.volumes no_volume c.volume_named.result) c.text.ensures.text c.volume_named.ensures
