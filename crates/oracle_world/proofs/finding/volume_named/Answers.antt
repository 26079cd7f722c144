use Rattle.std.proofs.Common.{◌∙◌, List, ap, position}
use Rattle.std.specs.Str.{bytes_eq}
use Rattle.sm_defs.specs.Volume.{Volume, no_volume}
use Rattle.sm_defs.specs.World.{Up}
use Rattle.oracle_world.proofs.Found.{is_found}
use Rattle.oracle_world.proofs.finding.volume_named.Goals as goal

pub returns : goal.returns
returns c = is_found (λ (v : Volume). bytes_eq v.path c.args.path.now) c.args.world.now.volumes no_volume c.place_of_volume.result (c.place_of_volume.ensures ∙ ap (λ (xs : List Volume). position (λ (v : Volume). bytes_eq v.path c.args.path.now) xs) (c.deref.ensures.value ∙ ap (λ (w : Up). w.volumes) c.world.view_is))
