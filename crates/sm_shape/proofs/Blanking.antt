-- A volume put in its place, with each byte read as zero.
use Rattle.std.proofs.Common.{◌≡◌, ℕ, List, sym, ap}
use Rattle.std.proofs.lemmas.List.{map-set}
use Rattle.sm_defs.specs.Volume.{Volume}
use Rattle.sm_defs.specs.World.{Up, with_volume}
use Rattle.sm_shape.specs.Blanked.{zeroed_volume, blanked}

pub with_blanked : (w : Up) (i : ℕ) (v : Volume) → with_volume (blanked w) i (zeroed_volume v) ≡ blanked (with_volume w i v)
with_blanked w i v = ap (λ (vs : List Volume). let u : Up = record w { volumes = vs } in u) (sym (map-set zeroed_volume w.volumes i v))
