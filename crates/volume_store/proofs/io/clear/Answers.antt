use Rattle.std.proofs.Common.{refl}
use Rattle.sm_defs.specs.Image.{hole}
use Rattle.volume_store.proofs.io.clear.Goals as goal

pub returns : goal.returns
unfolding hole
returns c = refl
