-- What a disk shows of a volume at another place in the world.
use Rattle.std.proofs.Common.{ℕ, List, ap}
use Rattle.sm_base.specs.declared.numbers.VolNo.{VolNo}
use Rattle.sm_defs.specs.Volume.{Volume}
use Rattle.sm_disk.specs.Image.{Image}
use Rattle.sm_volume.specs.Shown.{Shows, ShownAnywhere, placed}

shows_placed : (number : VolNo) (v : Volume) (path : List ℕ) (disk : ℕ) (c : Image) → Shows number v c → Shows number (placed path disk v) c
shows_placed number v path disk c shown = record { root = shown.root; is_root = shown.is_root; numbered = shown.numbered; same = ap (placed path disk) shown.same }

pub anywhere : ShownAnywhere
anywhere = record {
  shows = shows_placed;
  selects = λ selected number v path disk c chosen. record { state = chosen.state; shows = shows_placed number v path disk c chosen.shows };
}
