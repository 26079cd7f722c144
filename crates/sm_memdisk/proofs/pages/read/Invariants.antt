use Rattle.std.proofs.Common.{◌≡◌, ◌-◌, ◌≤◌, length, take}
use Rattle.sm_disk.specs.Image.{part}
use Rattle.sm_memdisk.specs.Pages.{image_of}
use Rattle.sm_memdisk.proofs.pages.read.Given as goal

abbrev pub invariant-loop-done : goal.invariant-loop-done
invariant-loop-done l = record {
  within : l.done ≤ length l.into;
  bytes : take l.done l.into ≡ part (image_of l.pages.entries) l.at l.done;
}

abbrev pub decreases-loop-done : goal.decreases-loop-done
decreases-loop-done l = length l.into - l.done
