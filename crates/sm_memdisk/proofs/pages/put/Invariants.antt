use Rattle.std.proofs.Common.{◌≡◌, ◌-◌, ◌≤◌, length, take}
use Rattle.sm_memdisk.specs.Past.{over}
use Rattle.sm_memdisk.specs.Pages.{image_of, IsTouched, KeepsPages}
use Rattle.sm_memdisk.proofs.pages.put.Given as goal

abbrev pub invariant-loop-done : goal.invariant-loop-done
invariant-loop-done l = record {
  within : l.done ≤ length l.bytes;
  image : image_of l.pages.entries ≡ over (image_of l.initial.pages.entries) l.at (take l.done l.bytes);
  touched : IsTouched l.pages.entries l.at (length l.bytes);
  kept : KeepsPages l.initial.pages.entries l.pages.entries;
}

abbrev pub decreases-loop-done : goal.decreases-loop-done
decreases-loop-done l = length l.bytes - l.done
