use Rattle.std.proofs.Common.{◌≡◌, ◌≤◌, drop, length}
use Rattle.sm_memdisk.specs.Pages.{image_of, KeepsPages}
use Rattle.sm_memdisk.specs.Log.{filled}
use Rattle.sm_memdisk.proofs.undo.refill.Given as goal

abbrev pub invariant-loop-i : goal.invariant-loop-i
invariant-loop-i l = record {
  within : l.i ≤ length l.log;
  image : image_of l.pages.entries ≡ filled (drop l.i l.log) l.byte (image_of l.initial.pages.entries);
  kept : KeepsPages l.initial.pages.entries l.pages.entries;
}

abbrev pub decreases-loop-i : goal.decreases-loop-i
decreases-loop-i l = l.i
