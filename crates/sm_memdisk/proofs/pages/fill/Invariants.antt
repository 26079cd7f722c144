use Rattle.std.proofs.Common.{◌≡◌, ◌-◌, ◌≤◌}
use Rattle.std.specs.Prelude.{replicate}
use Rattle.sm_memdisk.specs.Past.{over}
use Rattle.sm_memdisk.specs.Pages.{image_of, IsTouched, KeepsPages}
use Rattle.sm_memdisk.proofs.pages.fill.Given as goal

abbrev pub invariant-loop-done : goal.invariant-loop-done
invariant-loop-done l = record {
  within : l.done ≤ l.len;
  image : image_of l.pages.entries ≡ over (image_of l.initial.pages.entries) l.at (replicate l.done l.byte);
  touched : IsTouched l.pages.entries l.at l.len;
  kept : KeepsPages l.initial.pages.entries l.pages.entries;
}

abbrev pub decreases-loop-done : goal.decreases-loop-done
decreases-loop-done l = l.len - l.done
