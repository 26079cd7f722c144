use Rattle.std.proofs.Common.{◌≡◌, ℕ, ◌/◌, ◌≤◌, ◌<◌}
use Rattle.sm_memdisk.specs.Pages.{image_of, Stands, KeepsPages}
use Rattle.sm_memdisk.proofs.pages.touch.Given as goal

abbrev pub invariant-loop-number : goal.invariant-loop-number
invariant-loop-number l = record {
  image : image_of l.pages.entries ≡ image_of l.initial.pages.entries;
  kept : KeepsPages l.initial.pages.entries l.pages.entries;
  stand : (k : ℕ) → l.at / 4096 ≤ k → k < l.number → Stands l.pages.entries k;
}
