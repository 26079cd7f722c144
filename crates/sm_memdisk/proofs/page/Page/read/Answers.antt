use Rattle.std.proofs.Common.{◌≡◌, ◌+◌, ◌-◌, ◌≤◌, ℕ, List, length, take, drop, ap, ◌∙◌, arith}
use Rattle.sm_disk.specs.Image.{part}
use Rattle.sm_memdisk.specs.Pages.{page_image}
use Rattle.sm_memdisk.proofs.Copied.{part_of_page}
use Rattle.sm_memdisk.proofs.page.Page.read.Goals as goal

pub returns : goal.returns
returns c =
    let from = c.args.from in
    let n = length c.args.into.now in
    let bytes = c.self.inside.bytes.items in
    let whole : length bytes ≡ 4096 = c.self.invariant in
    let room : from + n ≤ 4096 = c.requires in
    let count : from + n - from ≡ n = omega arith in
    c.copy_from_slice.ensures.after ∙ ap (λ (m : ℕ). take m (drop from c.deref.result.now)) count
    ∙ ap (λ (xs : List ℕ). take n (drop from xs)) c.deref.ensures.value ∙ part_of_page bytes from n (omega (arith, whole, room))
    ∙ ap (λ (xs : List ℕ). part (page_image xs) from n) c.self.view_is
