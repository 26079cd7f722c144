use Rattle.std.proofs.Common.{◌≡◌, ◌+◌, ◌-◌, ◌≤◌, length, ap, ◌∙◌, arith}
use Rattle.sm_memdisk.specs.Past.{over}
use Rattle.sm_memdisk.specs.Pages.{page_image}
use Rattle.sm_memdisk.proofs.Copied.{page_over}
use Rattle.sm_memdisk.proofs.page.put_at.Goals as goal

pub returns-clause-image : goal.returns-clause-image
returns-clause-image c =
    let from = c.args.from in
    let n = length c.args.bytes.now in
    let room : from + n ≤ length c.args.page.now = c.requires in
    let count : from + n - from ≡ n = omega arith in
    page_over c.args.page.now c.copy_from_slice.new.self from (from + n - from) (omega (arith, count, room)) (ap length c.copy_from_slice.ensures.after ∙ omega (arith, count))
    ∙ ap (over (page_image c.args.page.now) from) c.copy_from_slice.ensures.after
