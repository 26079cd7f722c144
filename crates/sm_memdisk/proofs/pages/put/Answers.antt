use Rattle.std.proofs.Common.{◌≡◌, ℕ, ◌+◌, ◌-◌, take, drop, ap, ◌∙◌, arith}
use Rattle.sm_disk.specs.Image.{Image}
use Rattle.sm_memdisk.specs.Past.{over}
use Rattle.sm_memdisk.specs.Pages.{image_of}
use Rattle.sm_memdisk.proofs.Overs.{over_more}
use Rattle.sm_memdisk.proofs.pages.put.Goals as goal

pub loop-done-preserved : goal.loop-done-preserved
loop-done-preserved c =
    let done = c.loop-done.done in
    let n = c.in_page-n.result in
    let within = c.in_page-n.ensures.within in
    let below = c.loop-done-test.true in
    let k : done + n - done ≡ n = omega arith in record {
      within = omega arith;
      image =
          c.put_page.ensures.image ∙ ap (λ (m : ℕ). over (image_of c.loop-done.pages.entries) (c.args.at + done) (take m (drop done c.args.bytes.now))) k
          ∙ ap (λ (x : Image). over x (c.args.at + done) (take n (drop done c.args.bytes.now))) c.loop-done.invariant.image
          ∙ over_more _ c.args.at done n c.args.bytes.now (omega arith);
      touched = λ j lt. c.put_page.ensures.kept _ (c.loop-done.invariant.touched j lt);
      kept = λ number is. c.put_page.ensures.kept number (c.loop-done.invariant.kept number is);
    }
