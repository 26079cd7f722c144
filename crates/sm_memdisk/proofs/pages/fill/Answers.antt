use Rattle.std.proofs.Common.{ℕ, ◌+◌, List, ap, ◌∙◌, arith, replicate}
use Rattle.sm_disk.specs.Image.{Image}
use Rattle.sm_memdisk.specs.Past.{over}
use Rattle.sm_memdisk.specs.Pages.{image_of}
use Rattle.sm_memdisk.proofs.Overs.{fill_more, take-replicate}
use Rattle.sm_memdisk.proofs.pages.fill.Goals as goal

pub loop-done-preserved : goal.loop-done-preserved
loop-done-preserved c =
    let done = c.loop-done.done in
    let n = c.in_page-n.result in
    let within = c.in_page-n.ensures.within in
    let fits = c.in_page-n.ensures.fits in
    let below = c.loop-done-test.true in record {
      within = omega arith;
      image =
          c.put_page.ensures.image ∙ ap (λ (l : List ℕ). over (image_of c.loop-done.pages.entries) (c.args.at + done) l) (take-replicate c.args.byte n 4096 (omega arith))
          ∙ ap (λ (x : Image). over x (c.args.at + done) (replicate n c.args.byte)) c.loop-done.invariant.image
          ∙ fill_more _ c.args.at done n c.args.byte;
      touched = λ j lt. c.put_page.ensures.kept _ (c.loop-done.invariant.touched j lt);
      kept = λ number is. c.put_page.ensures.kept number (c.loop-done.invariant.kept number is);
    }
