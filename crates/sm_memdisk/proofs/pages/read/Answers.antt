use Rattle.std.proofs.Common.{◌≡◌, ℕ, ◌+◌, ◌-◌, List, ◌++◌, length, ap, sym, ◌∙◌, arith, refl, length-take, length-drop}
use Rattle.std.proofs.lemmas.Slice.{take-put_mid}
use Rattle.std.proofs.lemmas.List.{take_all}
use Rattle.sm_disk.specs.Image.{Image, part}
use Rattle.sm_disk.proofs.Parts.{part-append}
use Rattle.sm_memdisk.specs.Pages.{image_of}
use Rattle.sm_memdisk.proofs.Overs.{length-put_mid}
use Rattle.sm_memdisk.proofs.pages.read.Goals as goal

pub loop-done-preserved : goal.loop-done-preserved
loop-done-preserved c =
    let done = c.loop-done.done in
    let n = c.in_page-n.result in
    let into = c.loop-done.into in
    let new = c.read_page.new.into in
    let image : Image = image_of c.args.pages.now.entries in
    let below = c.loop-done-test.true in
    let within = c.in_page-n.ensures.within in
    let lent : length new ≡ n = omega (arith, c.read_page.auto.into, length-take {A = ℕ}, length-drop {A = ℕ}) in
    let long : length new ≡ done + n - done = omega arith in
    let whole = length-put_mid done (done + n - done) into new (omega arith) long in record {
      within = omega (arith, whole);
      bytes =
          take-put_mid done (done + n - done) into new (done + n) (omega arith) (omega arith)
          ∙ ap (λ (l : List ℕ). l ++ new) c.loop-done.invariant.bytes
          ∙ ap (λ (l : List ℕ). part image c.args.at done ++ l) (c.read_page.ensures ∙ ap (λ (k : ℕ). part image (c.args.at + done) k) (sym (c.read_page.auto.into) ∙ lent))
          ∙ sym (part-append image c.args.at done n);
    }

pub returns : goal.returns
returns c =
    let same : length c.loop-done.into ≡ length c.args.into.now = c.loop-done.auto.into in
    let past = c.loop-done-test.false in
    let within = c.loop-done.invariant.within in
    let all : c.loop-done.done ≡ length c.args.into.now = omega arith in
    sym (take_all c.loop-done.done c.loop-done.into past) ∙ c.loop-done.invariant.bytes
    ∙ ap (λ (n : ℕ). part (image_of c.args.pages.now.entries) c.args.at n) all

pub loop-done-init : goal.loop-done-init
unfolding part
loop-done-init c = record { within = omega arith; bytes = refl }
