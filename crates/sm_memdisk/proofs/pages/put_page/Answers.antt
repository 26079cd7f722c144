use Rattle.std.proofs.Common.{◌≡◌, Some, sym, ◌∙◌, ap, refl}
use Rattle.std.specs.Option.{option_copied_mut}
use Rattle.sm_memdisk.specs.Pages.{page_at}
use Rattle.sm_memdisk.proofs.Paged.{put_image}
use Rattle.sm_memdisk.proofs.pages.put_page.Goals as goal

pub returns-in-Some-clause-image : goal.returns-in-Some-clause-image
returns-in-Some-clause-image c =
    let stands : page_at c.args.pages.now.entries c.args.place ≡ Some c.in-Some.page.now = sym c.get_mut.ensures.value ∙ ap option_copied_mut c.in-Some.is in
    let updates = (c.get_mut.follows.holds c.set.new.self).3 (rw stands refl) in
    put_image c.args.pages.now.entries _ c.args.place c.in-Some.page.now c.set.new.self c.args.bytes.now stands updates.0 c.set.ensures c.requires.within
