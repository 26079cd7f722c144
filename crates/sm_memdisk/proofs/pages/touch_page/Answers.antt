use Rattle.sm_memdisk.proofs.Paged.{blank_image, none_there}
use Rattle.sm_memdisk.proofs.pages.touch_page.Goals as goal

pub returns-in_ok-insert-clause-image : goal.returns-in_ok-insert-clause-image
returns-in_ok-insert-clause-image c =
    blank_image c.args.pages.now.entries c.insert.new.self.entries c.args.number c.in_ok-page.page (none_there _ _ c.contains_key.ensures c.if-not-contains_key.true) c.in_ok-insert.ensures.updates.0 c.in_ok-page.ensures
