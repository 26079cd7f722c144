use Rattle.std.proofs.Common.{sym, ◌∙◌, ap}
use Rattle.std.specs.Option.{option_copied}
use Rattle.sm_memdisk.proofs.Paged.{part-page, part-none}
use Rattle.sm_memdisk.proofs.pages.read_page.Goals as goal

pub returns-in-Some : goal.returns-in-Some
returns-in-Some c =
    c.read.ensures ∙ part-page c.args.pages.now.entries c.args.place _ c.in-Some.page.now (sym c.get.ensures.value ∙ ap option_copied c.in-Some.is) c.requires

pub returns-in-None : goal.returns-in-None
returns-in-None c =
    c.fill.ensures.after (λ y is. is)
    ∙ part-none c.args.pages.now.entries c.args.place _ (sym c.get.ensures.value ∙ ap option_copied c.in-None.is) c.requires
