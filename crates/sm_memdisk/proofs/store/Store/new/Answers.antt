use Rattle.std.proofs.Common.{ap, ◌∙◌}
use Rattle.sm_memdisk.specs.Pages.{Pages, image_of}
use Rattle.sm_memdisk.proofs.Paged.{image-none}
use Rattle.sm_memdisk.proofs.store.Store.new.Goals as goal

pub returns-clause-zeros : goal.returns-clause-zeros
returns-clause-zeros c = λ place. ap (λ (p : Pages). image_of p place) c.new.ensures.empty ∙ image-none place
