use Rattle.sm_model.specs.TagsFit.{TagsFitIn}
use Rattle.sm_shape.specs.Blank.{blank_volume}
use Rattle.sm_shape.proofs.Each.{each_of_images}
use Rattle.sm_shape.proofs.tags.tags_fit.Goals as goal

pub returns : goal.returns
returns c = each_of_images blank_volume TagsFitIn c.args.world.now.volumes.items c.in_ok-fit.fit (rw c.deref.ensures.value at c.in_ok-fit.ensures)
