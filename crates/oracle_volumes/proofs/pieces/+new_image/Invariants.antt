use Rattle.oracle_volumes.proofs.pieces.+new_image.Given as goal

abbrev pub decreases-new_image : goal.decreases-new_image
decreases-new_image l = l.logical
