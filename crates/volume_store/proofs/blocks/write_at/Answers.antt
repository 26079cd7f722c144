use Rattle.volume_store.specs.Held.{block_at}
use Rattle.volume_store.proofs.blocks.write_at.Goals as goal

pub returns-clause-block : goal.returns-clause-block
unfolding block_at
returns-clause-block g c = rw c.requires.long at c.write.ensures.bytes

pub returns-clause-range : goal.returns-clause-range
returns-clause-range g c = rw c.requires.long at c.write.ensures.range
