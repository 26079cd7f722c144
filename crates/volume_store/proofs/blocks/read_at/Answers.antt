use Rattle.volume_store.specs.Held.{block_at}
use Rattle.volume_store.proofs.blocks.read_at.Goals as goal

pub returns-clause-block : goal.returns-clause-block
unfolding block_at
returns-clause-block g c = rw c.requires.long at c.read.ensures.bytes
