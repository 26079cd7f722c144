use Rattle.sm_core.proofs.WrittenLemmas.{only_written}
use Rattle.sm_core.proofs.written.only_written_blocks_are_new.Goals as goal

pub returns : goal.returns
returns c = only_written
