use Rattle.sm_memdisk.proofs.Told.{blank_synced}
use Rattle.sm_memdisk.proofs.disk.MemDisk.new.Goals as goal

pub returns-clause-synced : goal.returns-clause-synced
returns-clause-synced c = blank_synced _ _ c.new.ensures.past
