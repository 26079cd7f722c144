use Rattle.volume_store.proofs.MapLemmas.{used_more}
use Rattle.volume_store.proofs.marks.map_numbers.Goals as goal

pub returns : goal.returns
returns c = used_more c.in_ok-set.set c.mark.new.set c.args.physical c.args.map.now _ c.in_ok-set.ensures c.mark.ensures.long c.mark.ensures.each
