use Rattle.std.proofs.Common.{List, Bool, true, set, ◌∙◌, ap}
use Rattle.volume_store.proofs.MarkLemmas.{none_marked}
use Rattle.volume_store.proofs.marks.no_numbers.Goals as goal

pub returns : goal.returns
returns c = none_marked c.args.physical c.set.new.self (c.set.ensures ∙ ap (λ (s : List Bool). set s 0 true) c.in_ok-set.ensures)
