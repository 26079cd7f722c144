use Rattle.std.proofs.Common.{ℕ, List, sym}
use Rattle.sm_shape.specs.declared.families.CopyKey.{CopyKey}
use Rattle.sm_shape.specs.Copies.{same_key, Equal}
use Rattle.sm_shape.proofs.CopiesLemmas.{same_key_is, same_key_self, equal_self, equal_both}
use Rattle.sm_shape.proofs.FirstsSteps.{compared, joined}
use Rattle.sm_shape.proofs.families.take_copy.Goals as goal

pub returns-in-Some : goal.returns-in-Some
returns-in-Some c =
    compared CopyKey (List ℕ) same_key Equal same_key_is same_key_self equal_self equal_both
    c.args.firsts.now c.args.key c.args.map.now c.in-Some.first.now c.same_map.result (sym c.in-Some.ensures.value) c.same_map.ensures

pub returns-in_ok-insert-in-None : goal.returns-in_ok-insert-in-None
returns-in_ok-insert-in-None c =
    joined CopyKey (List ℕ) same_key Equal same_key_is same_key_self equal_self equal_both
    c.args.firsts.now c.insert.new.self c.args.key c.args.map (sym c.in-None.ensures.value) c.in_ok-insert-in-None.ensures.updates.0
