use Rattle.std.proofs.Common.{ℕ, List}
use Rattle.sm_shape.specs.declared.families.CopyKey.{CopyKey}
use Rattle.sm_shape.specs.Firsts.{IsFirstsOf, Agree}
use Rattle.sm_shape.specs.Copies.{same_key, Equal, copies_of}
use Rattle.sm_shape.proofs.CopiesLemmas.{same_key_is, same_key_self, equal_self, equal_both}
use Rattle.std.specs.List.{flat_map}
use Rattle.sm_shape.proofs.TakesSteps.{takes_decides}
use Rattle.sm_shape.proofs.FirstsSteps.{no_firsts, agree_of_firsts}
use Rattle.sm_shape.proofs.FamiliesLemmas.{families_agree_of, of_families_agree}
use Rattle.sm_shape.proofs.families.families_agree.Goals as goal

pub returns : goal.returns
returns c =
    let w = c.args.world.now in
    let all = flat_map copies_of w.volumes.items in
    let takes = rw c.deref.ensures.value at c.in_ok-agree.ensures in
    let test = takes_decides (IsFirstsOf CopyKey (List ℕ) same_key Equal) (Agree CopyKey (List ℕ) Equal) c.new-firsts.result c.take_all.new.firsts all c.in_ok-agree.agree
    (no_firsts CopyKey (List ℕ) same_key Equal same_key_is same_key_self equal_self equal_both c.new-firsts.result c.new-firsts.ensures.empty)
    (agree_of_firsts CopyKey (List ℕ) same_key Equal same_key_is same_key_self equal_self equal_both c.take_all.new.firsts all) takes in
    (λ e. families_agree_of w (test.0 e), λ all. test.1 (of_families_agree w all))
