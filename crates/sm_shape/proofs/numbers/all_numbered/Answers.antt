use Rattle.std.proofs.Common.{sym, subst}
use Rattle.sm_model.specs.NumbersStand.{NumberStands}
use Rattle.sm_shape.specs.Blank.{blank, blank_volume, blank_snapshot}
use Rattle.sm_defs.proofs.Members.{among_map}
use Rattle.sm_shape.proofs.FamiliesLemmas.{stands_from}
use Rattle.sm_shape.proofs.numbers.all_numbered.Goals as goal

pub returns : goal.returns
returns c =
    let w = c.args.world.now in
    let test = rw c.deref.ensures.value at c.in_ok-stand.ensures in (
      λ e v s st. let x = stands_from w.volumes.items v s st.0 st.1 in subst (NumberStands (blank w)) (sym x.snapshot_is) (test.0 e x.volume x.among x.snapshot x.inside),
      λ all. test.1 (λ v a s b. all (blank_volume v) (blank_snapshot s) (among_map blank_volume w.volumes.items v a, among_map blank_snapshot v.snapshots.items s b)),
    )
