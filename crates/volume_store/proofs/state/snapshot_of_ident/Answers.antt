use Rattle.std.proofs.Common.{Bool, sym, subst}
use Rattle.sm_defs.specs.Words.{same_ident}
use Rattle.sm_root.specs.declared.root.RootSnapshot.{RootSnapshot}
use Rattle.volume_store.proofs.FoundLemmas.{Tells, find_tells}
use Rattle.volume_store.proofs.state.snapshot_of_ident.Goals as goal

pub returns-in-Some-clause-some : goal.returns-in-Some-clause-some
returns-in-Some-clause-some c = sym c.in-Some.ensures

pub returns-in-Some-clause-among : goal.returns-in-Some-clause-among
returns-in-Some-clause-among c =
    let p : RootSnapshot → Bool = λ t. same_ident t.ident c.args.ident in
    (subst (Tells p c.args.snapshots.now) (sym c.in-Some.ensures) (find_tells p c.args.snapshots.now)).0

pub returns-in-Some-clause-has : goal.returns-in-Some-clause-has
returns-in-Some-clause-has c =
    let p : RootSnapshot → Bool = λ t. same_ident t.ident c.args.ident in
    (subst (Tells p c.args.snapshots.now) (sym c.in-Some.ensures) (find_tells p c.args.snapshots.now)).1

pub returns-in-None-clause-none : goal.returns-in-None-clause-none
returns-in-None-clause-none c =
    let p : RootSnapshot → Bool = λ t. same_ident t.ident c.args.ident in
    subst (Tells p c.args.snapshots.now) (sym c.in-None.ensures) (find_tells p c.args.snapshots.now)
