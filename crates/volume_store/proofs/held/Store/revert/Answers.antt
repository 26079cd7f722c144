use Rattle.std.proofs.Common.{◌≡◌, Bool, true, cond, Some, None, Result, Err, Option, MatchOption, refl, ◌∙◌, ap, subst}
use Rattle.sm_defs.specs.Words.{same_ident, up_to}
use Rattle.sm_disk.proofs.Moments.{begun}
use Rattle.sm_disk.proofs.SparedLemmas.{spares_begun}
use Rattle.sm_root.specs.declared.root.RootSnapshot.{RootSnapshot}
use Rattle.sm_slots.specs.Slots.{BehindSlots}
use Rattle.volume_store.specs.declared.faults.VolumeFault.{VolumeFault}
use Rattle.volume_store.specs.declared.faults.VolumeFault.TheVariants.{NoSnapshot, DiskFault, NoMemory as OutOfMemory}
use Rattle.volume_store.specs.Held.{Held}
use Rattle.volume_store.specs.Maps.{Maps}
use Rattle.volume_store.specs.Next.{reverted}
use Rattle.volume_store.specs.Refusals.{has_snapshot}
use Rattle.volume_store.specs.Commits.{BeforeOrAfter}
use Rattle.sm_defs.proofs.Searches.{find_any}
use Rattle.volume_store.proofs.held.Store.revert.Goals as goal

abbrev Same : Result Maps VolumeFault → Result Maps VolumeFault → Type 0
Same x y = x ≡ y

abbrev SameUnit : Result (Unit {0}) VolumeFault → Result (Unit {0}) VolumeFault → Type 0
SameUnit x y = x ≡ y

why_err : (f : VolumeFault) → Same (Err f) (Err OutOfMemory) → f ≡ OutOfMemory
why_err f e = cc

same_err : (f : VolumeFault) → SameUnit (Err f) (Err DiskFault) → f ≡ DiskFault
same_err f e = cc

no_fault : (fault : VolumeFault) → fault ≡ OutOfMemory → fault ≡ DiskFault → ⊥
no_fault fault e f = cc

pub returns-in-Err-clause-commits : goal.returns-in-Err-clause-commits
returns-in-Err-clause-commits g c = λ has.
    let v = c.args.self.now in
    let p : RootSnapshot → Bool = λ t. same_ident t.ident c.args.ident in
    let one = find_any p v.maps.root.snapshots has in
    let next = reverted v.maps one.0.map c.args.family (cond c.args.drop_newer (up_to p v.maps.root.snapshots) v.maps.root.snapshots) in
    let inside : has_snapshot c.self.inside.state.root.snapshots c.args.ident ≡ true = ap (λ (w : Held _). has_snapshot w.maps.root.snapshots c.args.ident) c.self.view_is ∙ has in
    let none : cond (has_snapshot c.self.inside.state.root.snapshots c.args.ident) None (Some NoSnapshot) ≡ None = ap (λ b. cond b None (Some NoSnapshot)) inside in
    let why : c.in-Err.fault ≡ OutOfMemory =
    why_err c.in-Err.fault (subst (λ (o : Option VolumeFault). MatchOption o (Same (Err c.in-Err.fault) (Err OutOfMemory)) (λ f. Same (Err c.in-Err.fault) (Err f))) none c.in-Err.ensures.refused) in (
      next,
      (one.0, one.1, refl),
      record {
        ok = tt;
        fault = λ e. absurd (no_fault c.in-Err.fault why (same_err c.in-Err.fault e));
        counted = λ e. absurd (no_fault c.in-Err.fault why (same_err c.in-Err.fault e));
        refused = λ f e other. refl;
        any_moment = begun (g.D.Disk.state v.disk) (BeforeOrAfter g.D.Disk.state v next);
        spared = spares_begun BehindSlots (g.D.Disk.state v.disk);
      },
    )
