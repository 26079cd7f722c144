-- Every way in which a step ends.
use Rattle.std.proofs.Common.{◌≡◌, Bool, true, false, Option, Some, None, Result, Ok, Err, inl, inr, refl, sym, ◌∙◌, ap, subst}
use Rattle.sm_base.specs.declared.refusal.Reason.{Reason}
use Rattle.sm_defs.specs.Volume.{Volume}
use Rattle.sm_disk.specs.Disk.{DiskState}
use Rattle.sm_disk.proofs.Moments.{begun}
use Rattle.volume_store.specs.declared.faults.VolumeFault.{VolumeFault}
use Rattle.volume_store.specs.declared.faults.VolumeFault.TheVariants as volume
use Rattle.volume_store.specs.Refusals.{Refuses}
use Rattle.sm_volume.specs.Mounted.{Mounted}
use Rattle.sm_volume.specs.Shown.{KeepsBlocks, NoBlock, IsLikeIn}
use Rattle.sm_volume.specs.Commits.{Commits, BeforeOrAfter}
use Rattle.sm_transfer.specs.declared.fault.StepFault.TheVariants.{Stopped, DiskFault, NoMemory}
use Rattle.sm_publish.specs.Committing.{StepsTo, committed, answered}

same_blocks : (s : DiskState) → KeepsBlocks NoBlock s s
same_blocks s = record {
  seen = λ n one stays. refl;
  images = λ c may. (c, may, λ n one stays. refl);
  any_moment = begun s (IsLikeIn NoBlock s);
}

module _ {D A : Type 0} (state : D → DiskState) (commits : Bool) (reason : Option Reason) (answer : A) (next : Volume) where
  pub no_memory : (old : Mounted D) → StepsTo state commits reason answer next (Err NoMemory) old old
  no_memory old = record {
    done = tt;
    stopped = λ r e. absurd (cc);
    failed = λ v e. absurd (cc);
    memory = λ e. refl;
    any_moment = begun (state old.disk) (BeforeOrAfter old next);
    blocks = same_blocks (state old.disk);
  }

  pub is_stopped : (old : Mounted D) (r : Reason) → reason ≡ Some r → StepsTo state commits reason answer next (Err (Stopped r)) old old
  is_stopped old r is = record {
    done = tt;
    stopped = λ q e. (is ∙ ap Some (cc), refl);
    failed = λ v e. absurd (cc);
    memory = λ e. absurd (cc);
    any_moment = begun (state old.disk) (BeforeOrAfter old next);
    blocks = same_blocks (state old.disk);
  }

  pub nothing_due : (old : Mounted D) → reason ≡ None → commits ≡ false → StepsTo state commits reason answer next (Ok answer) old old
  nothing_due old allowed due = record {
    done = (allowed, refl, subst (λ (b : Bool). old ≡ committed b old next old.disk) (sym due) refl);
    stopped = λ q e. absurd (cc);
    failed = λ v e. absurd (cc);
    memory = λ e. absurd (cc);
    any_moment = begun (state old.disk) (BeforeOrAfter old next);
    blocks = same_blocks (state old.disk);
  }

  module _ (old new : Mounted D) (allowed : reason ≡ None) (due : commits ≡ true) where
    is_done : (x : Unit {0}) → Commits state old next (Ok x) new → StepsTo state commits reason answer next (Ok answer) old new
    is_done x made = record {
      done = (allowed, refl, subst (λ (b : Bool). new ≡ committed b old next new.disk) (sym due) made.ok);
      stopped = λ q e. absurd (cc);
      failed = λ v e. absurd (cc);
      memory = λ e. absurd (cc);
      any_moment = made.any_moment;
      blocks = made.blocks;
    }

    disk_failed : (r : Result (Unit {0}) VolumeFault) → r ≡ Err volume.DiskFault → Commits state old next r new → StepsTo state commits reason answer next (Err (DiskFault old.number)) old new
    disk_failed r is made = record {
      done = tt;
      stopped = λ q e. absurd (cc);
      failed = λ v e. record { due = due; allowed = allowed; told = cc; fallen = made.fault is; counted = made.counted is };
      memory = λ e. absurd (cc);
      any_moment = made.any_moment;
      blocks = made.blocks;
    }

    memory_failed : (r : Result (Unit {0}) VolumeFault) → r ≡ Err volume.NoMemory → Commits state old next r new → StepsTo state commits reason answer next (Err NoMemory) old new
    memory_failed r is made = record {
      done = tt;
      stopped = λ q e. absurd (cc);
      failed = λ v e. absurd (cc);
      memory = λ e. made.refused volume.NoMemory is (λ same. absurd (cc));
      any_moment = made.any_moment;
      blocks = made.blocks;
    }

    -- the volume was to commit the next one, and nothing refused it
    pub by_commit : (r : Result (Unit {0}) VolumeFault) → Refuses None r → Commits state old next r new → StepsTo state commits reason answer next (answered old.number answer r) old new
    by_commit (Ok x) allows made = is_done x made
    by_commit (Err f) (inl e) made = subst (λ (r : Result (Unit {0}) VolumeFault). StepsTo state commits reason answer next (answered old.number answer r) old new) (sym e) (disk_failed (Err f) e made)
    by_commit (Err f) (inr e) made = subst (λ (r : Result (Unit {0}) VolumeFault). StepsTo state commits reason answer next (answered old.number answer r) old new) (sym e) (memory_failed (Err f) e made)
