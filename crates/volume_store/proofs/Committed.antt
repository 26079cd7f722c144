-- A commit as its calls tell of it.
use Rattle.std.proofs.Common.{◌≡◌, ◌⊎◌, inl, inr, ◌-◌, false, Some, Result, Err, OnOk, OnErr, sym, ◌∙◌, subst}
use Rattle.sm_disk.specs.Disk.{DiskState, GoesOn, IsCounted}
use Rattle.sm_disk.specs.Spared.{Spares}
use Rattle.sm_slots.specs.Slots.{BehindSlots}
use Rattle.volume_store.specs.declared.faults.VolumeFault.{VolumeFault}
use Rattle.volume_store.specs.declared.faults.VolumeFault.TheVariants.{DiskFault, NoMemory as OutOfMemory}
use Rattle.volume_store.specs.Held.{Held}
use Rattle.volume_store.specs.Maps.{Maps}
use Rattle.volume_store.specs.Commits.{Commits, BeforeOrAfter}

abbrev Answer : Type 0
Answer = Result (Unit {0}) VolumeFault

abbrev Is : Answer → Answer → Type 0
Is x y = x ≡ y

same_err : (f : VolumeFault) → Is (Err f) (Err DiskFault) → f ≡ DiskFault
same_err f e = cc

module _ {D : Type 0} (state : D → DiskState) (old : Held D) (next : Maps) (result : Answer) (new : Held D) where
  pub committed : OnOk result (new ≡ record old { disk = new.disk; maps = next; number = 1 - old.number })
      → GoesOn (state old.disk) (state new.disk) (BeforeOrAfter state old next)
      → Spares BehindSlots (state old.disk) (state new.disk)
      → OnErr result (Is result (Err OutOfMemory) ⊎ Is result (Err DiskFault))
      → (Is result (Err OutOfMemory) → new ≡ old)
      → (Is result (Err DiskFault) → new ≡ record old { disk = new.disk; after = Some next; up = false })
      → (Is result (Err DiskFault) → IsCounted (state old.disk) (state new.disk))
      → Commits state old next result new
  committed ok any_moment spared causes no_memory fault counted = record {
    ok = ok;
    fault = fault;
    counted = counted;
    refused = λ f e other.
        elim (let why : Is result (Err OutOfMemory) ⊎ Is result (Err DiskFault) = subst (λ (r : Answer). OnErr r (Is result (Err OutOfMemory) ⊎ Is result (Err DiskFault))) e causes in why) [
          | inl m ↦ no_memory m
          | inr d ↦ absurd (other (same_err f (sym e ∙ d)))
        ];
    any_moment = any_moment;
    spared = spared;
  }
