-- A call that reads, by its clauses.
use Rattle.std.proofs.Common.{◌≡◌, subst, sym, Option, None, Some, Result, Ok, Err, IfOk, OnOk}
use Rattle.sm_disk.specs.Disk.{DiskState, GoesOn, IsQuiet, IsCounted}
use Rattle.sm_disk.proofs.Moments.{weaker}
use Rattle.volume_store.specs.declared.faults.VolumeFault.{VolumeFault}
use Rattle.volume_store.specs.declared.faults.VolumeFault.TheVariants.{DiskFault}
use Rattle.volume_store.specs.Refusals.{RefusesOrFails}
use Rattle.sm_volume.specs.Mounted.{Mounted, on_disk, fallen}
use Rattle.sm_node.specs.Reading.{Reads}
use Rattle.sm_node.specs.Looking.{RefusesOrFailsWith}

pub refused_with : (o : Option VolumeFault) (r : Result (Unit {0}) VolumeFault) → RefusesOrFails o r → RefusesOrFailsWith o r
refused_with None r h = h
refused_with (Some f) r h = h

pub no_value : {A : Type 0} (r : Result A VolumeFault) (f : VolumeFault) (P : A → Type 0) → r ≡ Err f → IfOk r P
no_value r f P e = subst (λ (x : Result _ VolumeFault). IfOk x P) (sym e) tt

pub reads_by : {D : Type 0} (state : D → DiskState) (m n : Mounted D) (r : Result (Unit {0}) VolumeFault) → OnOk r (n ≡ on_disk m n.disk) → (r ≡ Err DiskFault → n ≡ fallen m n.disk) → (r ≡ Err DiskFault → IsCounted (state m.disk) (state n.disk))
    → ((fault : VolumeFault) → r ≡ Err fault → (fault ≡ DiskFault → ⊥) → n ≡ m) → IsQuiet (state m.disk) (state n.disk) → GoesOn (state m.disk) (state n.disk) (state n.disk).may_leave → Reads state r m n
reads_by state m n (Ok x) ok fault counted unchanged quiet time = record {
  ok = ok;
  fault = fault;
  counted = counted;
  unchanged = unchanged;
  quiet = quiet;
  any_moment = weaker (state m.disk) (state n.disk) (state n.disk).may_leave (state m.disk).may_leave time quiet.no_more;
}
reads_by state m n (Err f) ok fault counted unchanged quiet time = record {
  ok = tt;
  fault = fault;
  counted = counted;
  unchanged = unchanged;
  quiet = quiet;
  any_moment = weaker (state m.disk) (state n.disk) (state n.disk).may_leave (state m.disk).may_leave time quiet.no_more;
}
