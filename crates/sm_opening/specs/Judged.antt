-- What is wrong with the records together, as a fault of the whole.
use Rattle.std.specs.Prelude.{◌≡◌, ◌≢◌, ◌⊎◌, ℕ}
use Rattle.sm_defs.specs.World.{Up}
use Rattle.sm_model.specs.Crossed.{Crossed}
use Rattle.sm_model.specs.declared.world.OpenKind.{OpenKind}
use Rattle.sm_model.specs.declared.world.OpenKind.TheVariants.{Cross, Shape, Fault}
use Rattle.sm_shape.specs.Crossing.{IsFirstCrossing}
use Rattle.sm_opening.specs.declared.fault.OpenFault.{OpenFault}
use Rattle.sm_opening.specs.declared.fault.OpenFault.TheVariants.{Unopened, NoMemory as OutOfMemory}
use Rattle.sm_opening.specs.OnDisk.{IsShaped}

-- no failure of a disk
abbrev pub IsNoDiskFault : OpenFault → Type 0
IsNoDiskFault (Unopened disk kind) = kind ≢ Fault
IsNoDiskFault OutOfMemory = Unit {0}

-- a fault of the whole counts as one of disk 0
abbrev pub of_whole : OpenKind → OpenFault
of_whole kind = Unopened (record { 0 = 0 }) kind

-- the shape is wrong, or memory is wanting
abbrev pub IsMisshapen : Up → OpenFault → Type 0
IsMisshapen w e = (¬ (IsShaped w) × (e ≡ of_whole Shape)) ⊎ (e ≡ OutOfMemory)

-- the relationships break a rule, or else so is it with the shape
abbrev pub IsWrong : Up → OpenFault → Type 0
IsWrong w e =
    ((place : ℕ) × IsFirstCrossing w place × (e ≡ of_whole Cross))
    ⊎ (Crossed w × ¬ (IsShaped w) × (e ≡ of_whole Shape))
    ⊎ (e ≡ OutOfMemory)

-- a failure of a disk
abbrev pub IsDiskFault : OpenFault → Type 0
IsDiskFault (Unopened disk kind) = kind ≡ Fault
IsDiskFault OutOfMemory = ⊥
