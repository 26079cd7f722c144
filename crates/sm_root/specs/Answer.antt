-- Which fault an error of decoding tells.
use Rattle.std.specs.Prelude.{◌≡◌, ℕ, Option, None, Some, Result, Ok, Err}
use Rattle.sm_root.specs.declared.fault.RootFault.{RootFault}
use Rattle.sm_root.specs.declared.fault.RootFault.TheVariants.{Bad, NoMemory}

abbrev pub bad_byte : RootFault → Option ℕ
bad_byte (Bad at) = Some at
bad_byte NoMemory = None

-- this answer, or want of memory
abbrev pub OrNoMemory : {A : Type 0} → Result A RootFault → Result A RootFault → Type 0
OrNoMemory (Ok x) answer = Ok x ≡ answer
OrNoMemory (Err (Bad at)) answer = Err (Bad at) ≡ answer
OrNoMemory (Err NoMemory) answer = Unit {0}
