-- Which fault an error of decoding tells.
use Rattle.std.specs.Prelude.{◌≡◌, ℕ, Option, None, Some, Result, Ok, Err}
use Rattle.sm_register.specs.declared.fault.DecodeFault.{DecodeFault}
use Rattle.sm_register.specs.declared.fault.DecodeFault.TheVariants.{Bad, NoMemory}

abbrev pub bad_byte : DecodeFault → Option ℕ
bad_byte (Bad at) = Some at
bad_byte NoMemory = None

-- this answer, or want of memory
abbrev pub OrNoMemory : {A : Type 0} → Result A DecodeFault → Result A DecodeFault → Type 0
OrNoMemory (Ok x) answer = Ok x ≡ answer
OrNoMemory (Err (Bad at)) answer = Err (Bad at) ≡ answer
OrNoMemory (Err NoMemory) answer = Unit {0}
