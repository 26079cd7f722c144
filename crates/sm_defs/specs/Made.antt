-- What belongs to a transfer alone: the name of the snapshot that it makes, and the family that it gives.
use Rattle.std.specs.Prelude.{ℕ, ◌+◌, ◌++◌, List, codes, decimal}
use Rattle.sm_base.specs.declared.limits.TheConstants.{FIRST_MADE_FAMILY}

-- of the transfer of the number, for the relationship of the number
abbrev pub made_name : ℕ → ℕ → List ℕ
made_name relation transfer = codes "snapmirror." ++ decimal relation ++ codes "." ++ decimal transfer

-- no volume and no other transfer has it
abbrev pub family_of_transfer : ℕ → ℕ
family_of_transfer transfer = FIRST_MADE_FAMILY + transfer
