-- What a record's reader tells.
use Rattle.std.proofs.Common.{◌≡◌, inl, inr, ℕ, List, Vec, Global, Result, Ok, Err, Option, Some, None, refl}
use Rattle.sm_slots.specs.declared.faults.RecordFault.{RecordFault}
use Rattle.sm_slots.specs.declared.faults.RecordFault.TheVariants.{DiskFault, BadLength as TooLong, NoMemory}
use Rattle.sm_slots.specs.Stored.{Stored, Blank, Record, BadLength}
use Rattle.sm_slots.specs.Slots.{stored_of, ComesWhere}

-- each answer but that of a failed disk tells what is spelled
abbrev pub Tells : Result (Option (Vec ℕ Global)) RecordFault → Stored → Type 0
Tells (Ok found) s = s ≡ stored_of found
Tells (Err DiskFault) s = Unit {0}
Tells (Err TooLong) s = s ≡ BadLength
Tells (Err NoMemory) s = (bytes : List ℕ) × (s ≡ Record bytes)

pub none_where : (r : Result (Option (Vec ℕ Global)) RecordFault) (s : Stored) → Tells r s → ComesWhere (r ≡ Ok None) (s ≡ Blank) (r ≡ Err DiskFault)
none_where (Ok None) s is = record { only = λ e. is; always = λ e. inl refl }
none_where (Ok (Some v)) s is = record { only = λ e. absurd (cc); always = λ e. absurd (cc) }
none_where (Err DiskFault) s is = record { only = λ e. absurd (cc); always = λ e. inr refl }
none_where (Err TooLong) s is = record { only = λ e. absurd (cc); always = λ e. absurd (cc) }
none_where (Err NoMemory) s is = let p = is.1 in record { only = λ e. absurd (cc); always = λ e. absurd (cc) }

pub bad_length_where : (r : Result (Option (Vec ℕ Global)) RecordFault) (s : Stored) → Tells r s → ComesWhere (r ≡ Err TooLong) (s ≡ BadLength) (r ≡ Err DiskFault)
bad_length_where (Ok None) s is = record { only = λ e. absurd (cc); always = λ e. absurd (cc) }
bad_length_where (Ok (Some v)) s is = record { only = λ e. absurd (cc); always = λ e. absurd (cc) }
bad_length_where (Err DiskFault) s is = record { only = λ e. absurd (cc); always = λ e. inr refl }
bad_length_where (Err TooLong) s is = record { only = λ e. is; always = λ e. inl refl }
bad_length_where (Err NoMemory) s is = let p = is.1 in record { only = λ e. absurd (cc); always = λ e. absurd (cc) }
