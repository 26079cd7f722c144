-- What a call that reads a format answers.
use Rattle.std.specs.Prelude.{◌≡◌, ℕ, Result, Ok, Err, Option, Some, IfSome}
use Rattle.sm_fields.specs.Format.{Format}
use Rattle.sm_fields.specs.Place.{Place}
use Rattle.sm_fields.specs.Reading.{read}
use Rattle.sm_fields.specs.declared.fault.FieldFault.{FieldFault}

-- What was answered, seen by view, and where the reader stands then, is what reading this format gives; a reader that
-- fails stays where it was.
abbrev pub Reads : {X A : Type 0} → (X → A) → Format A → Place → Result X FieldFault → Place → Type 0
Reads view f old (Ok x) new = read f old ≡ Ok (view x, new)
Reads view f old (Err fault) new = (read f old ≡ Err fault.at) × (new ≡ old)

-- The same for a part of several fields: after a fault nothing is said of where the reader stands. An error is a fault at
-- some byte, or want of memory, which may come in the place of every answer.
abbrev pub Gives : {X A E : Type 0} → (E → Option ℕ) → (X → A) → Format A → Place → Result X E → Place → Type 0
Gives fault_of view f old (Ok x) new = read f old ≡ Ok (view x, new)
Gives fault_of view f old (Err e) new = IfSome (fault_of e) (λ at. read f old ≡ Err at)

-- The same for a call that reads a whole record: what was answered, seen by view, is what reading gives, or want of memory.
abbrev pub Tells : {X A E : Type 0} → (E → Option ℕ) → (X → A) → Result X E → Result A ℕ → Type 0
Tells fault_of view (Ok x) read = read ≡ Ok (view x)
Tells fault_of view (Err e) read = IfSome (fault_of e) (λ at. read ≡ Err at)

abbrev pub at_byte : FieldFault → Option ℕ
at_byte fault = Some fault.at
