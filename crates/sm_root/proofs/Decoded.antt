-- What decoding answers.
use Rattle.std.proofs.Common.{◌≡◌, ℕ, ◌^◌, ◌<◌, List, length, Result, Ok, Err, refl, subst}
use Rattle.std.specs.Prelude.{IfOk, IfErr, IfSome}
use Rattle.sm_fields.specs.Format.{Format}
use Rattle.sm_fields.specs.Grammar.{FirstFault}
use Rattle.sm_fields.specs.Place.{IsBytes}
use Rattle.sm_fields.specs.Reading.{whole}
use Rattle.sm_fields.specs.Reads.{Tells}
use Rattle.sm_fields.proofs.Alike.{Alike}
use Rattle.sm_fields.proofs.Whole.{whole_spelled, whole_again, whole_stops, tells_first}
use Rattle.sm_root.specs.declared.fault.RootFault.{RootFault}
use Rattle.sm_root.specs.declared.fault.RootFault.TheVariants.{Bad, NoMemory}
use Rattle.sm_root.specs.declared.root.Root.{Root}
use Rattle.sm_root.specs.Answer.{bad_byte, OrNoMemory}
use Rattle.sm_root.specs.ByTable.{record_by_table}
use Rattle.sm_root.specs.Condition.{IsRoot}
use Rattle.sm_root.specs.Layout.{root_record}
use Rattle.sm_root.specs.Spelling.{spelling}
use Rattle.sm_root.proofs.Tables.{record_alike}
use Rattle.sm_root.proofs.RootSpelled.{record_only, record_again}

whole_alike : {A : Type 0} (f g : Format A) (bytes : List ℕ) → Alike f g → whole f bytes ≡ whole g bytes
whole_alike f g bytes alike = rw (alike.at (record { at = 0; rest = bytes })) refl

abbrev pub ToldBy : List ℕ → Result Root RootFault → Type 0
ToldBy bytes r = Tells bad_byte (λ x. x) r (whole (root_record (length bytes)) bytes)

pub told : (bytes : List ℕ) (r : Result Root RootFault) → Tells bad_byte (λ x. x) r (whole (record_by_table (length bytes)) bytes) → ToldBy bytes r
told bytes r t = subst (Tells bad_byte (λ x. x) r) (whole_alike (record_by_table (length bytes)) (root_record (length bytes)) bytes (record_alike (length bytes))) t

pub is_found : (bytes : List ℕ) (r : Result Root RootFault) → IsBytes bytes → ToldBy bytes r → IfOk r (λ x. IsRoot x × (bytes ≡ spelling x))
is_found bytes (Ok x) fits t = record_only x bytes (whole_spelled (root_record (length bytes)) bytes x fits t)
is_found bytes (Err e) fits t = tt

answer_is : (r : Result Root RootFault) (x : Root) (read : Result Root ℕ) → read ≡ Ok x → Tells bad_byte (λ y. y) r read → OrNoMemory r (Ok x)
answer_is (Ok y) x read is t = cc
answer_is (Err (Bad at)) x read is t = absurd cc
answer_is (Err NoMemory) x read is t = tt

fault_is : (r : Result Root RootFault) (k : ℕ) (read : Result Root ℕ) → read ≡ Err k → Tells bad_byte (λ y. y) r read → OrNoMemory r (Err (Bad k))
fault_is (Ok y) k read is t = absurd cc
fault_is (Err (Bad at)) k read is t = cc
fault_is (Err NoMemory) k read is t = tt

pub is_read : (bytes : List ℕ) (r : Result Root RootFault) → length bytes < 2 ^ 32 → ToldBy bytes r → (x : Root) → IsRoot x → bytes ≡ spelling x → OrNoMemory r (Ok x)
is_read bytes r small t x is e = answer_is r x (whole (root_record (length bytes)) bytes) (whole_again (root_record (length bytes)) bytes x (record_again x bytes is small e)) t

pub is_first : (bytes : List ℕ) (r : Result Root RootFault) → IsBytes bytes → ToldBy bytes r → IfErr r (λ e. IfSome (bad_byte e) (FirstFault (root_record (length bytes)) bytes))
is_first bytes r fits t = tells_first bad_byte (λ x. x) (root_record (length bytes)) bytes r fits t

pub is_told : (bytes : List ℕ) (r : Result Root RootFault) → IsBytes bytes → ToldBy bytes r → (at : ℕ) → FirstFault (root_record (length bytes)) bytes at → OrNoMemory r (Err (Bad at))
is_told bytes r fits t at fault = fault_is r at (whole (root_record (length bytes)) bytes) (whole_stops (root_record (length bytes)) bytes at fits fault) t
