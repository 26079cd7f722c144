-- Which bytes spell a value of a format, and where bytes have their first fault.
use Rattle.std.specs.Prelude.{◌≡◌, ℕ, ◌+◌, ◌^◌, ◌<◌, ◌≤◌, ◌⊎◌, List, [], ◌∷◌, ◌++◌, length, Bool, true, false, Option, Some, None}
use Rattle.std.specs.Int.{w32, w64, to_be_bytes}
use Rattle.sm_fields.specs.Format.{Format, Size, bits8, bits32, bits64}
use Rattle.sm_base.specs.declared.numbers.Ident.{Ident}

-- the one spelling of a number
unfoldable pub digits : Size → ℕ → List ℕ
digits bits8 n = n ∷ []
digits bits32 n = to_be_bytes w32 n
digits bits64 n = to_be_bytes w64 n

abbrev pub limit : Size → ℕ
limit bits8 = 2 ^ 8
limit bits32 = 2 ^ 32
limit bits64 = 2 ^ 64

-- the one spelling of a text
abbrev pub with_length : List ℕ → List ℕ
with_length text = length text ∷ text

-- These bytes, all of them, spell this value.
abbrev pub Spells : {A : Type 0} → Format A → A → List ℕ → Type 0
Spells (Format.empty a) value bytes = (value ≡ a) × (bytes ≡ [])
Spells (Format.number size) value bytes = (value < limit size) × (bytes ≡ digits size value)
Spells (Format.text most) value bytes = (length value ≤ most) × (bytes ≡ with_length value)
Spells (Format.such_that f holds) value bytes = Spells f value bytes × (holds value ≡ true)
Spells (Format.then {A} f next) value bytes = (first : A) × (front back : List ℕ) × Spells f first front × Spells (next first) value back × (bytes ≡ front ++ back)

-- The bytes begin with a spelling of this value; behind it stands the rest.
abbrev pub BeginsWith : {A : Type 0} → Format A → A → List ℕ → List ℕ → List ℕ → Type 0
BeginsWith f value bytes front rest = Spells f value front × (bytes ≡ front ++ rest)

-- The bytes begin with no spelling at all.
abbrev pub BeginsWithNone : {A : Type 0} → Format A → List ℕ → Type 0
BeginsWithNone {A} f bytes = (value : A) (front rest : List ℕ) → BeginsWith f value bytes front rest → ⊥

-- The first fault of bytes that begin with no spelling, counted in bytes from the first: a number or a text that does
-- not stand there or that the end cuts off, or a field whose value fails its test.
abbrev pub Fault : {A : Type 0} → Format A → List ℕ → ℕ → Type 0
Fault (Format.empty a) bytes at = ⊥
Fault (Format.number size) bytes at = (at ≡ 0) × BeginsWithNone (Format.number size) bytes
Fault (Format.text most) bytes at = (at ≡ 0) × BeginsWithNone (Format.text most) bytes
Fault (Format.such_that {A} f holds) bytes at =
    Fault f bytes at ⊎ ((at ≡ 0) × (value : A) × (front rest : List ℕ) × BeginsWith f value bytes front rest × (holds value ≡ false))
Fault (Format.then {A} f next) bytes at =
    Fault f bytes at ⊎ ((first : A) × (front rest : List ℕ) × BeginsWith f first bytes front rest × (further : ℕ) × Fault (next first) rest further × (at ≡ length front + further))

-- The first fault of bytes that are to be one spelling and nothing behind it: bytes left over are named by the first.
abbrev pub FirstFault : {A : Type 0} → Format A → List ℕ → ℕ → Type 0
FirstFault {A} f bytes at =
    Fault f bytes at ⊎ ((value : A) × (front rest : List ℕ) × BeginsWith f value bytes front rest × (0 < length rest) × (at ≡ length front))

abbrev pub truth_digits : Bool → List ℕ
truth_digits false = 0 ∷ []
truth_digits true = 1 ∷ []

abbrev pub identity_digits : Ident → List ℕ
identity_digits i = digits bits32 i.origin ++ digits bits64 i.seq

abbrev pub IsIdentity : Ident → Type 0
IsIdentity i = (i.origin < limit bits32) × (i.seq < limit bits64)

abbrev pub option_digits : {A : Type 0} → (A → List ℕ) → Option A → List ℕ
option_digits spelling None = truth_digits false
option_digits spelling (Some x) = truth_digits true ++ spelling x

-- Each spelling of the format is that of a value that fits, and each value that fits has this spelling and no other.
pub record IsSpelledBy {A : Type 0} (f : Format A) (Fits : A → Type 0) (spelling : A → List ℕ) : Type 0 where
  pub only : (value : A) (bytes : List ℕ) → Spells f value bytes → Fits value × (bytes ≡ spelling value)
  pub spelled : (value : A) → Fits value → Spells f value (spelling value)

-- each member fits behind those before it
abbrev pub AllInTurn : {A : Type 0} → (List A → A → Type 0) → List A → List A → Type 0
AllInTurn Fits before [] = Unit {0}
AllInTurn Fits before (x ∷ xs) = Fits before x × AllInTurn Fits (before ++ x ∷ []) xs
