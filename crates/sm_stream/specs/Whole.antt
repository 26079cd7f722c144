-- What reading to the end and writing all of a text do to the known bytes.
use Rattle.std.specs.Prelude.{◌≡◌, ℕ, ◌<◌, ◌≤◌, List, ◌++◌, length, Option}
use Rattle.std.specs.Io.KnownBytes.{prepend_known, append_known}

-- so many bytes came
abbrev pub Took : ℕ → Option (List ℕ) → Option (List ℕ) → Type 0
Took n old new = (bytes : List ℕ) × (length bytes ≡ n) × (old ≡ prepend_known bytes new)

-- at most so many bytes came
abbrev pub TookAtMost : ℕ → Option (List ℕ) → Option (List ℕ) → Type 0
TookAtMost n old new = (bytes : List ℕ) × (length bytes ≤ n) × (old ≡ prepend_known bytes new)

-- the bytes before this rest came to what is held
abbrev pub GotAllBut : Option (List ℕ) → Option (List ℕ) → List ℕ → List ℕ → Type 0
GotAllBut old new bytes rest = (front : List ℕ) × (bytes ≡ front ++ rest) × (new ≡ append_known old front)

-- a front of the bytes came to what is held
abbrev pub GotFront : Option (List ℕ) → Option (List ℕ) → List ℕ → Type 0
GotFront old new bytes = (rest : List ℕ) × GotAllBut old new bytes rest

-- a front of the bytes came to what is held, and not all of them
abbrev pub GotPart : Option (List ℕ) → Option (List ℕ) → List ℕ → Type 0
GotPart old new bytes = (rest : List ℕ) × (0 < length rest) × GotAllBut old new bytes rest
