-- Formats: which fields stand behind one another, and what each must meet. Neither a reader nor a writer is told here.
use Rattle.std.specs.Prelude.{ℕ, zero, suc, List, [], ◌∷◌, ◌++◌, Bool, true, false, nat_le, ◌==◌, Option, None, Some}
use Rattle.sm_base.specs.declared.numbers.Ident.{Ident}

-- how many bytes a number has
pub data Size : Type 0 where
  bits8 : Size
  bits32 : Size
  bits64 : Size

-- A format of values of the type A.
pub data Format : Type 0 → Type 1 where
  -- no byte, and this value
  empty : {A : Type 0} → A → Format A
  -- a number, its highest byte first
  number : Size → Format ℕ
  -- one byte of length, at most so much, and that many bytes
  text : ℕ → Format (List ℕ)
  -- a field whose value meets a test; one that fails it is a fault of the field's first byte
  such_that : {A : Type 0} → Format A → (A → Bool) → Format A
  -- a field, and behind it what its value asks for
  then : {A B : Type 0} → Format A → (A → Format B) → Format B

infixl 10 ◌>>=◌
abbrev pub ◌>>=◌ : {A B : Type 0} → Format A → (A → Format B) → Format B
f >>= next = Format.then f next

-- a number at most so much
abbrev pub count : ℕ → Format ℕ
count most = Format.such_that (Format.number bits32) (λ n. nat_le n most)

-- 0 for false, 1 for true
abbrev pub truth : Format Bool
truth = do
  n ← Format.such_that (Format.number bits8) (λ n. nat_le n 1)
  Format.empty (n == 1)

-- the origin, and the number
abbrev pub identity : Format Ident
identity = do
  origin ← Format.number bits32
  seq ← Format.number bits64
  Format.empty (record { origin = origin; seq = seq })

-- the value, where one stands
abbrev pub where_it_stands : {A : Type 0} → Bool → Format A → Format (Option A)
where_it_stands false f = Format.empty None
where_it_stands true f = f >>= λ x. Format.empty (Some x)

-- 0, or 1 and the value
abbrev pub option : {A : Type 0} → Format A → Format (Option A)
option f = do
  stands ← truth
  where_it_stands stands f

-- these bytes
unfoldable pub word : List ℕ → Format Bool
word [] = Format.empty true
word (b ∷ bytes) = do
  first ← Format.such_that (Format.number bits8) (λ n. n == b)
  word bytes

-- so many values, where the format of each may ask for what was before it
unfoldable pub in_turn : {A : Type 0} → (List A → Format A) → List A → ℕ → Format (List A)
in_turn next before zero = Format.empty []
in_turn next before (suc n) = do
  x ← next before
  others ← in_turn next (before ++ x ∷ []) n
  Format.empty (x ∷ others)

-- so many numbers, each of which meets a test that may ask for those before it
abbrev pub numbers : Size → (List ℕ → ℕ → Bool) → ℕ → Format (List ℕ)
numbers size holds n = in_turn (λ before. Format.such_that (Format.number size) (holds before)) [] n

-- a magic word and the length of what stands behind it
abbrev pub head : List ℕ → ℕ → Format Bool
head magic behind = do
  first ← word magic
  stated ← Format.such_that (Format.number bits32) (λ n. n == behind)
  Format.empty true
