-- How to go through an answer, refusal by refusal.
use Rattle.std.proofs.Common.{◌≡◌, Bool, true, false, Option, Some, None, Result, Ok, Err, refl, subst}
use Rattle.sm_defs.specs.May.{refused}
use Rattle.sm_base.specs.declared.refusal.Refusal.{Refusal}
use Rattle.sm_model.specs.Answers.{and_then, refused_if, allowed, some_or, ◌>>=◌, ◌>>◌, ◌when◌}

-- Q of what is refused
pub OfErr : {A : Type 0} → (Refusal → Type 0) → Result A Refusal → Type 0
OfErr Q (Ok x) = Unit {0}
OfErr Q (Err r) = Q r

-- past a test
pub past : {A : Type 0} (Q : Refusal → Type 0) (r : Refusal) (b : Bool) (m : Result A Refusal) → (b ≡ true → Q r) → (b ≡ false → OfErr Q m) → OfErr Q ((r when b) >> m)
unfolding OfErr and_then refused_if
past Q r true m q h = q refl
past Q r false m q h = h refl

-- past a test of a command, with others behind it
pub passing : {A : Type 0} (Q : Refusal → Type 0) (r : Refusal) (b : Bool) (o : Option Refusal) (m : Result A Refusal) → (b ≡ true → Q r) → (b ≡ false → OfErr Q (allowed o >> m)) → OfErr Q (allowed (refused r b o) >> m)
unfolding OfErr and_then allowed refused
passing Q r true o m q h = q refl
passing Q r false o m q h = h refl

-- past the last test of a command
pub passed : {A : Type 0} (Q : Refusal → Type 0) (r : Refusal) (b : Bool) (m : Result A Refusal) → (b ≡ true → Q r) → (b ≡ false → OfErr Q m) → OfErr Q (allowed (refused r b None) >> m)
unfolding OfErr and_then allowed refused
passed Q r true m q h = q refl
passed Q r false m q h = h refl

-- with what was found
pub with_found : {A B : Type 0} (Q : Refusal → Type 0) (r : Refusal) (o : Option A) (f : A → Result B Refusal) → Q r → ((x : A) → o ≡ Some x → OfErr Q (f x)) → OfErr Q (some_or r o >>= f)
unfolding OfErr and_then some_or
with_found Q r None f q h = q
with_found Q r (Some x) f q h = h x refl

-- with what an earlier part gives
pub with_ok : {A B : Type 0} (Q : Refusal → Type 0) (m : Result A Refusal) (f : A → Result B Refusal) → ((r : Refusal) → m ≡ Err r → Q r) → ((x : A) → m ≡ Ok x → OfErr Q (f x)) → OfErr Q (m >>= f)
unfolding OfErr and_then
with_ok Q (Err r) f q h = q r refl
with_ok Q (Ok x) f q h = h x refl

-- no more refusals
pub granted : {A : Type 0} (Q : Refusal → Type 0) (x : A) → OfErr Q (Ok x)
unfolding OfErr
granted Q x = tt

same_err : {A : Type 0} (y x : Refusal) → ◌≡◌ {A = Result A Refusal} (Err y) (Err x) → y ≡ x
same_err y x e = cc

pub from_err : {A : Type 0} (Q : Refusal → Type 0) (m : Result A Refusal) (r : Refusal) → OfErr Q m → m ≡ Err r → Q r
unfolding OfErr
from_err Q (Ok y) r h e = absurd (cc)
from_err {A = A} Q (Err s) r h e = subst Q (same_err {A = A} s r e) h
