-- What a step took where it gave a value.
use Rattle.std.proofs.Common.{◌≡◌, Bool, true, false, cond, Option, Some, None, Result, Ok, Err, ok_or, refl, ap}
use Rattle.sm_grammar.specs.declared.fault.LineKind.{LineKind}
use Rattle.sm_grammar.specs.Fault.{◌>>=◌}

pub bind_taken : {A B E : Type 0} (r : Result A E) (f : A → Result B E) (y : B) → (r >>= f) ≡ Ok y → (x : A) × (r ≡ Ok x) × (f x ≡ Ok y)
bind_taken (Ok x) f y e = (x, refl, e)
bind_taken (Err kind) f y e = absurd (cc)

-- the second of two was given, since the first is a fault
pub not_first : {A E : Type 0} (t : Bool) (kind : E) (r : Result A E) (y : A) → cond t (Err kind) r ≡ Ok y → (t ≡ false) × (r ≡ Ok y)
not_first true kind r y e = absurd (cc)
not_first false kind r y e = (refl, e)

pub not_second : {A E : Type 0} (t : Bool) (kind : E) (r : Result A E) (y : A) → cond t r (Err kind) ≡ Ok y → (t ≡ true) × (r ≡ Ok y)
not_second true kind r y e = (refl, e)
not_second false kind r y e = absurd (cc)

pub some_taken : {A E : Type 0} (o : Option A) (kind : E) (y : A) → ok_or o kind ≡ Ok y → o ≡ Some y
some_taken None kind y e = absurd (cc)
some_taken (Some x) kind y e = let same : Ok x ≡ Ok y = e in cc

-- two values that were given are one
abbrev pub Same : {A : Type 0} → A → A → Type 0
Same {A} x y = let given : Result A LineKind = Ok x in given ≡ Ok y

abbrev value_or : {A E : Type 0} → A → Result A E → A
value_or d (Ok x) = x
value_or d (Err kind) = d

pub ok_same : {A : Type 0} (x y : A) → Same x y → x ≡ y
ok_same {A} x y e = let f : Result A LineKind → A = value_or x in ap f e
