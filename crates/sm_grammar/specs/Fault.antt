-- Steps that may fail.
use Rattle.std.specs.Prelude.{◌≡◌, Result, Ok, Err}
use Rattle.sm_grammar.specs.declared.fault.LineKind.{LineKind}
use Rattle.sm_grammar.specs.declared.fault.LineFault.{LineFault}
use Rattle.sm_grammar.specs.declared.fault.LineFault.TheVariants as faults

infixl 10 ◌>>=◌
abbrev pub ◌>>=◌ : {A B E : Type 0} → Result A E → (A → Result B E) → Result B E
(Ok x) >>= f = f x
(Err e) >>= f = Err e

-- an answer is what the definition gives, seen through f, unless memory ran out
abbrev pub AnswersBy : {A B : Type 0} → (A → B) → Result A LineFault → Result B LineKind → Type 0
AnswersBy f (Ok x) given = given ≡ Ok (f x)
AnswersBy f (Err (faults.Bad kind)) given = given ≡ Err kind
AnswersBy f (Err faults.NoMemory) given = Unit {0}

abbrev pub Answers : {A : Type 0} → Result A LineFault → Result A LineKind → Type 0
Answers answer given = AnswersBy (λ x. x) answer given
