-- Steps that fail.
use Rattle.std.proofs.Common.{Result, Ok, Err, ap}
use Rattle.sm_grammar.specs.declared.fault.LineKind.{LineKind}
use Rattle.sm_grammar.specs.declared.fault.LineFault.{LineFault}
use Rattle.sm_grammar.specs.declared.fault.LineFault.TheVariants as faults
use Rattle.sm_grammar.specs.Fault.{◌>>=◌, AnswersBy}

-- where the first step fails, all fails alike
pub fails : {A B C D : Type 0} (f : A → B) (h : C → D) (fault : LineFault) (given : Result B LineKind) (more : B → Result D LineKind) →
    AnswersBy f (Err fault) given → AnswersBy h (Err fault) (given >>= more)
fails f h (faults.Bad kind) given more e = ap (λ r. r >>= more) e
fails f h faults.NoMemory given more e = tt

-- where the first step gives a value, the next ones decide
pub goes_on : {A B C D : Type 0} (f : A → B) (h : C → D) (x : A) (answer : Result C LineFault) (given : Result B LineKind) (more : B → Result D LineKind) →
    AnswersBy f (Ok x) given → AnswersBy h answer (more (f x)) → AnswersBy h answer (given >>= more)
goes_on f h x answer given more e next = let P : Result _ LineKind → Type 0 = λ r. AnswersBy h answer (r >>= more) in rw e next
