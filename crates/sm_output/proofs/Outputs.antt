-- What is written, put together from its parts.
use Rattle.std.proofs.Common.{◌≡◌, ◌⊎◌, ℕ, ◌<◌, Bool, List, [], ◌∷◌, ◌++◌, take, append_assoc, append-nil, length-append, inl, inr, refl, sym, ap, ◌∙◌, arith, Option, Some, None, length, Result, Ok, Err}
use Rattle.std.specs.Prelude.{OnErr}
use Rattle.std.proofs.Math.Seq.{take-length}
use Rattle.std.specs.Io.KnownBytes.{append_known}
use Rattle.sm_model.specs.declared.reply.Entry.{Entry}
use Rattle.sm_report.specs.Transcript.{transcript}
use Rattle.sm_stream.specs.Whole.{GotPart}
use Rattle.sm_output.specs.declared.status.Status as the_status
use Rattle.sm_output.specs.declared.status.Status.TheVariants as statuses
use Rattle.sm_output.specs.Output.{body, last_line, closing, IsFront, IsOutput, EndsBy, PrintsAll, PrintsPart, IsPrinted}

-- ---- the texts

pub whole_front : (history : List Entry) (text : List ℕ) → text ≡ transcript history → IsFront history text
whole_front history text e = (length history, e ∙ ap transcript (sym (take-length history)))

-- the front is as it was to be
pub whole_output : (listed : Bool) (status : the_status.Status) (history : List Entry) (text : List ℕ) → text ++ closing status ≡ body listed status history ++ last_line status
    → IsOutput listed status history (text ++ closing status)
whole_output listed statuses.NoMemory history text e = (transcript history, whole_front history (transcript history) refl, e)
whole_output listed status history text e = e

-- memory ran out
pub front_output : (listed : Bool) (history : List Entry) (text : List ℕ) → IsFront history text → IsOutput listed statuses.NoMemory history (text ++ closing statuses.NoMemory)
front_output listed history text front = (text, front, refl)

-- ---- two texts to a sink

pub on_err : {T E A B : Type 0} → (r : Result T E) → (A → B) → OnErr r A → OnErr r B
on_err (Ok x) f h = h
on_err (Err e) f h = f h

pub twice : (old mid new : Option (List ℕ)) (a b : List ℕ) → mid ≡ append_known old a → new ≡ append_known mid b → new ≡ append_known old (a ++ b)
twice None mid new a b e f = rw e at f
twice (Some xs) mid new a b e f = (rw e at f) ∙ ap Some (append_assoc xs a b)

longer : (a b : List ℕ) → 0 < length a → 0 < length (a ++ b)
longer a b h = simp length-append (omega arith)

-- a part of the first came
pub part_of_first : (old new : Option (List ℕ)) (a b : List ℕ) → GotPart old new a → GotPart old new (a ++ b)
part_of_first old new a b (rest, left, (front, is, came)) = (rest ++ b, longer rest b left, (front, rw is (append_assoc front rest b), came))

-- the first came, and a part of the second
pub part_of_second : (old mid new : Option (List ℕ)) (a b : List ℕ) → mid ≡ append_known old a → GotPart mid new b → GotPart old new (a ++ b)
part_of_second old mid new a b e (rest, left, (front, is, came)) =
    (rest, left, (a ++ front, ap (λ t. a ++ t) is ∙ sym (append_assoc a front rest), twice old mid new a front e came))

-- ---- how the call ends

pub all_printed : (listed : Bool) (before status : the_status.Status) (history : List Entry) (old new : Option (List ℕ)) (failed : Type 0) (text : List ℕ) → EndsBy before status
    → IsOutput listed status history (text ++ closing status) → new ≡ append_known old (text ++ closing status) → IsPrinted listed before history old new failed status
all_printed listed before status history old new failed text ends output came = inl (record { ends = ends; text = text ++ closing status; output = output; came = came })

pub part_printed : (listed : Bool) (before status : the_status.Status) (history : List Entry) (old new : Option (List ℕ)) (failed : Type 0) (text : List ℕ) → EndsBy before status
    → IsOutput listed status history (text ++ closing status) → failed → GotPart old new (text ++ closing status) → IsPrinted listed before history old new failed statuses.WriteFault
part_printed listed before status history old new failed text ends output rose (rest, left, (front, is, came)) = inr (
  rose,
  record {
    is = refl;
    would = status;
    ends = ends;
    front = front;
    rest = rest;
    left = left;
    output = rw is at output;
    came = came;
  },
)
