-- The laws of a record that fills its bytes, and that a fault and a spelling exclude each other.
use Rattle.std.proofs.Common.{◌≡◌, ℕ, ◌+◌, ◌↔◌, false, cond, eqb, List, [], ◌++◌, length, Ok, Err, refl, sym, ap, subst, ◌∙◌, arith, inl, inr}
use Rattle.std.proofs.lemmas.Bool.{eqb-true}
use Rattle.std.proofs.lemmas.List.{append-nil, nil_from_length}
use Rattle.std.specs.Prelude.{IfOk, IfErr, IfSome, Option, Some, None, Result}
use Rattle.sm_fields.specs.Reads.{Tells}
use Rattle.sm_fields.specs.Format.{Format}
use Rattle.sm_fields.specs.Grammar.{Spells, BeginsWithNone, Fault, FirstFault, IsSpelledBy}
use Rattle.sm_fields.specs.Place.{Place, IsBytes, Takes}
use Rattle.sm_fields.specs.Reading.{read, whole}
use Rattle.sm_fields.proofs.Exact.{chosen_ok, chosen_err, and_then_ok, and_then_err, read_takes, read_again, read_faults, faults_stop}

abbrev standing : ℕ → List ℕ → Place
standing at bytes = record { at = at; rest = bytes }

-- no bytes have both a spelling at their front and a fault
pub fault_means_none : {A : Type 0} (f : Format A) (bytes : List ℕ) (further : ℕ) → IsBytes bytes → Fault f bytes further → BeginsWithNone f bytes
fault_means_none f bytes further fits fault value front rest b =
    let one = faults_stop f bytes further 0 fits fault in
    let two = read_again f value 0 bytes front rest b.0 b.1 in
    absurd cc

pub whole_spelled : {A : Type 0} (f : Format A) (bytes : List ℕ) (value : A) → IsBytes bytes → whole f bytes ≡ Ok value → Spells f value bytes
whole_spelled f bytes value fits e =
    let a = and_then_ok (read f (standing 0 bytes)) (λ x. cond (eqb (length x.1.rest) 0) (Ok x.0) (Err x.1.at)) value e in
    let g = chosen_ok (eqb (length a.0.1.rest) 0) a.0.1.at a.0.0 value a.2 in
    let t = read_takes f (standing 0 bytes) a.0 fits a.1 in
    let nothing : a.0.1.rest ≡ [] = nil_from_length a.0.1.rest (eqb-true _ _ g.0) in
    let all : bytes ≡ t.0.0 = t.0.2 ∙ ap (λ (r : List ℕ). t.0.0 ++ r) nothing ∙ append-nil t.0.0 in
    subst (λ v. Spells f v bytes) g.1 (subst (Spells f a.0.0) (sym all) t.0.1)

pub whole_again : {A : Type 0} (f : Format A) (bytes : List ℕ) (value : A) → Spells f value bytes → whole f bytes ≡ Ok value
whole_again f bytes value spelled = rw (read_again f value 0 bytes bytes [] spelled (sym (append-nil bytes))) refl

pub whole_faults : {A : Type 0} (f : Format A) (bytes : List ℕ) (at : ℕ) → IsBytes bytes → whole f bytes ≡ Err at → FirstFault f bytes at
whole_faults f bytes at fits e =
    elim (and_then_err (read f (standing 0 bytes)) (λ x. cond (eqb (length x.1.rest) 0) (Ok x.0) (Err x.1.at)) at e) [
      | inl failed ↦ let t = read_faults f (standing 0 bytes) at fits failed in inl (subst (Fault f bytes) (omega (arith, t.2)) t.1)
      | inr a ↦
          let g = chosen_err (eqb (length a.0.1.rest) 0) a.0.1.at at a.0.0 a.2 in
          let t = read_takes f (standing 0 bytes) a.0 fits a.1 in
          inr (a.0.0, t.0.0, a.0.1.rest, (t.0.1, t.0.2), grind (arith, g.0), omega (arith, g.1, t.0.3))
    ]

pub whole_stops : {A : Type 0} (f : Format A) (bytes : List ℕ) (at : ℕ) → IsBytes bytes → FirstFault f bytes at → whole f bytes ≡ Err at
whole_stops f bytes at fits fault =
    elim fault [
      | inl inner ↦ rw (faults_stop f bytes at 0 fits inner) (ap Err (omega arith))
      | inr t ↦
          let one = read_again f t.0 0 bytes t.1 t.2 t.3.0 t.3.1 in
          let left : eqb (length t.2) 0 ≡ false = grind (arith, t.4) in
          let place : 0 + length t.1 ≡ at = omega (arith, t.5) in
          rw (one, left) (ap Err place)
    ]

-- ---- what a reader's call answers

pub fits_of : (p q : Place) → p ≡ q → IsBytes p.rest → IsBytes q.rest
fits_of p q e fits = subst (λ (x : Place). IsBytes x.rest) e fits

pub found_at : {A : Type 0} (f : Format A) (old : Place) (value : A) (new : Place) → IsBytes old.rest → read f old ≡ Ok (value, new) → Takes f old value new
found_at f old value new fits e = (read_takes f old (value, new) fits e).0

pub none_at : {A : Type 0} (f : Format A) (old : Place) (at : ℕ) → IsBytes old.rest → read f old ≡ Err at → BeginsWithNone f old.rest
none_at f old at fits e = let t = read_faults f old at fits e in fault_means_none f old.rest t.0 fits t.1

pub fault_iff : {A : Type 0} (f : Format A) (bytes : List ℕ) (at : ℕ) → IsBytes bytes → (read f (standing 0 bytes) ≡ Err at ↔ Fault f bytes at)
fault_iff f bytes at fits = (
  (λ e. let t = read_faults f (standing 0 bytes) at fits e in subst (Fault f bytes) (omega (arith, t.2)) t.1),
  (λ fault. faults_stop f bytes at 0 fits fault ∙ ap Err (omega arith)),
)

-- a spelling at the front is read
pub spelled_is_read : {A : Type 0} (f : Format A) (Fits : A → Type 0) (spelling : A → List ℕ) → IsSpelledBy f Fits spelling
    → (value : A) (at len : ℕ) (rest : List ℕ) → Fits value → length (spelling value) ≡ len → read f (standing at (spelling value ++ rest)) ≡ Ok (value, standing (at + len) rest)
spelled_is_read f Fits spelling by value at len rest fits is =
    read_again f value at (spelling value ++ rest) (spelling value) rest (by.spelled value fits) refl ∙ ap (λ (n : ℕ). Ok (value, standing (at + n) rest)) is

pub same_spelling : {A : Type 0} (f : Format A) (Fits : A → Type 0) (spelling : A → List ℕ) → IsSpelledBy f Fits spelling
    → (value : A) (a b : List ℕ) → Spells f value a → Spells f value b → a ≡ b
same_spelling f Fits spelling by value a b s t = (by.only value a s).1 ∙ sym (by.only value b t).1

-- ---- what a call answers that reads a whole record

pub tells_spelled : {X A E : Type 0} (fault_of : E → Option ℕ) (view : X → A) (f : Format A) (bytes : List ℕ) (r : Result X E) → IsBytes bytes → Tells fault_of view r (whole f bytes)
    → IfOk r (λ x. Spells f (view x) bytes)
tells_spelled fault_of view f bytes (Ok x) fits told = whole_spelled f bytes (view x) fits told
tells_spelled fault_of view f bytes (Err e) fits told = tt

first_at : {A : Type 0} (f : Format A) (bytes : List ℕ) (byte : Option ℕ) → IsBytes bytes → IfSome byte (λ at. whole f bytes ≡ Err at) → IfSome byte (FirstFault f bytes)
first_at f bytes None fits told = tt
first_at f bytes (Some at) fits told = whole_faults f bytes at fits told

pub tells_first : {X A E : Type 0} (fault_of : E → Option ℕ) (view : X → A) (f : Format A) (bytes : List ℕ) (r : Result X E) → IsBytes bytes → Tells fault_of view r (whole f bytes)
    → IfErr r (λ e. IfSome (fault_of e) (FirstFault f bytes))
tells_first fault_of view f bytes (Ok x) fits told = tt
tells_first fault_of view f bytes (Err e) fits told = first_at f bytes (fault_of e) fits told
