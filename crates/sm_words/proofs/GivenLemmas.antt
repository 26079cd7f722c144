-- What the getters of the matches read, as what the rows give.
use Rattle.std.proofs.Common.{◌≡◌, ◌<◌, ◌≤◌, ◌^◌, ◌∙◌, ap, sym, refl, arith, codes, ℕ, Bool, true, false, List, Option, Some, None}
use Rattle.std.specs.Prelude.{Ok, Err, Result, unwrap_or}
use Rattle.std.specs.Str.{bytes_eq}
use Rattle.std.specs.Str.Parse.{ParsesUnsigned, ParsesBool}
use Rattle.std.proofs.lemmas.Slice.Eq.{bytes_eq-Decides}
use Rattle.clap.specs.Matches.{ReadsOne}
use Rattle.clap.specs.ValueTests.{is_unsigned_in}
use Rattle.clap.specs.Words.{Row, Text, first_of, one_of, one_text, rows_of}
use Rattle.clap.specs.declared.parser.matches.Found.{Found}
use Rattle.clap.specs.declared.builder.value_parser.ValueParser.TheVariants as vp
use Rattle.clap.proofs.ValueTestLemmas.{accepts-Accepts, Accepts-accepts}
use Rattle.clap.proofs.WalkLemmas.{one_text-rows}
use Rattle.sm_words.specs.Words.{flag_of, mode_named, number_in, number_of, options_from}
use Rattle.sm_words.specs.declared.options.Mode.{Mode}

not_true : (b : Bool) → (b ≡ true → ⊥) → b ≡ false
not_true true never = absurd (never refl)
not_true false never = refl

module _ (k most : ℕ) (within : (n : ℕ) → n < 2 ^ k → (n < 2 ^ 64) × (n ≤ most)) (below : (n : ℕ) → n ≤ most → n < 2 ^ k) where
  number_spelled : (E : Type 0) (G : Text → Result ℕ E → Type 0) → ((u : Text) (x : Result ℕ E) → G u x → ParsesUnsigned k 10 u x)
      → (t : Text) (r : Option ℕ) → ReadsOne G t r → unwrap_or r 0 ≡ number_in most t
  number_spelled E G only t (Some v) read =
      let parsed = only t (Ok v) read in
      let fits = within _ parsed.0.1 in
      let yes : is_unsigned_in 0 most t ≡ true = Accepts-accepts false (vp.Unsigned 0 most) t (parsed.0.0, fits.0, omega arith, fits.1) in
      rw yes parsed.1
  number_spelled E G only t None read =
      let none : is_unsigned_in 0 most t ≡ false = not_true _ (λ e.
      let a = accepts-Accepts false (vp.Unsigned 0 most) t e in
      only t (Err read.0) read.1 (a.0, below _ a.3)) in
      rw none refl

  pub number_read : (E : Type 0) (G : Text → Result ℕ E → Type 0) → ((u : Text) (x : Result ℕ E) → G u x → ParsesUnsigned k 10 u x)
      → (f : Found) (id : Text) (r : Option ℕ) → (one_text f id ≡ None → r ≡ None)
      → ((t : Text) → one_text f id ≡ Some t → ReadsOne G t r)
      → unwrap_or r 0 ≡ number_of most (one_of id (rows_of f))
  number_read E G only f id r none value = go (one_text f id) refl ∙ ap (number_of most) (one_text-rows f id)
    where
      go : (o : Option Text) → one_text f id ≡ o → unwrap_or r 0 ≡ number_of most o
      go None e = ap (λ (x : Option ℕ). unwrap_or x 0) (none e)
      go (Some t) e = number_spelled E G only t r (value t e)

flag_spelled : (E : Type 0) (t : Text) (r : Option Bool) → ReadsOne (λ (u : Text) (x : Result Bool E). ParsesBool u x) t r
    → unwrap_or r false ≡ bytes_eq t (codes "true")
flag_spelled E t (Some true) read = rw read refl
flag_spelled E t (Some false) read = rw read refl
flag_spelled E t None read = sym (not_true _ (λ e. read.1.0 ((bytes_eq-Decides t (codes "true")).0 e)))

pub flag_read : (E : Type 0) (f : Found) (id : Text) (r : Option Bool) → (one_text f id ≡ None → r ≡ None)
    → ((t : Text) → one_text f id ≡ Some t → ReadsOne (λ (u : Text) (x : Result Bool E). ParsesBool u x) t r)
    → unwrap_or r false ≡ flag_of (one_of id (rows_of f))
flag_read E f id r none value = go (one_text f id) refl ∙ ap flag_of (one_text-rows f id)
  where
    go : (o : Option Text) → one_text f id ≡ o → unwrap_or r false ≡ flag_of o
    go None e = ap (λ (x : Option Bool). unwrap_or x false) (none e)
    go (Some t) e = flag_spelled E t r (value t e)

pub no_name : (rows : List Row) → first_of (codes "mode") rows ≡ None → None ≡ options_from rows
no_name rows e = rw e refl

pub other_name : (rows : List Row) (name : Text) → first_of (codes "mode") rows ≡ Some name → mode_named name ≡ None
    → None ≡ options_from rows
other_name rows name e other = rw e (rw other refl)

pub given : (rows : List Row) (name : Text) (mode : Mode) (workers number : ℕ) (history : Bool)
    → first_of (codes "mode") rows ≡ Some name → mode_named name ≡ Some mode
    → workers ≡ number_of 4294967295 (one_of (codes "workers") rows)
    → number ≡ number_of 18446744073709551615 (one_of (codes "number") rows)
    → history ≡ flag_of (one_of (codes "history") rows)
    → Some (record { mode = mode; workers = workers; number = number; history = history }) ≡ options_from rows
given rows name mode workers number history e named w n h = rw e (rw named (rw (w, n, h) refl))
